use Rattle.std.proofs.Common.{◌+ℤ◌, pos, All, subst, arith}
use Rattle.std.proofs.lemmas.Int.{ints}
use Rattle.std.proofs.lemmas.List.{take_all}
use Rattle.rc_geom.specs.Sums.{first_place}
use Rattle.rc_squares.specs.Crossing.{BeginsBeyond}
use Rattle.rc_squares.proofs.Crossed.{begins_more}
use Rattle.rc_squares.proofs.crossing.next_start.Goals as goal

pub loop-tile-preserved : goal.loop-tile-preserved
loop-tile-preserved g c =
    let first = first_place g.row.A c.args.area.now in
    record {
      later = c.sooner-next.ensures.later;
      within = omega (arith, c.sooner-next.ensures.within, c.loop-tile.invariant.within);
      starts = begins_more g.row.A c.args.layer (first +ℤ pos c.args.place) (first +ℤ pos c.loop-tile.next) (first +ℤ pos c.sooner-next.result) c.args.tiles.now c.loop-tile.tile-index _
          (omega arith) (omega (arith, ints, c.sooner-next.ensures.within)) c.loop-tile.invariant.starts c.sooner-next.ensures.starts;
    }

pub returns-clause-starts : goal.returns-clause-starts
returns-clause-starts g c =
    let first = first_place g.row.A c.args.area.now in
    subst (All (BeginsBeyond g.row.A c.args.layer (first +ℤ pos c.args.place) (first +ℤ pos c.loop-tile.next)))
    (take_all c.loop-tile.tile-index c.args.tiles.now (omega arith)) c.loop-tile.invariant.starts
