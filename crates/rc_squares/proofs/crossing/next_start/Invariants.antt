use Rattle.std.proofs.Common.{◌<◌, ◌≤◌, ◌+ℤ◌, pos, All, take}
use Rattle.rc_geom.specs.Sums.{extent, first_place, end_place}
use Rattle.rc_squares.specs.Crossing.{BeginsBeyond}
use Rattle.rc_squares.proofs.crossing.next_start.Given as goal

-- the next start so far lies behind the place, and none of the tiles so far begins between
abbrev pub invariant-loop-tile : goal.invariant-loop-tile
invariant-loop-tile g l =
    let first = first_place g.row.A l.area in
    record {
      later : l.place < l.next;
      within : l.next ≤ extent first (end_place g.row.A l.area);
      starts : All (BeginsBeyond g.row.A l.layer (first +ℤ pos l.place) (first +ℤ pos l.next)) (take l.tile-index l.tiles);
    }
