use Rattle.std.proofs.Common.{◌<ℤ◌, ◌≤ℤ◌, ◌+◌, ◌^◌, pos, ℤ, All, List, Option, take, sym, subst}
use Rattle.rc_geom.specs.declared.tile.Tile.{Tile}
use Rattle.std.specs.Prelude.{IfSome}
use Rattle.std.proofs.lemmas.List.{take_all}
use Rattle.std.specs.List.{Any}
use Rattle.rc_column.specs.Edges.{PassesLines, BordersLine}
use Rattle.rc_column.proofs.Edges.{passes_lines_more, borders_more, near_lines, above_ends}
use Rattle.rc_column.proofs.ends.next_line.Goals as goal

pub loop-tile-preserved : goal.loop-tile-preserved
loop-tile-preserved c =
    let after = c.args.after in
    let tiles = c.args.tiles.now in
    let i = c.loop-tile.tile-index in
    let is = sym c.sooner_line-edge.ensures.is in
    record {
      above = subst (λ (e : Option ℤ). IfSome e (λ n. after.at <ℤ n)) is (above_ends c.loop-tile.edge _ _ after.at c.loop-tile.invariant.above);
      there = subst (λ (e : Option ℤ). IfSome e (λ n. Any (BordersLine after.axis n) (take (i + 1) tiles))) is (borders_more after.axis after.at c.loop-tile.edge tiles i _ c.loop-tile-test.true c.loop-tile.invariant.there);
      clear = subst (λ (e : Option ℤ). All (PassesLines after.axis after.at e) (take (i + 1) tiles)) is (passes_lines_more after.axis after.at c.loop-tile.edge tiles i _ c.loop-tile-test.true c.loop-tile.invariant.clear);
      near = subst (λ (e : Option ℤ). IfSome e (λ n. n ≤ℤ pos (2 ^ 29 + 1))) is (near_lines c.loop-tile.edge after.axis after.at tiles i _ c.loop-tile-test.true c.requires c.loop-tile.invariant.near);
    }

pub returns-clause-clear : goal.returns-clause-clear
returns-clause-clear c = subst (All (PassesLines c.args.after.axis c.args.after.at c.loop-tile.edge)) (take_all c.loop-tile.tile-index c.args.tiles.now c.loop-tile-test.false) c.loop-tile.invariant.clear

pub returns-clause-there : goal.returns-clause-there
returns-clause-there c = subst (λ (ts : List Tile). IfSome c.loop-tile.edge (λ e. Any (BordersLine c.args.after.axis e) ts)) (take_all c.loop-tile.tile-index c.args.tiles.now c.loop-tile-test.false) c.loop-tile.invariant.there
