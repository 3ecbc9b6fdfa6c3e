use Rattle.std.proofs.Common.{◌<ℤ◌, ◌≤ℤ◌, ◌+◌, ◌^◌, pos, All, IfSome, take}
use Rattle.std.specs.List.{Any}
use Rattle.rc_column.specs.Edges.{PassesLines, BordersLine}
use Rattle.rc_column.proofs.ends.next_line.Given as goal

abbrev pub invariant-loop-tile : goal.invariant-loop-tile
invariant-loop-tile l = record {
  above : IfSome l.edge (λ e. l.after.at <ℤ e);
  there : IfSome l.edge (λ e. Any (BordersLine l.after.axis e) (take l.tile-index l.tiles));
  clear : All (PassesLines l.after.axis l.after.at l.edge) (take l.tile-index l.tiles);
  near : IfSome l.edge (λ e. e ≤ℤ pos (2 ^ 29 + 1));
}
