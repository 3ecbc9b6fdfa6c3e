use Rattle.std.proofs.Common.{◌≡◌, take}
use Rattle.std.specs.Prelude.{filter, ◌≤◌, ◌+◌}
use Rattle.std.specs.List.{count_by}
use Rattle.rc_sums.specs.Columns.{leaves}
use Rattle.rc_sums.proofs.Columns.{AreOut}
use Rattle.rc_sums.proofs.active.take_out.Given as goal

abbrev pub invariant-loop-tile : goal.invariant-loop-tile
invariant-loop-tile l = record {
  line : l.stack.line ≡ l.initial.stack.line;
  out : AreOut l.stack.tiles l.initial.stack.tiles (filter (leaves l.initial.stack.line l.next) (take l.tile-index l.tiles));
  kept : l.initial.edits ≤ l.edits;
  edits : l.edits ≤ l.initial.edits + count_by (leaves l.initial.stack.line l.next) (take l.tile-index l.tiles);
}
