use Rattle.std.proofs.Common.{◌≡◌, ◌<◌, ◌^◌, take}
use Rattle.std.specs.List.{sum_by}
use Rattle.rc_rows_geometry.proofs.room.can_gather.Given as goal

abbrev pub invariant-loop-entry : goal.invariant-loop-entry
invariant-loop-entry l = record {
  counts : l.count ≡ sum_by (λ e. e.count) (take l.entry-index l.entries);
  values : l.value ≡ sum_by (λ e. e.value) (take l.entry-index l.entries);
  few : l.count < 2 ^ 64;
  low : l.value < 2 ^ 128;
}
