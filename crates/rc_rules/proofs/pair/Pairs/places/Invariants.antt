use Rattle.std.proofs.Common.{◌≡◌, ◌<◌, ℕ, length}
use Rattle.std.specs.Prelude.{◌/◌, ◌%◌, None, slice_index_or}
use Rattle.rc_rules.specs.LookUp.{table_for}
use Rattle.rc_rules.specs.Places.{layer_numbered}
use Rattle.rc_rules.proofs.pair.Pairs.places.Given as goal

abbrev pub invariant-loop-cell : goal.invariant-loop-cell
invariant-loop-cell l = record {
  size : length l.places ≡ l.cell;
  each : (k : ℕ) → k < l.cell → slice_index_or l.places k None ≡ table_for l.self (layer_numbered (k / 33)) (layer_numbered (k % 33));
}
