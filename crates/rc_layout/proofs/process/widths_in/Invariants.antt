-- The widths so far stand at their numbers.
use Rattle.std.proofs.Common.{◌≡◌, ℕ, ◌<◌, length, get_or, pos}
use Rattle.rc_layout.specs.Widths.{layer_width}
use Rattle.rc_layout.proofs.process.widths_in.Given as goal

abbrev pub invariant-loop-number : goal.invariant-loop-number
invariant-loop-number l = (length l.widths ≡ 32) × ((k : ℕ) → k < l.number → get_or l.widths k (pos 0) ≡ layer_width l.layers k)
