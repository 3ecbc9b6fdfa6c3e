-- Lengths of a design in units of the layout.
use Rattle.std.proofs.Common.{ℕ, ℤ, pos, negsuc, ◌≤◌, ◌^◌, ◌*◌, ◌*ℤ◌, arith}
use Rattle.std.specs.Prelude.{unsigned_abs, ◌≤ℤ◌}
use Rattle.std.proofs.lemmas.Int.{ints, unsigned_abs-mul}
use Rattle.std.proofs.Math.Nat.{mul-le-mul}

at_most : (k n : ℕ) → k * n ≤ 20000 * 2 ^ 29 → k * n ≤ 2 ^ 44
at_most k n h = omega (arith, h)

pub modest : (k : ℕ) (z : ℤ) → k ≤ 20000 → pos 0 ≤ℤ z → z ≤ℤ pos (2 ^ 29) → unsigned_abs (pos k *ℤ z) ≤ 2 ^ 44
modest k (pos n) few low high = let short : n ≤ 2 ^ 29 = omega (arith, ints) in rw (unsigned_abs-mul (pos k) (pos n)) (at_most k n (mul-le-mul few short))
modest k (negsuc n) few low high = absurd (omega (arith, ints))
