-- Half of a sum, rounded down.
use Rattle.std.proofs.Common.{◌≤◌, ◌<◌, ℤ, pos, negsuc, ◌+ℤ◌, ◌-ℤ◌, ◌≤ℤ◌, ◌<ℤ◌, arith}
use Rattle.std.specs.Prelude.{unsigned_abs}
use Rattle.std.specs.Int.{int_div_euclid}
use Rattle.std.proofs.lemmas.Int.{ints}
use Rattle.rc_geom.specs.Split.{middle, reach_to}

-- twice the half is the number, or one less
pub half : (z : ℤ) → ((int_div_euclid z (pos 2) +ℤ int_div_euclid z (pos 2)) ≤ℤ z) × (z <ℤ (int_div_euclid z (pos 2) +ℤ int_div_euclid z (pos 2) +ℤ pos 2))
half (pos a) = (omega (arith, ints), omega (arith, ints))
half (negsuc a) = (omega (arith, ints), omega (arith, ints))

abs_low : (a b : ℤ) → (a +ℤ b) ≤ℤ pos 0 → b ≤ℤ a → unsigned_abs a ≤ unsigned_abs b
abs_low a b h k = grind (arith, ints)

abs_high : (a b : ℤ) → pos 0 <ℤ (a +ℤ b) → b <ℤ a → unsigned_abs b < unsigned_abs a
abs_high a b h k = grind (arith, ints)

pub nearer_low : (lo hi s : ℤ) → lo <ℤ hi → s <ℤ middle lo hi → reach_to s lo ≤ reach_to s hi
nearer_low lo hi s order before =
    let h = half (lo +ℤ hi +ℤ pos 1) in
    abs_low ((s +ℤ s +ℤ pos 1) -ℤ (lo +ℤ lo)) ((s +ℤ s +ℤ pos 1) -ℤ (hi +ℤ hi)) (omega (arith, ints)) (omega (arith, ints))

pub nearer_high : (lo hi s : ℤ) → lo <ℤ hi → middle lo hi ≤ℤ s → reach_to s hi < reach_to s lo
nearer_high lo hi s order after =
    let h = half (lo +ℤ hi +ℤ pos 1) in
    abs_high ((s +ℤ s +ℤ pos 1) -ℤ (lo +ℤ lo)) ((s +ℤ s +ℤ pos 1) -ℤ (hi +ℤ hi)) (omega (arith, ints)) (omega (arith, ints))
