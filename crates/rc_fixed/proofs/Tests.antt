-- What the tests of truth values and of numbers tell, once for all crates.
use Rattle.std.proofs.Common.{◌≡◌, ◌≢◌, ◌<◌, ◌≤◌, ◌<ℤ◌, ◌≤ℤ◌, ℕ, ℤ, Bool, true, false, refl, arith}
use Rattle.std.specs.Prelude.{◌&&◌, ◌||◌, ◌==◌, nat_lt, nat_le, int_lt, int_le}
use Rattle.std.specs.Ordering.{int_eq}
use Rattle.std.proofs.lemmas.Bool.{ne_eqb}
use Rattle.std.proofs.lemmas.Bool.Decides.{nat_tests}
use Rattle.std.proofs.lemmas.Int.{ints}

-- ---- truth values

pub and_swap : (a b : Bool) → (a && b) ≡ (b && a)
and_swap a b = grind arith

pub or_left : (a b : Bool) → a ≡ true → (a || b) ≡ true
or_left a b h = grind arith

pub or_right : (a b : Bool) → b ≡ true → (a || b) ≡ true
or_right a b h = grind arith

pub false_by : (b : Bool) → (b ≡ true → ⊥) → b ≡ false
false_by true h = absurd (h refl)
false_by false h = refl

-- ---- natural numbers

pub nat_lt_tells : (a b : ℕ) → nat_lt a b ≡ true → a < b
nat_lt_tells a b h = grind (arith, nat_tests)

pub nat_lt_passes : (a b : ℕ) → a < b → nat_lt a b ≡ true
nat_lt_passes a b h = grind (arith, nat_tests)

pub nat_lt_fails : (a b : ℕ) → b ≤ a → nat_lt a b ≡ false
nat_lt_fails a b h = grind (arith, nat_tests)

pub nat_le_tells : (a b : ℕ) → nat_le a b ≡ true → a ≤ b
nat_le_tells a b h = grind (arith, nat_tests)

pub nat_le_passes : (a b : ℕ) → a ≤ b → nat_le a b ≡ true
nat_le_passes a b h = grind (arith, nat_tests)

pub nat_le_fails : (a b : ℕ) → b < a → nat_le a b ≡ false
nat_le_fails a b h = grind (arith, nat_tests)

pub nat_eq_passes : (a b : ℕ) → a ≡ b → (a == b) ≡ true
nat_eq_passes a b h = grind arith

pub nat_eq_fails : (a b : ℕ) → a ≢ b → (a == b) ≡ false
nat_eq_fails a b h = ne_eqb a b h

-- ---- whole numbers

pub int_lt_tells : (a b : ℤ) → int_lt a b ≡ true → a <ℤ b
int_lt_tells a b h = grind (arith, ints)

pub int_lt_passes : (a b : ℤ) → a <ℤ b → int_lt a b ≡ true
int_lt_passes a b h = grind (arith, ints)

pub int_lt_fails : (a b : ℤ) → b ≤ℤ a → int_lt a b ≡ false
int_lt_fails a b h = grind (arith, ints)

pub int_le_tells : (a b : ℤ) → int_le a b ≡ true → a ≤ℤ b
int_le_tells a b h = grind (arith, ints)

pub int_le_passes : (a b : ℤ) → a ≤ℤ b → int_le a b ≡ true
int_le_passes a b h = grind (arith, ints)

pub int_le_fails : (a b : ℤ) → b <ℤ a → int_le a b ≡ false
int_le_fails a b h = grind (arith, ints)

pub int_eq_tells : (a b : ℤ) → int_eq a b ≡ true → a ≡ b
int_eq_tells a b h = grind (arith, ints)

pub int_eq_passes : (a b : ℤ) → a ≡ b → int_eq a b ≡ true
int_eq_passes a b h = grind (arith, ints)

pub int_eq_below : (a b : ℤ) → a <ℤ b → int_eq a b ≡ false
int_eq_below a b h = grind (arith, ints)

pub int_eq_above : (a b : ℤ) → b <ℤ a → int_eq a b ≡ false
int_eq_above a b h = grind (arith, ints)
