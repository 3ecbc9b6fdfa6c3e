-- What the functions inside the parsers answer. No public contract cites it.
use Rattle.std.specs.Prelude.{◌≡◌, ◌≤◌, ◌+◌, ◌/◌, ◌%◌, ◌^◌, ◌==◌, ℕ, List, true, min}
use Rattle.rc_fixed.specs.declared.scale.Quotient.{Quotient}
use Rattle.rc_fixed.specs.Numeral.{is_decimal, whole_digits, fraction_digits, raised, lowered}

-- the parts of a decimal: its digits before and behind the point, and how far its exponent raises and lowers it
pub record AreDigits (text whole fraction : List ℕ) (up down : ℕ) : Type 0 where
  pub decimal : is_decimal text ≡ true
  pub whole_is : whole ≡ whole_digits text
  pub fraction_is : fraction ≡ fraction_digits text
  pub raised_is : up ≡ raised text
  pub lowered_is : down ≡ lowered text
  pub small : up + down ≤ 99

-- numbers are counted up to this one
abbrev pub most : ℕ
most = 10 ^ 37

-- the quotient's whole part, and whether it is whole
pub record IsQuotient (quotient : Quotient) (numerator denominator : ℕ) : Type 0 where
  pub floor : quotient.floor ≡ min most (numerator / denominator)
  pub is_whole : quotient.is_whole ≡ (numerator % denominator == 0)
