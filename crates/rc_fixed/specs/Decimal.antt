-- How a number of 10^-15 is written, and what such a text reads as.
use Rattle.std.specs.Prelude.{◌≡◌, ◌≢◌, ℕ, zero, suc, ◌+◌, ◌-◌, ◌*◌, ◌/◌, ◌%◌, ◌^◌, ◌≤◌, ◌==◌, Bool, List, [], ◌∷◌, ◌++◌, if◌then◌else◌, length, slice_index}
use Rattle.std.specs.Fmt.{decimal}
use Rattle.std.specs.List.{before_first, after_first}
use Rattle.std.specs.Str.Parse.{IsNumeral, digits_value}

-- the digits behind the point of rest / 10^places, as far as the last that isn't 0
unfoldable pub digits_behind : ℕ → ℕ → List ℕ
digits_behind zero rest = []
digits_behind (suc places) rest =
    if rest == 0 then [] else (48 + rest / 10 ^ places) ∷ digits_behind places (rest % 10 ^ places)

-- the point and the digits behind it; nothing where the number is whole
abbrev pub fraction_text : ℕ → List ℕ
fraction_text rest = if rest == 0 then [] else 46 ∷ digits_behind 15 rest

-- the exact decimal of value / 10^15
abbrev pub decimal_text : ℕ → List ℕ
decimal_text value = decimal (value / 10 ^ 15) ++ fraction_text (value % 10 ^ 15)

-- a byte is the point
abbrev pub is_point : ℕ → Bool
is_point byte = byte == 46

-- what up to fifteen digits behind the point are worth, in units of 10^-15
abbrev pub worth_behind : List ℕ → ℕ
worth_behind digits = digits_value 10 digits * 10 ^ (15 - length digits)

-- what a plain decimal is worth, in units of 10^-15: the same as what it is exactly, as proofs take it apart
abbrev pub decimal_value : List ℕ → ℕ
decimal_value text =
    digits_value 10 (before_first is_point text) * 10 ^ 15 + worth_behind (after_first is_point text)

-- digits before a point, at least one, with no 0 before another
pub record IsWholePart (digits : List ℕ) : Type 0 where
  pub numeral : IsNumeral 10 digits
  pub shortest : slice_index digits 0 ≡ 48 → length digits ≡ 1

-- digits behind a point, from one to fifteen, of which the last isn't 0
pub record IsFraction (digits : List ℕ) : Type 0 where
  pub numeral : IsNumeral 10 digits
  pub fits : length digits ≤ 15
  pub shortest : slice_index digits (length digits - 1) ≢ 48

-- digits, and behind them nothing, or a point and more digits
pub data IsPlainDecimal : List ℕ → Type 0 where
  whole : {digits : List ℕ} → IsWholePart digits → IsPlainDecimal digits
  pointed : {digits behind : List ℕ} → IsWholePart digits → IsFraction behind → IsPlainDecimal (digits ++ 46 ∷ behind)
