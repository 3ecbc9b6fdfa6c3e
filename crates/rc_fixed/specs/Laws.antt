-- What holds of the text of each number.
use Rattle.std.specs.Prelude.{◌≡◌, ℕ, ◌^◌, ◌<◌, ◌≤◌, List, Ok, length}
use Rattle.rc_fixed.specs.Decimal.{decimal_text, IsPlainDecimal}
use Rattle.rc_fixed.specs.Numeral.{IsExactly, fixed_of}

-- what is written is a decimal, and exactly the number
abbrev pub ReadsBack : Type 0
ReadsBack = (value : ℕ) → value < 2 ^ 128 → IsExactly (decimal_text value) value

-- the parser of such numbers gives it back, up to the largest that it takes
abbrev pub GivesBack : Type 0
GivesBack = (value : ℕ) → value ≤ 10 ^ 36 → fixed_of 0 (decimal_text value) ≡ Ok (record { 0 = value })

-- no two numbers are written alike
abbrev pub TellsApart : Type 0
TellsApart = (a b : ℕ) → a < 2 ^ 128 → b < 2 ^ 128 → decimal_text a ≡ decimal_text b → a ≡ b

-- what is written is plain, and at most 48 bytes
abbrev pub IsPlain : Type 0
IsPlain = (value : ℕ) → value < 2 ^ 128 → IsPlainDecimal (decimal_text value) × (length (decimal_text value) ≤ 48)

-- a plain decimal is what is written for the number that it is exactly: no number has a second one
abbrev pub WritesBack : Type 0
WritesBack = (text : List ℕ) (value : ℕ) → IsPlainDecimal text → IsExactly text value → value < 2 ^ 128 → decimal_text value ≡ text
