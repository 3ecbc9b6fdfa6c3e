-- Decimals with a sign and an exponent, and the numbers that they are read as.
use Rattle.rc_fixed.specs.declared.decimal.Fixed.{Fixed}
use Rattle.std.specs.Prelude.{◌≡◌, ℕ, ℤ, pos, neg_ℤ, ◌+◌, ◌*◌, ◌/◌, ◌%◌, ◌^◌, ◌==◌, ◌&&◌, ◌||◌, Bool, true, false, List, [], ◌∷◌, ◌++◌, Option, Some, None, Result, Ok, Err, length, nat_le, if◌then◌else◌}
use Rattle.std.specs.List.{list_all, list_any, before_first, after_first}
use Rattle.std.specs.Str.Parse.{digits_value}
use Rattle.rc_fixed.specs.declared.fault.NumFault.{NumFault}
use Rattle.rc_fixed.specs.declared.fault.NumFault.TheVariants.{Form, TooFine, TooLarge}
use Rattle.rc_fixed.specs.Decimal.{is_point}

abbrev pub is_digit : ℕ → Bool
is_digit byte = nat_le 48 byte && nat_le byte 57

-- `e` or `E`
abbrev pub is_e : ℕ → Bool
is_e byte = (byte == 101) || (byte == 69)

-- `+` or `-`
abbrev pub is_sign : ℕ → Bool
is_sign byte = (byte == 43) || (byte == 45)

abbrev pub without_sign : List ℕ → List ℕ
without_sign [] = []
without_sign (first ∷ rest) = if is_sign first then rest else first ∷ rest

-- it begins with `-`
abbrev pub is_negative : List ℕ → Bool
is_negative [] = false
is_negative (first ∷ rest) = first == 45

-- the parts of a decimal: its digits before and behind the point, and its exponent
abbrev pub significand : List ℕ → List ℕ
significand text = before_first is_e (without_sign text)

abbrev pub whole_digits : List ℕ → List ℕ
whole_digits text = before_first is_point (significand text)

abbrev pub fraction_digits : List ℕ → List ℕ
fraction_digits text = after_first is_point (significand text)

abbrev pub exponent : List ℕ → List ℕ
exponent text = after_first is_e (without_sign text)

abbrev pub has_exponent : List ℕ → Bool
has_exponent text = list_any is_e (without_sign text)

-- an optional sign and one or two digits
abbrev pub is_exponent : List ℕ → Bool
is_exponent text = nat_le 1 (length (without_sign text)) && nat_le (length (without_sign text)) 2 && list_all is_digit (without_sign text)

-- an optional sign, digits with an optional point, at least one digit in all, and an optional exponent
abbrev pub is_decimal : List ℕ → Bool
is_decimal text =
    list_all is_digit (whole_digits text) && list_all is_digit (fraction_digits text)
    && nat_le 1 (length (whole_digits text) + length (fraction_digits text))
    && (if has_exponent text then is_exponent (exponent text) else true)

-- how far the exponent raises the number, and how far it lowers it, as powers of ten
abbrev pub raised : List ℕ → ℕ
raised text = if is_negative (exponent text) then 0 else digits_value 10 (without_sign (exponent text))

abbrev pub lowered : List ℕ → ℕ
lowered text = if is_negative (exponent text) then digits_value 10 (without_sign (exponent text)) else 0

-- the digits before and behind the point
abbrev pub all_digits : List ℕ → List ℕ
all_digits text = whole_digits text ++ fraction_digits text

-- a decimal's value, but for its sign, is a quotient: the digits as one whole number, and the powers of ten of point and exponent
abbrev pub numerator : List ℕ → ℕ
numerator text = digits_value 10 (all_digits text) * 10 ^ raised text

abbrev pub denominator : List ℕ → ℕ
denominator text = 10 ^ (length (fraction_digits text) + lowered text)

-- a decimal without `-` is exactly value / 10^15
pub record IsExactly (text : List ℕ) (value : ℕ) : Type 0 where
  pub decimal : is_decimal text ≡ true
  pub no_minus : is_negative text ≡ false
  pub exact : numerator text * 10 ^ 15 ≡ value * denominator text

-- a quotient that is whole, and at most this
abbrev pub whole_within : ℕ → ℕ → ℕ → Result ℕ NumFault
whole_within limit n d = if n % d == 0 then (if nat_le (n / d) limit then Ok (n / d) else Err TooLarge) else Err TooFine

-- a decimal that doesn't begin with `-`, times 10^places: a whole number, and at most this
unfoldable pub scaled_value : ℕ → ℕ → List ℕ → Result ℕ NumFault
scaled_value places limit text =
    if is_negative text then Err Form
    else if is_decimal text then whole_within limit (numerator text * 10 ^ places) (denominator text)
    else Err Form

-- a capacitance or a resistance, in units of 10^-9
unfoldable pub rule_of : List ℕ → Result ℕ NumFault
rule_of text = scaled_value 9 (10 ^ 13) text

-- a number in units of 10^-15, raised by a power of ten
abbrev pub fixed_by : Result ℕ NumFault → Result Fixed NumFault
fixed_by (Ok number) = Ok (record { 0 = number })
fixed_by (Err fault) = Err fault

unfoldable pub fixed_of : ℕ → List ℕ → Result Fixed NumFault
fixed_of shift text = fixed_by (scaled_value (15 + shift) (10 ^ 36) text)

-- the nearest whole number to n / d, halves up
abbrev pub nearest : ℕ → ℕ → ℕ
nearest n d = (2 * n + d) / (2 * d)

-- a length with its sign, at most 2^29 from zero
abbrev pub signed_within : Bool → ℕ → Result ℤ NumFault
signed_within negative n = if nat_le n (2 ^ 29) then Ok (if negative then neg_ℤ (pos n) else pos n) else Err TooLarge

-- a length in units of 1/m: the nearest whole number, halves away from zero
unfoldable pub len_of : ℕ → List ℕ → Result ℤ NumFault
len_of m text = if is_decimal text then signed_within (is_negative text) (nearest (numerator text * m) (denominator text)) else Err Form

-- a whole number: an optional sign and digits, at most 2^29 from zero
unfoldable pub whole_of : List ℕ → Option ℤ
whole_of text =
    if nat_le 1 (length (without_sign text)) && list_all is_digit (without_sign text) && nat_le (digits_value 10 (without_sign text)) (2 ^ 29)
    then Some (if is_negative text then neg_ℤ (pos (digits_value 10 (without_sign text))) else pos (digits_value 10 (without_sign text)))
    else None
