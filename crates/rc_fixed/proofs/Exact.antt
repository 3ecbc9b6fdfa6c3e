-- What a plain decimal is exactly, and what the parser gives for what is written.
use Rattle.std.proofs.Common.{◌≡◌, ◌∙◌, ◌+◌, ◌-◌, ◌*◌, ◌/◌, ◌%◌, ◌^◌, ◌<◌, ◌≤◌, ◌++◌, [], ◌∷◌, List, ℕ, true, false, length, refl, sym, ap, subst, arith, append-nil}
use Rattle.std.specs.Prelude.{nat_le, Ok, if◌then◌else◌}
use Rattle.std.specs.Char.{digit_value}
use Rattle.std.specs.Int.{IsInRange}
use Rattle.std.specs.List.{list_all, list_any, before_first, after_first, position_or_len}
use Rattle.std.specs.Str.Parse.{AllDigits, digits_value, digits_value_after}
use Rattle.std.proofs.lemmas.Bool.{ne_eqb}
use Rattle.std.proofs.lemmas.Bool.Decides.{nat_tests}
use Rattle.std.proofs.lemmas.List.{take_all, drop_all}
use Rattle.std.proofs.lemmas.Nat.{pow-add}
use Rattle.std.proofs.lemmas.Str.Parse.{digit_from_value}
use Rattle.rc_fixed.specs.Decimal.{decimal_text, decimal_value, is_point, IsPlainDecimal}
use Rattle.rc_fixed.specs.Decimal.IsPlainDecimal.{whole, pointed}
use Rattle.rc_fixed.specs.Laws.{ReadsBack, GivesBack, WritesBack}
use Rattle.rc_fixed.specs.Numeral.{is_digit, is_e, is_sign, without_sign, is_negative, significand, whole_digits, fraction_digits, exponent, has_exponent, is_decimal, raised, lowered, numerator, denominator, IsExactly, scaled_value, fixed_of, fixed_by}
use Rattle.rc_fixed.proofs.Behind.{pow_ten-pos}
use Rattle.rc_fixed.proofs.Numbers.{plain_decimal, read}
use Rattle.rc_fixed.proofs.Reading.{digits_value_after-is, front_whole, back_whole, front_pointed, back_pointed, reads_whole, reads_pointed, reads_back as value_back, is_plain}
use Rattle.rc_fixed.proofs.Writing.{comes_apart, writes_back as text_back}

-- bytes from `.` to `9`: no sign is among them, and no `e`
abbrev AreLow : List ℕ → Type 0
AreLow [] = Unit {0}
AreLow (byte ∷ bytes) = (46 ≤ byte) × (byte ≤ 57) × AreLow bytes

digits_are_low : (digits : List ℕ) → AllDigits 10 digits → AreLow digits
digits_are_low [] all = tt
digits_are_low (digit ∷ digits) all =
    let range : IsInRange 48 57 digit = digit_from_value digit all.0 in
    (omega arith, omega arith, digits_are_low digits all.1)

joined_are_low : (front back : List ℕ) → AreLow front → AreLow back → AreLow (front ++ back)
joined_are_low [] back _ low = low
joined_are_low (byte ∷ front) back low behind = (low.0, low.1, joined_are_low front back low.2 behind)

no_e : (byte : ℕ) → 46 ≤ byte → byte ≤ 57 → is_e byte ≡ false
no_e byte above below = rw (ne_eqb byte 101 (λ e. omega arith), ne_eqb byte 69 (λ e. omega arith)) refl

no_sign : (byte : ℕ) → 46 ≤ byte → byte ≤ 57 → is_sign byte ≡ false
no_sign byte above below = rw (ne_eqb byte 43 (λ e. omega arith), ne_eqb byte 45 (λ e. omega arith)) refl

unsigned : (text : List ℕ) → AreLow text → without_sign text ≡ text
unsigned [] low = refl
unsigned (byte ∷ text) low = rw (no_sign byte low.0 low.1) refl

not_negative : (text : List ℕ) → AreLow text → is_negative text ≡ false
not_negative [] low = refl
not_negative (byte ∷ text) low = ne_eqb byte 45 (λ e. omega (arith, low.0))

no_e_in : (text : List ℕ) → AreLow text → list_any is_e text ≡ false
no_e_in [] low = refl
no_e_in (byte ∷ text) low = rw (no_e byte low.0 low.1) (no_e_in text low.2)

no_first_e : (text : List ℕ) → AreLow text → position_or_len is_e text ≡ length text
no_first_e [] low = refl
no_first_e (byte ∷ text) low = let rest = no_first_e text low.2 in rw (no_e byte low.0 low.1) (omega arith)

all_before_e : (text : List ℕ) → AreLow text → before_first is_e text ≡ text
all_before_e text low = take_all _ text (omega (arith, no_first_e text low))

none_behind_e : (text : List ℕ) → AreLow text → after_first is_e text ≡ []
none_behind_e text low = drop_all _ text (omega (arith, no_first_e text low))

are_digits : (digits : List ℕ) → AllDigits 10 digits → list_all is_digit digits ≡ true
are_digits [] all = refl
are_digits (digit ∷ digits) all =
    let range : IsInRange 48 57 digit = digit_from_value digit all.0 in
    let above : nat_le 48 digit ≡ true = grind (arith, nat_tests) in
    let below : nat_le digit 57 ≡ true = grind (arith, nat_tests) in
    rw (above, below) (are_digits digits all.1)

-- what is known of a text without a sign and an exponent
record HasParts (text before behind : List ℕ) : Type 0 where
  decimal : is_decimal text ≡ true
  positive : is_negative text ≡ false
  over : numerator text ≡ digits_value 10 (before ++ behind)
  under : denominator text ≡ 10 ^ length behind

has_parts : (text before behind : List ℕ) → AreLow text → before_first is_point text ≡ before → after_first is_point text ≡ behind
    → AllDigits 10 before → AllDigits 10 behind → 0 < length before → HasParts text before behind
has_parts text before behind low front back all_front all_back some =
    let plain : without_sign text ≡ text = unsigned text low in
    let digits : significand text ≡ text = ap (before_first is_e) plain ∙ all_before_e text low in
    let none : exponent text ≡ [] = ap (after_first is_e) plain ∙ none_behind_e text low in
    let first : before ≡ whole_digits text = sym (ap (before_first is_point) digits ∙ front) in
    let last : behind ≡ fraction_digits text = sym (ap (after_first is_point) digits ∙ back) in
    let no : has_exponent text ≡ false = ap (list_any is_e) plain ∙ no_e_in text low in
    let up : raised text ≡ 0 = ap raised_by none in
    let down : lowered text ≡ 0 = ap lowered_by none in
    record {
      decimal = plain_decimal text before behind first last (are_digits before all_front) (are_digits behind all_back) (omega arith) no;
      positive = not_negative text low;
      over = rw (up, ← first, ← last) (omega arith);
      under = rw (down, ← last) (ap (λ n. 10 ^ n) (omega arith));
    }
  where
    raised_by : List ℕ → ℕ
    raised_by digits = if is_negative digits then 0 else digits_value 10 (without_sign digits)

    lowered_by : List ℕ → ℕ
    lowered_by digits = if is_negative digits then digits_value 10 (without_sign digits) else 0

-- the value of digits behind digits
joined_after : (n : ℕ) (front back : List ℕ) → digits_value_after 10 n (front ++ back) ≡ digits_value_after 10 (digits_value_after 10 n front) back
joined_after n [] back = refl
joined_after n (digit ∷ front) back = joined_after (n * 10 + digit_value digit) front back

joined : (front back : List ℕ) → digits_value 10 (front ++ back) ≡ digits_value 10 front * 10 ^ length back + digits_value 10 back
joined front back = joined_after 0 front back ∙ digits_value_after-is (digits_value 10 front) back

-- two numbers over one denominator
weighed : (n w p q k : ℕ) → q * p ≡ k → (n * p + w) * k ≡ (n * k + w * q) * p
weighed n w p q k is = subst (λ k. (n * p + w) * k ≡ (n * k + w * q) * p) is (grind arith)

-- a plain decimal is exactly its value
exactly_plain : (text : List ℕ) → IsPlainDecimal text → IsExactly text (decimal_value text)
exactly_plain text (whole {digits} form) =
    let parts = has_parts digits digits [] (digits_are_low digits form.numeral.1) (front_whole digits form.numeral.1) (back_whole digits form.numeral.1) form.numeral.1 tt form.numeral.0 in
    let value : decimal_value digits ≡ digits_value 10 digits * 10 ^ 15 = reads_whole digits form.numeral.1 in
    let over : numerator digits ≡ digits_value 10 digits = parts.over ∙ ap (digits_value 10) (append-nil digits) in
    record {
      decimal = parts.decimal;
      no_minus = parts.positive;
      exact = rw (over, parts.under, value) (omega arith);
    }
exactly_plain text (pointed {digits} {behind} form rest) =
    let low = joined_are_low digits (46 ∷ behind) (digits_are_low digits form.numeral.1) (omega arith, omega arith, digits_are_low behind rest.numeral.1) in
    let parts = has_parts (digits ++ 46 ∷ behind) digits behind low (front_pointed digits behind form.numeral.1) (back_pointed digits behind form.numeral.1) form.numeral.1 rest.numeral.1 form.numeral.0 in
    let value : decimal_value (digits ++ 46 ∷ behind) ≡ digits_value 10 digits * 10 ^ 15 + digits_value 10 behind * 10 ^ (15 - length behind) = reads_pointed digits behind form.numeral.1 in
    let over : numerator (digits ++ 46 ∷ behind) ≡ digits_value 10 digits * 10 ^ length behind + digits_value 10 behind = parts.over ∙ joined digits behind in
    let all : 15 - length behind + length behind ≡ 15 = omega (arith, rest.fits) in
    let scale : 10 ^ (15 - length behind) * 10 ^ length behind ≡ 10 ^ 15 = sym (pow-add 10 (15 - length behind) (length behind)) ∙ ap (λ n. 10 ^ n) all in
    record {
      decimal = parts.decimal;
      no_minus = parts.positive;
      exact = rw (over, parts.under, value) (weighed (digits_value 10 digits) (digits_value 10 behind) (10 ^ length behind) (10 ^ (15 - length behind)) (10 ^ 15) scale);
    }

pub reads_back : ReadsBack
reads_back value small = subst (IsExactly (decimal_text value)) (value_back value small) (exactly_plain (decimal_text value) (is_plain value small).0)

-- what is equal times a number is equal
cancel : (a b p : ℕ) → 0 < p → a * p ≡ b * p → a ≡ b
cancel a b p some same = sym (comes_apart a p 0 some).front ∙ (ap (λ n. (n + 0) / p) same ∙ (comes_apart b p 0 some).front)

pub writes_back : WritesBack
writes_back text value plain is small =
    let own = exactly_plain text plain in
    let some : 0 < denominator text = pow_ten-pos (length (fraction_digits text) + lowered text) in
    let same : decimal_value text ≡ value = cancel (decimal_value text) value (denominator text) some (sym own.exact ∙ is.exact) in
    subst (λ n. decimal_text n ≡ text) same (text_back text plain (omega arith))

-- a number that is exactly so much is read so
read_exactly : (text : List ℕ) (value : ℕ) → IsExactly text value → value ≤ 10 ^ 36 → fixed_of 0 text ≡ Ok (record { 0 = value })
unfolding fixed_of
read_exactly text value is fits =
    let d : ℕ = denominator text in
    let some : 0 < d = pow_ten-pos (length (fraction_digits text) + lowered text) in
    let apart = comes_apart value d 0 some in
    let same : numerator text * 10 ^ 15 ≡ value * d + 0 = is.exact ∙ omega arith in
    let rest : numerator text * 10 ^ 15 % d ≡ 0 = ap (λ n. n % d) same ∙ apart.back in
    let floor : numerator text * 10 ^ 15 / d ≡ value = ap (λ n. n / d) same ∙ apart.front in
    let test : nat_le value (10 ^ 36) ≡ true = grind (arith, nat_tests) in
    let number : scaled_value 15 (10 ^ 36) text ≡ Ok value = read 15 (10 ^ 36) text is.no_minus is.decimal ∙ rw (rest, floor, test) refl in
    ap fixed_by number

pub gives_back : GivesBack
gives_back value fits = read_exactly (decimal_text value) value (reads_back value (omega arith)) fits
