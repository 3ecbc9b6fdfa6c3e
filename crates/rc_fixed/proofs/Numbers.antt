-- A decimal's number, from its quotient.
use Rattle.std.proofs.Common.{◌≡◌, ◌∙◌, ◌+◌, ◌*◌, ◌/◌, ◌%◌, ◌^◌, ◌<◌, ◌≤◌, ◌++◌, ℕ, true, false, List, length, refl, ap, sym, arith}
use Rattle.std.specs.Prelude.{min, nat_le, ◌==◌, Ok, Err}
use Rattle.std.specs.List.{list_all}
use Rattle.std.specs.Str.Parse.{digits_value}
use Rattle.std.proofs.Math.Nat.{mul_assoc}
use Rattle.std.proofs.lemmas.Nat.{pow-add}
use Rattle.std.proofs.lemmas.Bool.Decides.{nat_tests}
use Rattle.rc_fixed.specs.declared.fault.NumFault.TheVariants.{TooFine, TooLarge}
use Rattle.rc_fixed.specs.declared.scale.Quotient.{Quotient}
use Rattle.rc_fixed.specs.Numeral.{is_decimal, is_digit, whole_digits, fraction_digits, has_exponent, is_negative, numerator, denominator, all_digits, scaled_value, whole_within}
use Rattle.rc_fixed.specs.Steps.{AreDigits, most, IsQuotient}

-- the quotient of a decimal's digits is that of the decimal
pub of_decimal : (text whole fraction : List ℕ) (up down places : ℕ) (q : Quotient) → AreDigits text whole fraction up down
    → IsQuotient q (digits_value 10 (whole ++ fraction) * 10 ^ (up + places)) (10 ^ (length fraction + down)) → IsQuotient q (numerator text * 10 ^ places) (denominator text)
of_decimal text whole fraction up down places q d is =
    let digits : digits_value 10 (whole ++ fraction) ≡ digits_value 10 (all_digits text) = rw (d.whole_is, d.fraction_is) refl in
    let n : digits_value 10 (whole ++ fraction) * 10 ^ (up + places) ≡ numerator text * 10 ^ places =
    ap (λ k. digits_value 10 (whole ++ fraction) * k) (pow-add 10 up places) ∙ sym (mul_assoc (digits_value 10 (whole ++ fraction)) (10 ^ up) (10 ^ places))
    ∙ rw (digits, d.raised_is) refl in
    let m : 10 ^ (length fraction + down) ≡ denominator text = rw (d.fraction_is, d.lowered_is) refl in
    rw (n, m) at is

pub read : (places limit : ℕ) (text : List ℕ) → is_negative text ≡ false → is_decimal text ≡ true → scaled_value places limit text ≡ whole_within limit (numerator text * 10 ^ places) (denominator text)
unfolding scaled_value
read places limit text positive decimal = rw (positive, decimal) refl

pub too_fine : (places limit : ℕ) (text : List ℕ) (q : Quotient) → is_negative text ≡ false → is_decimal text ≡ true → IsQuotient q (numerator text * 10 ^ places) (denominator text) → q.is_whole ≡ false
    → Err TooFine ≡ scaled_value places limit text
too_fine places limit text q positive decimal is not =
    let e : (numerator text * 10 ^ places % denominator text == 0) ≡ false = sym is.is_whole ∙ not in
    sym (read places limit text positive decimal ∙ rw e refl)

above : (cap limit n floor : ℕ) → floor ≡ min cap n → limit < floor → nat_le n limit ≡ false
above cap limit n floor is more = let lt : limit < n = omega arith in grind (arith, nat_tests)

within : (cap limit n floor : ℕ) → floor ≡ min cap n → limit < cap → floor ≤ limit → (nat_le n limit ≡ true) × (floor ≡ n)
within cap limit n floor is room le = let e : floor ≡ n = omega arith in let l : n ≤ limit = omega arith in (grind (arith, nat_tests), e)

pub too_large : (places limit : ℕ) (text : List ℕ) (q : Quotient) → is_negative text ≡ false → is_decimal text ≡ true → IsQuotient q (numerator text * 10 ^ places) (denominator text) → q.is_whole ≡ true → limit < q.floor
    → Err TooLarge ≡ scaled_value places limit text
too_large places limit text q positive decimal is yes' more =
    let e : (numerator text * 10 ^ places % denominator text == 0) ≡ true = sym is.is_whole ∙ yes' in
    let f = above most limit (numerator text * 10 ^ places / denominator text) q.floor is.floor more in
    sym (read places limit text positive decimal ∙ rw (e, f) refl)

pub number : (places limit : ℕ) (text : List ℕ) (q : Quotient) → is_negative text ≡ false → is_decimal text ≡ true → IsQuotient q (numerator text * 10 ^ places) (denominator text) → q.is_whole ≡ true → limit < most → q.floor ≤ limit
    → Ok q.floor ≡ scaled_value places limit text
number places limit text q positive decimal is yes' room le =
    let e : (numerator text * 10 ^ places % denominator text == 0) ≡ true = sym is.is_whole ∙ yes' in
    let f = within most limit (numerator text * 10 ^ places / denominator text) q.floor is.floor room le in
    ap (λ n. Ok n) f.1 ∙ sym (read places limit text positive decimal ∙ rw (e, f.0) refl)

some_digits : (n : ℕ) → 1 ≤ n → nat_le 1 n ≡ true
some_digits n le = grind (arith, nat_tests)

pub plain_decimal : (text whole fraction : List ℕ) → whole ≡ whole_digits text → fraction ≡ fraction_digits text → list_all is_digit whole ≡ true → list_all is_digit fraction ≡ true
    → 1 ≤ length whole + length fraction → has_exponent text ≡ false → is_decimal text ≡ true
plain_decimal text whole fraction w f dw df some none =
    let a : list_all is_digit (whole_digits text) ≡ true = rw (← w) dw in
    let b : list_all is_digit (fraction_digits text) ≡ true = rw (← f) df in
    let c : nat_le 1 (length (whole_digits text) + length (fraction_digits text)) ≡ true = some_digits _ (rw (← w, ← f) some) in
    rw (a, b, c, none) refl
