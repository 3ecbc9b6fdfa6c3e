use Rattle.std.proofs.Common.{◌≡◌, ◌≤◌, ◌<◌, ◌+◌, ◌*◌, ◌^◌, ℕ, List, true, length, take, get_or, ap, ◌∙◌, arith}
use Rattle.std.specs.Char.{digit_value}
use Rattle.std.specs.Int.{IsInRange}
use Rattle.std.specs.Str.{all_ascii_digits}
use Rattle.std.specs.Str.Parse.{digits_value}
use Rattle.std.proofs.lemmas.Str.{digit_value_digit}
use Rattle.std.proofs.lemmas.Str.Parse.{digit_at}
use Rattle.std.proofs.lemmas.Int.Digits.{digits_value_push}
use Rattle.std.proofs.lemmas.Grind.{pow_more}
use Rattle.std.proofs.lemmas.List.{take_more}
use Rattle.std.proofs.Math.Nat.{pow-le-pow_right}
use Rattle.rc_spef.proofs.Digits.{own}
use Rattle.rc_spef.proofs.numbers.short_number.Goals as goal

digit : (ds : List ℕ) (i : ℕ) → all_ascii_digits ds ≡ true → i < length ds → IsInRange 48 57 (get_or ds i 0)
digit ds i all within = digit_at ds i (own.to ds all) within

more : (ds : List ℕ) (i : ℕ) → all_ascii_digits ds ≡ true → i < length ds → digits_value 10 (take (i + 1) ds) + 48 ≡ digits_value 10 (take i ds) * 10 + get_or ds i 0
more ds i all within =
    let d : ℕ = get_or ds i 0 in
    let value : digit_value d + 48 ≡ d = digit_value_digit d (digit ds i all within) in
    let step : digits_value 10 (take (i + 1) ds) ≡ digits_value 10 (take i ds) * 10 + digit_value d = ap (digits_value 10) (take_more ds i 0 within) ∙ digits_value_push 10 (take i ds) d in
    omega arith

room : (i n : ℕ) → i < n → n ≤ 19 → 10 ^ i ≤ 10 ^ 18
room i n less few = let some : 0 < 10 = omega arith in let below : i ≤ 18 = omega arith in pow-le-pow_right some below

pub loop-digit-preserved : goal.loop-digit-preserved
loop-digit-preserved c =
    let ds = c.args.digits.now in
    let i = c.loop-digit.digit-index in
    let d = digit ds i c.requires.digits c.loop-digit-test.true in
    record {
      is = omega (arith, more ds i c.requires.digits c.loop-digit-test.true, d, c.from.ensures, c.loop-digit.invariant.is);
      small = omega (arith, c.from.ensures, d, c.loop-digit.invariant.small, pow_more 10 i);
    }

pub overflow_mul-number : goal.overflow_mul-number
overflow_mul-number c =
    omega (arith, c.loop-digit.invariant.small, room c.loop-digit.digit-index (length c.args.digits.now) c.loop-digit-test.true c.requires.short)

pub overflow_sub-digit : goal.overflow_sub-digit
overflow_sub-digit c = let d = digit c.args.digits.now c.loop-digit.digit-index c.requires.digits c.loop-digit-test.true in omega arith

pub overflow_add-number : goal.overflow_add-number
overflow_add-number c =
    let d = digit c.args.digits.now c.loop-digit.digit-index c.requires.digits c.loop-digit-test.true in
    omega (arith, c.from.ensures, d, c.loop-digit.invariant.small, room c.loop-digit.digit-index (length c.args.digits.now) c.loop-digit-test.true c.requires.short)
