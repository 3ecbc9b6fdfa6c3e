use Rattle.std.proofs.Common.{◌≡◌, ◌<◌, ◌+◌, ◌*◌, ℕ, List, true, length, take, get_or, ap, ◌∙◌, arith}
use Rattle.std.specs.Char.{digit_value}
use Rattle.std.specs.Int.{IsInRange}
use Rattle.std.specs.Str.{all_ascii_digits}
use Rattle.std.specs.Str.Parse.{digits_value}
use Rattle.std.proofs.lemmas.Str.{digit_value_digit}
use Rattle.std.proofs.lemmas.Str.Parse.{digit_at, digits_value-take-le}
use Rattle.std.proofs.lemmas.Int.Digits.{digits_value_push}
use Rattle.std.proofs.lemmas.List.{take_more}
use Rattle.rc_spef.proofs.Digits.{own}
use Rattle.rc_spef.proofs.numbers.long_number.Goals as goal

digit : (ds : List ℕ) (i : ℕ) → all_ascii_digits ds ≡ true → i < length ds → IsInRange 48 57 (get_or ds i 0)
digit ds i all within = digit_at ds i (own.to ds all) within

-- one digit more
more : (ds : List ℕ) (i : ℕ) → all_ascii_digits ds ≡ true → i < length ds → digits_value 10 (take (i + 1) ds) + 48 ≡ digits_value 10 (take i ds) * 10 + get_or ds i 0
more ds i all within =
    let d : ℕ = get_or ds i 0 in
    let value : digit_value d + 48 ≡ d = digit_value_digit d (digit ds i all within) in
    let step : digits_value 10 (take (i + 1) ds) ≡ digits_value 10 (take i ds) * 10 + digit_value d = ap (digits_value 10) (take_more ds i 0 within) ∙ digits_value_push 10 (take i ds) d in
    omega arith

pub with_digit-requires : goal.with_digit-requires
with_digit-requires c = let d = digit c.args.digits.now c.loop-digit.digit-index c.requires c.loop-digit-test.true in (omega arith, omega arith)

pub returns-in_err-number : goal.returns-in_err-number
returns-in_err-number c =
    let ds = c.args.digits.now in
    let i = c.loop-digit.digit-index in
    rw c.from_residual.ensures (omega (arith, c.in_err-number.ensures, more ds i c.requires c.loop-digit-test.true, c.loop-digit.invariant, digits_value-take-le 10 ds (i + 1) (omega arith)))

pub loop-digit-preserved : goal.loop-digit-preserved
loop-digit-preserved c =
    let ds = c.args.digits.now in
    let i = c.loop-digit.digit-index in
    omega (arith, c.in_ok-number.ensures, more ds i c.requires c.loop-digit-test.true, c.loop-digit.invariant)
