use Rattle.std.proofs.Common.{◌≡◌, ◌∙◌, ◌+◌, ◌-◌, ◌*◌, ◌≤◌, ◌<◌, ◌++◌, ℕ, List, true, length, take, drop, get_or, ap, sym, arith}
use Rattle.std.specs.Prelude.{min}
use Rattle.std.specs.Str.Parse.{digits_value}
use Rattle.rc_fixed.specs.Numeral.{is_digit}
use Rattle.rc_fixed.specs.Steps.{most}
use Rattle.rc_fixed.proofs.Scales.{one_more, capped_digit, all_at}
use Rattle.rc_fixed.proofs.scale.digits_between.Goals as goal

-- a digit more
pushed : (s : List ℕ) (from at before now : ℕ) → from ≤ at → at < length s → is_digit (get_or s at 0) ≡ true → before ≡ min most (digits_value 10 (take (at - from) (drop from s)))
    → now ≡ min most (before * 10 + (get_or s at 0 - 48)) → now ≡ min most (digits_value 10 (take (at + 1 - from) (drop from s)))
pushed s from at before now le lt digit is does =
    does ∙ rw is (capped_digit most (digits_value 10 (take (at - from) (drop from s))) (get_or s at 0 - 48)) ∙ ap (λ x. min most x) (sym (one_more s from at le lt digit))

pub loop-at-preserved : goal.loop-at-preserved
loop-at-preserved c =
    let s = c.args.whole.now ++ c.args.fraction.now in
    let lt : c.loop-at.at < length s = omega (arith, c.loop-at-test.true, c.requires.to) in
    let digit : is_digit (get_or s c.loop-at.at 0) ≡ true = all_at s c.loop-at.at lt c.requires.digits in
    let is : c.push_digit-value.result ≡ min most (digits_value 10 (take (c.loop-at.at + 1 - c.args.from) (drop c.args.from s))) =
    pushed s c.args.from c.loop-at.at c.loop-at.value c.push_digit-value.result c.loop-at.auto.at lt digit c.loop-at.invariant.is
    (c.push_digit-value.ensures ∙ ap (λ d. min most (c.loop-at.value * 10 + (d - 48))) c.digit_at.ensures) in
    record { is = is; small = rw is (omega arith) }

pub push_digit-value-requires-clause-digit : goal.push_digit-value-requires-clause-digit
push_digit-value-requires-clause-digit c =
    let s = c.args.whole.now ++ c.args.fraction.now in
    rw c.digit_at.ensures (all_at s c.loop-at.at (omega (arith, c.loop-at-test.true, c.requires.to)) c.requires.digits)
