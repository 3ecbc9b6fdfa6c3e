use Rattle.std.proofs.Common.{rules, ◌≡◌, Bool, false, true, refl}
use Rattle.std.specs.Prelude.{not}
use Rattle.rc_fixed.specs.Numeral.{is_negative}
use Rattle.rc_fixed.proofs.Numbers.{of_decimal, too_fine, too_large, number}
use Rattle.rc_fixed.proofs.parse.scaled_number.Goals as goal

not_true : (b : Bool) → not b ≡ true → b ≡ false
not_true true is = absurd cc
not_true false is = refl

not_false : (b : Bool) → not b ≡ false → b ≡ true
not_false true is = refl
not_false false is = absurd cc

pub returns-then-not-quotient-clause-value : goal.returns-then-not-quotient-clause-value
returns-then-not-quotient-clause-value c =
    let positive : is_negative c.args.text.now ≡ false = search rules in
    let is = of_decimal c.args.text.now c.in-Some.decimal.whole.now c.in-Some.decimal.fraction.now c.in-Some.decimal.raised c.in-Some.decimal.lowered c.args.places c.scaled-quotient.result c.in-Some.ensures c.scaled-quotient.ensures in
    too_fine c.args.places c.args.limit c.args.text.now c.scaled-quotient.result positive c.in-Some.ensures.decimal is (not_true _ c.if-not-quotient.true)

pub returns-then-quotient-limit-clause-value : goal.returns-then-quotient-limit-clause-value
returns-then-quotient-limit-clause-value c =
    let positive : is_negative c.args.text.now ≡ false = search rules in
    let is = of_decimal c.args.text.now c.in-Some.decimal.whole.now c.in-Some.decimal.fraction.now c.in-Some.decimal.raised c.in-Some.decimal.lowered c.args.places c.scaled-quotient.result c.in-Some.ensures c.scaled-quotient.ensures in
    too_large c.args.places c.args.limit c.args.text.now c.scaled-quotient.result positive c.in-Some.ensures.decimal is (not_false _ c.if-not-quotient.false) c.if-quotient-limit.true

pub returns-clause-value : goal.returns-clause-value
returns-clause-value c =
    let positive : is_negative c.args.text.now ≡ false = search rules in
    let is = of_decimal c.args.text.now c.in-Some.decimal.whole.now c.in-Some.decimal.fraction.now c.in-Some.decimal.raised c.in-Some.decimal.lowered c.args.places c.scaled-quotient.result c.in-Some.ensures c.scaled-quotient.ensures in
    number c.args.places c.args.limit c.args.text.now c.scaled-quotient.result positive c.in-Some.ensures.decimal is (not_false _ c.if-not-quotient.false) c.requires.limit c.if-quotient-limit.false
