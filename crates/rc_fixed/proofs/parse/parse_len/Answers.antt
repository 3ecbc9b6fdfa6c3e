use Rattle.std.proofs.Common.{rules, ◌∙◌, ◌+◌, ◌/◌, Bool, cond, ap}
use Rattle.std.specs.Prelude.{pos, neg_ℤ, Ok}
use mir.Val.{SFits}
use mir.Syntax.{w32}
use Rattle.std.proofs.lemmas.Int.{to_z-of_z}
use Rattle.rc_fixed.proofs.Lengths.{len_large, len_near}
use Rattle.rc_fixed.proofs.Numbers.{of_decimal}
use Rattle.rc_fixed.proofs.parse.parse_len.Goals as goal

pub returns-then-size-clause-value : goal.returns-then-size-clause-value
returns-then-size-clause-value c =
    let is = of_decimal c.args.text.now c.in-Some.decimal.whole.now c.in-Some.decimal.fraction.now c.in-Some.decimal.raised c.in-Some.decimal.lowered 7 c.scaled-quotient.result c.in-Some.ensures c.scaled-quotient.ensures in
    len_large c.args.m c.parts_of_half.result c.args.text.now c.scaled-quotient.result c.in-Some.ensures.decimal is c.parts_of_half.ensures.product c.parts_of_half.ensures.some c.if-size.true

pub returns-clause-value : goal.returns-clause-value
returns-clause-value c =
    let is = of_decimal c.args.text.now c.in-Some.decimal.whole.now c.in-Some.decimal.fraction.now c.in-Some.decimal.raised c.in-Some.decimal.lowered 7 c.scaled-quotient.result c.in-Some.ensures c.scaled-quotient.ensures in
    let size = (λ (x : Bool). cond x (neg_ℤ (pos ((c.scaled-quotient.result.floor / c.parts_of_half.result + 1) / 2))) (pos ((c.scaled-quotient.result.floor / c.parts_of_half.result + 1) / 2))) in
    let fits : SFits w32 c.signed.result = search (rules, c.signed.ensures.range) in
    ap (λ z. Ok z) (to_z-of_z w32 c.signed.result fits)
    ∙ len_near c.args.m c.parts_of_half.result c.args.text.now c.scaled-quotient.result c.signed.result c.in-Some.ensures.decimal is c.parts_of_half.ensures.product c.parts_of_half.ensures.few c.parts_of_half.ensures.some c.if-size.false
    (c.signed.ensures.value ∙ ap size c.is_negative.ensures)
