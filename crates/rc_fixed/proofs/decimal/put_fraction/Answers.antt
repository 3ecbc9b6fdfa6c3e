use Rattle.std.proofs.Common.{◌≡◌, ◌≢◌, ◌+◌, ◌-◌, ◌<◌, ◌≤◌, ◌^◌, ◌++◌, [], ℕ, suc, take, length, append-nil, arith, ap, sym, ◌∙◌}
use Rattle.rc_fixed.proofs.Behind.{IsFirstDigit, some_place, first_digit, write_digit, digits_behind-zero, fraction_text-pointed, same_behind}
use Rattle.rc_fixed.specs.Decimal.{digits_behind}
use Rattle.rc_fixed.proofs.decimal.put_fraction.Goals as goal

-- the first digit of what is left, where `end` is the place
first_at : (at end rest unit : ℕ) → end ≤ at + 16 → unit ≡ 10 ^ (at + 16 - end) → rest < unit → rest ≢ 0 → (suc (at + 16 - (end + 1)) ≡ at + 16 - end) × IsFirstDigit (at + 16 - (end + 1)) rest unit
first_at at end rest unit within is small some =
    let left : 1 ≤ at + 16 - end = some_place (at + 16 - end) rest unit is small some in
    let more : suc (at + 16 - (end + 1)) ≡ at + 16 - end = omega arith in
    (more, first_digit (at + 16 - (end + 1)) (at + 16 - end) rest unit more is small)

pub nonzero_div-out : goal.nonzero_div-out
nonzero_div-out c =
    let i = c.loop-rest.invariant in
    (first_at c.args.at c.loop-rest.end c.loop-rest.rest c.loop-rest.unit i.within i.unit i.small c.loop-rest-test.true).1.positive

pub nonzero_rem-rest : goal.nonzero_rem-rest
nonzero_rem-rest c =
    let i = c.loop-rest.invariant in
    (first_at c.args.at c.loop-rest.end c.loop-rest.rest c.loop-rest.unit i.within i.unit i.small c.loop-rest-test.true).1.positive

pub loop-rest-preserved : goal.loop-rest-preserved
loop-rest-preserved c =
    let i = c.loop-rest.invariant in
    let first = first_at c.args.at c.loop-rest.end c.loop-rest.rest c.loop-rest.unit i.within i.unit i.small c.loop-rest-test.true in
    let within : c.loop-rest.end < length c.loop-rest.out = omega arith in
    record {
      start = omega arith;
      within = omega (arith, first.0);
      unit = first.1.tenth;
      small = first.1.less;
      text = write_digit c.loop-rest.out c.loop-rest.end _ _ c.loop-rest.rest c.loop-rest.unit first.0 within i.unit i.small c.loop-rest-test.true ∙ i.text;
      behind = same_behind c.loop-rest.out c.args.out.now c.loop-rest.end _ i.behind;
    }

pub returns-clause-text : goal.returns-clause-text
returns-clause-text c =
    let left : ℕ = c.args.at + 16 - c.loop-rest.end in
    let none : digits_behind left c.loop-rest.rest ≡ [] = ap (digits_behind left) c.loop-rest-test.false ∙ digits_behind-zero left in
    sym (append-nil _) ∙ (ap (λ ds. take c.loop-rest.end c.loop-rest.out ++ ds) (sym none) ∙ (c.loop-rest.invariant.text ∙ ap (λ ds. take c.args.at c.args.out.now ++ ds) (sym (fraction_text-pointed c.args.rest c.if-rest-eq0.false))))
