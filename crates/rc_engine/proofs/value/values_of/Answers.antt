-- The value of one net more.
use Rattle.std.proofs.Common.{List, ℕ, ◌<◌, ◌≤◌, ◌∷◌, ◌++◌, [], length, ap, arith, ◌∙◌}
use Rattle.rc_spef.specs.declared.value.DNet.{DNet}
use Rattle.rc_engine.proofs.Engines.{value_more, values_all}
use Rattle.rc_engine.proofs.value.values_of.Goals as goal

pub loop-own-preserved : goal.loop-own-preserved
loop-own-preserved c =
    let wired = c.args.layout.now in
    let rules = c.args.rules.now in
    let number = c.loop-own.number in
    let same = c.loop-own.invariant.number in
    let below = c.loop-own-test.true in
    let count = c.requires.count in
    let within : number < length wired.nets = omega (arith, same, below, count) in
    record {
      number = omega (arith, same);
      values = c.in_ok-push.ensures.ok ∙ ap (λ (vs : List DNet). vs ++ c.in_ok-value.value ∷ []) c.loop-own.invariant.values ∙ value_more wired rules number c.in_ok-value.value within c.in_ok-value.ensures;
    }

pub returns : goal.returns
returns c =
    let same = c.loop-own.invariant.number in
    let past = c.loop-own-test.false in
    let count = c.requires.count in
    let whole : length c.args.layout.now.nets ≤ c.loop-own.number = omega (arith, same, past, count) in
    c.loop-own.invariant.values ∙ values_all c.args.layout.now c.args.rules.now c.loop-own.number whole
