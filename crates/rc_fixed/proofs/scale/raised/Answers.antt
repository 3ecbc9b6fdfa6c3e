use Rattle.std.proofs.Common.{◌≡◌, ◌∙◌, ◌+◌, ◌*◌, ◌^◌, ℕ, ap, sym, arith}
use Rattle.std.specs.Prelude.{min}
use Rattle.std.proofs.Math.Nat.{mul_assoc}
use Rattle.std.proofs.lemmas.Grind.{pow_more}
use Rattle.rc_fixed.specs.Steps.{most}
use Rattle.rc_fixed.proofs.Scales.{capped_ten}
use Rattle.rc_fixed.proofs.scale.raised.Goals as goal

next : (v t before now : ℕ) → before ≡ min most (v * 10 ^ t) → now ≡ min most (before * 10) → now ≡ min most (v * 10 ^ (t + 1))
next v t before now is does =
    does ∙ rw is (capped_ten most (v * 10 ^ t)) ∙ ap (λ x. min most x) (mul_assoc v (10 ^ t) 10 ∙ ap (λ k. v * k) (sym (pow_more 10 t)))

pub loop-turn-preserved : goal.loop-turn-preserved
loop-turn-preserved c =
    let is : c.min-value.result ≡ min most (c.args.value * 10 ^ (c.loop-turn._turn + 1)) = next c.args.value c.loop-turn._turn c.loop-turn.value c.min-value.result c.loop-turn.invariant.is c.min-value.ensures in
    record { is = is; small = rw is (omega arith) }
