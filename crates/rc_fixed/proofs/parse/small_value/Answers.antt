use Rattle.std.proofs.Common.{◌∙◌, ◌+◌, ◌*◌, ◌^◌, ap}
use Rattle.std.specs.Prelude.{min}
use Rattle.rc_fixed.proofs.Wholes.{small_more}
use Rattle.rc_fixed.proofs.parse.small_value.Goals as goal

pub loop-digit-preserved : goal.loop-digit-preserved
loop-digit-preserved c =
    small_more c.args.digits.now c.loop-digit.digit-index c.loop-digit.value c.min-value.result c.loop-digit-test.true c.requires c.loop-digit.invariant
    (c.min-value.ensures ∙ ap (λ d. min (10 ^ 9) (c.loop-digit.value * 10 + d)) c.from.ensures)
