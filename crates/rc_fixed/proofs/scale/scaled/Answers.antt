use Rattle.std.proofs.Common.{◌++◌, sym, arith, length-append}
use Rattle.rc_fixed.proofs.Scales.{raised_quotient, lowered_quotient}
use Rattle.rc_fixed.proofs.scale.scaled.Goals as goal

pub returns-then-up-down : goal.returns-then-up-down
returns-then-up-down c =
    raised_quotient (c.args.whole.now ++ c.args.fraction.now) c.args.up c.args.down _ c.digits_between.result c.raised-floor.result
    (sym (length-append c.args.whole.now c.args.fraction.now)) (omega (arith, c.if-up-down.true)) c.digits_between.ensures.value c.raised-floor.ensures.value

pub returns : goal.returns
returns c =
    lowered_quotient (c.args.whole.now ++ c.args.fraction.now) c.args.up c.args.down _ c.saturating_sub-kept.result c.digits_between-2.result c.digits_between-3.result
    c.requires.digits (sym (length-append c.args.whole.now c.args.fraction.now)) (omega (arith, c.if-up-down.false)) c.saturating_sub-kept.ensures c.digits_between-2.ensures.value c.digits_between-3.ensures.value
