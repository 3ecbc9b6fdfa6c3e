use Rattle.std.proofs.Common.{arith}
use Rattle.rc_bars.proofs.Masks.{highest_is, none_highest}
use Rattle.rc_bars.proofs.mask.under.Goals as goal

pub returns-then-below-eq0 : goal.returns-then-below-eq0
returns-then-below-eq0 c = none_highest c.args.mask c.below-below.result c.args.layer c.below-below.ensures.of (let none = c.if-below-eq0.true in omega (arith, none))

pub returns : goal.returns
returns c = highest_is c.args.mask c.below-below.result c.args.layer c.below-below.ensures.of c.below-below.ensures.none (let some = c.if-below-eq0.false in omega (arith, some)) (omega arith)
