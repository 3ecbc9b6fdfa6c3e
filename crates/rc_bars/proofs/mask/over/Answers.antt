use Rattle.std.proofs.Common.{arith}
use Rattle.rc_bars.proofs.Masks.{lowest_is, none_above_is}
use Rattle.rc_bars.proofs.mask.over.Goals as goal

pub returns-then-above-eq0 : goal.returns-then-above-eq0
returns-then-above-eq0 c = none_above_is c.args.mask c.args.layer (let none = c.if-above-eq0.true in omega (arith, none))

pub returns : goal.returns
returns c = lowest_is c.args.mask c.args.layer (omega arith) (let some = c.if-above-eq0.false in omega (arith, some)) (omega arith)
