use Rattle.rc_bars.proofs.Masks.{below_of, below_none}
use Rattle.rc_bars.proofs.mask.below.Goals as goal

pub returns-clause-of : goal.returns-clause-of
returns-clause-of c = λ k less. below_of c.args.mask c.args.layer k c.requires less

pub returns-clause-none : goal.returns-clause-none
returns-clause-none c = λ k past. below_none c.args.mask c.args.layer k c.requires past
