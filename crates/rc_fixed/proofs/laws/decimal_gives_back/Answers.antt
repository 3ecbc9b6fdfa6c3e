use Rattle.rc_fixed.proofs.Exact.{gives_back}
use Rattle.rc_fixed.proofs.laws.decimal_gives_back.Goals as goal

pub returns : goal.returns
returns c = gives_back
