use Rattle.rc_fixed.proofs.Exact.{writes_back}
use Rattle.rc_fixed.proofs.laws.decimal_writes_back.Goals as goal

pub returns : goal.returns
returns c = writes_back
