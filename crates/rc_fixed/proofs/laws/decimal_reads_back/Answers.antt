use Rattle.rc_fixed.proofs.Exact.{reads_back}
use Rattle.rc_fixed.proofs.laws.decimal_reads_back.Goals as goal

pub returns : goal.returns
returns c = reads_back
