use Rattle.rc_spef.proofs.Lines.{head_and_blocks}
use Rattle.rc_spef.proofs.laws.head_and_blocks.Goals as goal

pub returns : goal.returns
returns g = head_and_blocks
