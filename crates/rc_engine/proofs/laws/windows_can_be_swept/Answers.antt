use Rattle.rc_engine.proofs.Sweepable.{windows_can_be_swept}
use Rattle.rc_engine.proofs.laws.windows_can_be_swept.Goals as goal

pub returns : goal.returns
returns c = windows_can_be_swept
