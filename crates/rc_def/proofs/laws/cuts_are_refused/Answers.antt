use Rattle.rc_def.proofs.CutFiles.{cuts_are_refused}
use Rattle.rc_def.proofs.laws.cuts_are_refused.Goals as goal

pub returns : goal.returns
returns c = cuts_are_refused
