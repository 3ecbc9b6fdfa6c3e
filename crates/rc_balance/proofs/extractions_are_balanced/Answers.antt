use Rattle.rc_balance.proofs.Balanced.{extractions_are_balanced}
use Rattle.rc_balance.proofs.extractions_are_balanced.Goals as goal

pub returns : goal.returns
returns c = extractions_are_balanced
