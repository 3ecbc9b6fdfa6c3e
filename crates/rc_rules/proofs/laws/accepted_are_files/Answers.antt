use Rattle.rc_rules.proofs.Files.{accepts_files}
use Rattle.rc_rules.proofs.laws.accepted_are_files.Goals as goal

pub returns : goal.returns
returns c = accepts_files
