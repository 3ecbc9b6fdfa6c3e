use Rattle.rc_def.proofs.FilesRead.{accepts_files}
use Rattle.rc_def.proofs.laws.accepted_are_files.Goals as goal

pub returns : goal.returns
returns c = accepts_files
