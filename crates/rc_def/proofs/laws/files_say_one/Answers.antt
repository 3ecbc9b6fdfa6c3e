use Rattle.rc_def.proofs.FilesRead.{say_one}
use Rattle.rc_def.proofs.laws.files_say_one.Goals as goal

pub returns : goal.returns
returns c = say_one
