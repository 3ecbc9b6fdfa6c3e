use Rattle.rc_rules.proofs.Files.{say_one}
use Rattle.rc_rules.proofs.laws.files_say_one.Goals as goal

pub returns : goal.returns
returns c = say_one
