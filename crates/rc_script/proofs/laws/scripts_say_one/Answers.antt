use Rattle.rc_script.proofs.ScriptsRead.{say_one}
use Rattle.rc_script.proofs.laws.scripts_say_one.Goals as goal

pub returns : goal.returns
returns c = say_one
