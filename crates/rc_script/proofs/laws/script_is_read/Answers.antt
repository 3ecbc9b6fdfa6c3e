use Rattle.rc_script.proofs.ScriptsRead.{accepts_scripts}
use Rattle.rc_script.proofs.laws.script_is_read.Goals as goal

pub returns : goal.returns
returns c = accepts_scripts
