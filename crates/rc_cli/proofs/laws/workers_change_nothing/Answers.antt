use Rattle.rc_cli.proofs.Workers.{workers_change_nothing}
use Rattle.rc_cli.proofs.laws.workers_change_nothing.Goals as goal

pub returns : goal.returns
returns c = workers_change_nothing
