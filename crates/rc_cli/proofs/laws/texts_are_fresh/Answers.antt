use Rattle.rc_cli.proofs.Fresh.{texts_are_fresh}
use Rattle.rc_cli.proofs.laws.texts_are_fresh.Goals as goal

pub returns : goal.returns
returns c = texts_are_fresh
