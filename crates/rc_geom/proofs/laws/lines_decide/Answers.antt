use Rattle.rc_geom.proofs.Halos.{lines_decide}
use Rattle.rc_geom.proofs.laws.lines_decide.Goals as goal

pub returns : goal.returns
returns g c = lines_decide
