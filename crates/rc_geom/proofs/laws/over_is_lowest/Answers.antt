use Rattle.rc_geom.proofs.Nearest.{over_is_lowest}
use Rattle.rc_geom.proofs.laws.over_is_lowest.Goals as goal

pub returns : goal.returns
returns c = over_is_lowest
