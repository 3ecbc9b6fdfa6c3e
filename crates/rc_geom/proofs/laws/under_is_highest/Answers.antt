use Rattle.rc_geom.proofs.Nearest.{under_is_highest}
use Rattle.rc_geom.proofs.laws.under_is_highest.Goals as goal

pub returns : goal.returns
returns c = under_is_highest
