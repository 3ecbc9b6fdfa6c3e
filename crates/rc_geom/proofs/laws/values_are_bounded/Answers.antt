use Rattle.rc_geom.proofs.Areas.{values_are_bounded}
use Rattle.rc_geom.proofs.laws.values_are_bounded.Goals as goal

pub returns : goal.returns
returns g c = values_are_bounded
