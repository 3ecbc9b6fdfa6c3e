use Rattle.rc_geom.proofs.Areas.{metal_bounds}
use Rattle.rc_geom.proofs.laws.metal_bounds.Goals as goal

pub returns : goal.returns
returns g c = metal_bounds
