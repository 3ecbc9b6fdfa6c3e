use Rattle.rc_geom.proofs.FarNets.{far_nets_have_no_parts}
use Rattle.rc_geom.proofs.laws.far_nets_have_no_parts.Goals as goal

pub returns : goal.returns
returns g c = far_nets_have_no_parts
