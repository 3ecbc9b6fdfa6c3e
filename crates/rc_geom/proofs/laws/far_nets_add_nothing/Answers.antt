use Rattle.rc_geom.proofs.FarNets.{far_nets_add_nothing}
use Rattle.rc_geom.proofs.laws.far_nets_add_nothing.Goals as goal

pub returns : goal.returns
returns g c = far_nets_add_nothing
