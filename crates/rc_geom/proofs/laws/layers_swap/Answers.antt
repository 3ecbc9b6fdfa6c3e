use Rattle.rc_geom.proofs.Cuts.{layers_swap}
use Rattle.rc_geom.proofs.laws.layers_swap.Goals as goal

pub returns : goal.returns
returns g c = layers_swap
