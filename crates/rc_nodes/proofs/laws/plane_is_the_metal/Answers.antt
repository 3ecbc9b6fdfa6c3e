use Rattle.rc_nodes.proofs.Layouts.{plane_is_the_metal}
use Rattle.rc_nodes.proofs.laws.plane_is_the_metal.Goals as goal

pub returns : goal.returns
returns c = plane_is_the_metal
