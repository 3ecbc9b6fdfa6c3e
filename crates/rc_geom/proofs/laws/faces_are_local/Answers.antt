use Rattle.rc_geom.proofs.Rays.{faces_are_local}
use Rattle.rc_geom.proofs.laws.faces_are_local.Goals as goal

pub returns : goal.returns
returns c = faces_are_local
