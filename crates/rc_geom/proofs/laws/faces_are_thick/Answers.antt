use Rattle.rc_geom.proofs.Rays.{faces_are_thick}
use Rattle.rc_geom.proofs.laws.faces_are_thick.Goals as goal

pub returns : goal.returns
returns c = faces_are_thick
