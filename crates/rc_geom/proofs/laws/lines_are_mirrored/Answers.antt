use Rattle.rc_geom.proofs.Rays.{is_mirrored}
use Rattle.rc_geom.proofs.laws.lines_are_mirrored.Goals as goal

pub returns : goal.returns
returns c = is_mirrored
