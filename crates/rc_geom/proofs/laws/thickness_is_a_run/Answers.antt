use Rattle.rc_geom.proofs.Rays.{thickness_is_a_run}
use Rattle.rc_geom.proofs.laws.thickness_is_a_run.Goals as goal

pub returns : goal.returns
returns c = thickness_is_a_run
