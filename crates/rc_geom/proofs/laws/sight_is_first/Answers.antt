use Rattle.rc_geom.proofs.Rays.{sight_is_first}
use Rattle.rc_geom.proofs.laws.sight_is_first.Goals as goal

pub returns : goal.returns
returns c = sight_is_first
