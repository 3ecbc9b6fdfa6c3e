use Rattle.rc_geom.proofs.Owners.{owners_are_least}
use Rattle.rc_geom.proofs.laws.owners_are_least.Goals as goal

pub returns : goal.returns
returns c = owners_are_least
