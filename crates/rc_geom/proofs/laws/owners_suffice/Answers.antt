use Rattle.rc_geom.proofs.Owners.{owners_suffice}
use Rattle.rc_geom.proofs.laws.owners_suffice.Goals as goal

pub returns : goal.returns
returns c = owners_suffice
