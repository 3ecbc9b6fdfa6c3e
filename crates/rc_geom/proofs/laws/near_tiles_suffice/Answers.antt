use Rattle.rc_geom.proofs.Halos.{near_tiles_suffice}
use Rattle.rc_geom.proofs.laws.near_tiles_suffice.Goals as goal

pub returns : goal.returns
returns g c = near_tiles_suffice
