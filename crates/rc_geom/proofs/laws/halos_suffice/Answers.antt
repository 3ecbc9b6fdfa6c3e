use Rattle.rc_geom.proofs.Halos.{halos_suffice}
use Rattle.rc_geom.proofs.laws.halos_suffice.Goals as goal

pub returns : goal.returns
returns g c = halos_suffice
