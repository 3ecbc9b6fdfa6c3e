use Rattle.rc_geom.proofs.Halos.{halos_keep_faces}
use Rattle.rc_geom.proofs.laws.halos_keep_faces.Goals as goal

pub returns : goal.returns
returns g c = halos_keep_faces
