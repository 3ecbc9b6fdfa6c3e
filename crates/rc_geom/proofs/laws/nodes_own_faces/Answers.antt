use Rattle.rc_geom.proofs.Entries.{nodes_own_faces}
use Rattle.rc_geom.proofs.laws.nodes_own_faces.Goals as goal

pub returns : goal.returns
returns g c = nodes_own_faces
