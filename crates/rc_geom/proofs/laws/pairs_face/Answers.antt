use Rattle.rc_geom.proofs.Facings.{pairs_face}
use Rattle.rc_geom.proofs.laws.pairs_face.Goals as goal

pub returns : goal.returns
returns g c = pairs_face
