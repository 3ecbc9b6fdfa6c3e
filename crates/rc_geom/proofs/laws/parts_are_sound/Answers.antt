use Rattle.rc_geom.proofs.Words.{parts_are_sound}
use Rattle.rc_geom.proofs.laws.parts_are_sound.Goals as goal

pub returns : goal.returns
returns g c = parts_are_sound
