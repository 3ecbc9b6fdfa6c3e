use Rattle.rc_geom.proofs.Turns.{places_squares}
use Rattle.rc_geom.proofs.laws.places_squares.Goals as goal

pub returns : goal.returns
returns c = places_squares
