use Rattle.rc_geom.proofs.Words.{nodes_in_words}
use Rattle.rc_geom.proofs.laws.nodes_in_words.Goals as goal

pub returns : goal.returns
returns g c = nodes_in_words
