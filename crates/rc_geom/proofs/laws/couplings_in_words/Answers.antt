use Rattle.rc_geom.proofs.Words.{couplings_in_words}
use Rattle.rc_geom.proofs.laws.couplings_in_words.Goals as goal

pub returns : goal.returns
returns g c = couplings_in_words
