use Rattle.rc_geom.proofs.KeyTests.{keys_are_told}
use Rattle.rc_geom.proofs.laws.keys_are_told.Goals as goal

pub returns : goal.returns
returns c = keys_are_told
