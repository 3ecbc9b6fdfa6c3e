use Rattle.rc_geom.proofs.KeyTests.{shares_are_mutual}
use Rattle.rc_geom.proofs.laws.shares_are_mutual.Goals as goal

pub returns : goal.returns
returns c = shares_are_mutual
