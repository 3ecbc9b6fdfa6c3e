use Rattle.rc_io.proofs.Growth.{grown-nil, grown-grown}
use Rattle.rc_io.proofs.laws.growth_adds_up.Goals as goal

pub returns : goal.returns
returns c = record { nothing = grown-nil; both = grown-grown }
