use Rattle.rc_geom.proofs.Counts.{counts_are_bounded}
use Rattle.rc_geom.proofs.laws.counts_are_bounded.Goals as goal

pub returns : goal.returns
returns g c = counts_are_bounded
