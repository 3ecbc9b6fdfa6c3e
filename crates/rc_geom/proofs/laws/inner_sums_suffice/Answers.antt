use Rattle.rc_geom.proofs.Areas.{inner_sums_suffice}
use Rattle.rc_geom.proofs.laws.inner_sums_suffice.Goals as goal

pub returns : goal.returns
returns g c = inner_sums_suffice
