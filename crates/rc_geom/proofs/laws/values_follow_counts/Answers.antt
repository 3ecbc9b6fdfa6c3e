use Rattle.rc_geom.proofs.Counts.{values_follow_counts}
use Rattle.rc_geom.proofs.laws.values_follow_counts.Goals as goal

pub returns : goal.returns
returns c = values_follow_counts
