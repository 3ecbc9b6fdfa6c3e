use Rattle.std.proofs.Common.{length}
use Rattle.rc_nodes.proofs.crossing.+add_common.Given as goal

abbrev pub decreases-add_common : goal.decreases-add_common
decreases-add_common l = length l.levels.now
