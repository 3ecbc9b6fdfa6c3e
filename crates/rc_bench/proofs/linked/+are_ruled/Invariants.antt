use Rattle.std.proofs.Common.{length}
use Rattle.rc_bench.proofs.linked.+are_ruled.Given as goal

abbrev pub decreases-are_ruled : goal.decreases-are_ruled
decreases-are_ruled l = length l.items.now
