use Rattle.std.proofs.Common.{length, ◌-◌, ◌+◌}
use Rattle.rc_tally.proofs.Merges.{AreMerged}
use Rattle.rc_tally.proofs.join.merged.Given as goal

abbrev pub invariant-loop-i : goal.invariant-loop-i
invariant-loop-i g l = AreMerged g.V.Amount.adding l.a l.b l.i l.j l.sums.items

abbrev pub decreases-loop-i : goal.decreases-loop-i
decreases-loop-i g l = (length l.a - l.i) + (length l.b - l.j)
