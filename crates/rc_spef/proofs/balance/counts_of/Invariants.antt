use Rattle.std.proofs.Common.{take}
use Rattle.rc_spef.specs.Joints.{CountsNames}
use Rattle.rc_spef.proofs.balance.counts_of.Given as goal

abbrev pub invariant-loop-net : goal.invariant-loop-net
invariant-loop-net l = CountsNames l.counts (take l.net-index l.nets)
