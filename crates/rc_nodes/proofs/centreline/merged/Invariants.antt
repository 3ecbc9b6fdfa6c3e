use Rattle.std.proofs.Common.{◌≡◌, ◌++◌, drop}
use Rattle.rc_nodes.specs.Crossings.{merged, merged_onto}
use Rattle.rc_nodes.proofs.centreline.merged.Given as goal

abbrev pub invariant-loop-k : goal.invariant-loop-k
invariant-loop-k l = l.merged.items ++ merged_onto l.last (drop l.k l.centrelines) ≡ merged l.centrelines
