use Rattle.std.proofs.Common.{◌≡◌, take}
use Rattle.std.specs.Prelude.{filter}
use Rattle.rc_nodes.specs.Lines.{lies_on}
use Rattle.rc_nodes.proofs.line.taps_on.Given as goal

abbrev pub invariant-loop-k : goal.invariant-loop-k
invariant-loop-k l = l.on.items ≡ filter (lies_on l.item) (take l.k l.taps)
