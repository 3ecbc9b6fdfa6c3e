use Rattle.std.proofs.Common.{◌≡◌, ◌++◌, drop}
use Rattle.rc_nodes.specs.Wires.{segments}
use Rattle.rc_nodes.proofs.wire.add_segments.Given as goal

abbrev pub invariant-loop-k : goal.invariant-loop-k
invariant-loop-k l = l.wires.items ++ segments l.item.width (drop l.k l.taps) ≡ l.fn.wires.items ++ segments l.item.width l.taps
