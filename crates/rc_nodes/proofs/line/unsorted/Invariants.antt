use Rattle.std.proofs.Common.{◌≡◌, map, take}
use Rattle.rc_nodes.specs.Nodes.{numbered}
use Rattle.rc_nodes.specs.Lines.{tap_of}
use Rattle.rc_nodes.proofs.line.unsorted.Given as goal

abbrev pub invariant-loop-k : goal.invariant-loop-k
invariant-loop-k l = l.taps.items ≡ take l.k (map (tap_of l.level) (numbered l.nodes))
