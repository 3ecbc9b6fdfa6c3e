use Rattle.std.proofs.Common.{◌≡◌, ◌++◌, map, take}
use Rattle.rc_nodes.specs.Resistors.{wire_resistor}
use Rattle.rc_nodes.proofs.resistor.add_wires.Given as goal

abbrev pub invariant-loop-k : goal.invariant-loop-k
invariant-loop-k l = l.all ≡ l.fn.all ++ map (wire_resistor l.rules l.nodes) (take l.k l.wires)
