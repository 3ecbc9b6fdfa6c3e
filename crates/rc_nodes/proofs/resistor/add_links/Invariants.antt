use Rattle.std.proofs.Common.{◌≡◌, ◌++◌, map, take}
use Rattle.rc_nodes.specs.Resistors.{via_resistor}
use Rattle.rc_nodes.proofs.resistor.add_links.Given as goal

abbrev pub invariant-loop-link : goal.invariant-loop-link
invariant-loop-link l = l.all ≡ l.fn.all ++ map (via_resistor l.rules l.vias) (take l.link-index l.links)
