use Rattle.std.proofs.Common.{◌≡◌, ◌++◌, map, take}
use Rattle.rc_nodes.specs.Contacts.{pin_hits}
use Rattle.rc_nodes.specs.Pins.{placed_rect}
use Rattle.rc_nodes.proofs.contact.add_placed.Given as goal

abbrev pub invariant-loop-k : goal.invariant-loop-k
invariant-loop-k l = l.contacts.items ≡ l.fn.contacts.items ++ pin_hits l.nodes (l.conn, map (placed_rect l.cell (l.at, l.o)) (take l.k l.drawn))
