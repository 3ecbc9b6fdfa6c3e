use Rattle.std.proofs.Common.{◌≡◌, map, take}
use Rattle.std.specs.List.{flat_map, enumerate_from}
use Rattle.rc_nodes.specs.Contacts.{pin_hits}
use Rattle.rc_nodes.specs.Pins.{conn_rects}
use Rattle.rc_nodes.proofs.contact.all_hits.Given as goal

abbrev pub invariant-loop-k : goal.invariant-loop-k
invariant-loop-k l = l.contacts.items ≡ flat_map (pin_hits l.nodes) (take l.k (enumerate_from 0 (map (conn_rects l.layout.parts) l.conns)))
