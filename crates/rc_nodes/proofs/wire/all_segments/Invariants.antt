use Rattle.std.proofs.Common.{◌≡◌, take}
use Rattle.std.specs.List.{flat_map}
use Rattle.rc_nodes.specs.Wires.{item_segments}
use Rattle.rc_nodes.proofs.wire.all_segments.Given as goal

abbrev pub invariant-loop-item : goal.invariant-loop-item
invariant-loop-item l = l.wires.items ≡ flat_map (item_segments l.rows l.columns) (take l.item-index l.items)
