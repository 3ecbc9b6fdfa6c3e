use Rattle.std.proofs.Common.{◌≡◌, ◌≤◌, ◌*◌, take}
use Rattle.std.specs.List.{sum_by}
use Rattle.rc_nodes.specs.Counts.{tap_count}
use Rattle.rc_nodes.proofs.count.items_count.Given as goal

abbrev pub invariant-loop-item : goal.invariant-loop-item
invariant-loop-item l = record {
  is : l.count ≡ sum_by (tap_count l.rows l.columns) (take l.item-index l.items);
  small : l.count ≤ 4194304 * l.item-index;
}
