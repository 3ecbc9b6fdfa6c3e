-- The items of the nets so far are counted.
use Rattle.std.proofs.Common.{◌≡◌, ◌≤◌, take}
use Rattle.rc_layout.specs.Layouts.{shape_count}
use Rattle.rc_layout.proofs.layout.counted.Given as goal

abbrev pub invariant-loop-net : goal.invariant-loop-net
invariant-loop-net l = record { is : l.count ≡ shape_count (take l.net-index l.nets); few : l.count ≤ l.most }
