use Rattle.std.proofs.Common.{◌≡◌, ◌++◌, take}
use Rattle.std.specs.List.{enumerate_from, flat_map}
use Rattle.rc_shorts.specs.OfLayouts.{net_metal}
use Rattle.rc_shorts.specs.Places.{net_shapes}
use Rattle.rc_shorts.proofs.linked.put_nets.Given as goal

abbrev pub invariant-loop-place : goal.invariant-loop-place
invariant-loop-place l = l.list.items ≡ l.initial.list.items ++ flat_map (λ e. net_shapes e.0 (net_metal e.1)) (take l.place (enumerate_from l.first l.nets))
