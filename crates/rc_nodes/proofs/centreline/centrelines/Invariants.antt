use Rattle.std.proofs.Common.{◌≡◌, map, take}
use Rattle.std.specs.Prelude.{filter}
use Rattle.rc_nodes.specs.Crossings.{runs, centreline_of}
use Rattle.rc_nodes.proofs.centreline.centrelines.Given as goal

abbrev pub invariant-loop-item : goal.invariant-loop-item
invariant-loop-item l = l.centrelines.items ≡ map centreline_of (filter (runs l.level) (take l.item-index l.items))
