-- The shapes so far.
use Rattle.std.proofs.Common.{◌≡◌, map, take}
use Rattle.std.specs.List.{enumerate_from}
use Rattle.rc_shorts.specs.OfLayouts.{metal_of}
use Rattle.rc_shorts.specs.Places.{shape_of}
use Rattle.rc_engine.proofs.nearby.net_shapes.Given as goal

abbrev pub invariant-loop-place : goal.invariant-loop-place
invariant-loop-place l = l.shapes.items ≡ map (shape_of l.number) (take l.place (enumerate_from 0 (map metal_of l.items)))
