-- The shapes so far.
use Rattle.std.proofs.Common.{◌≡◌, ◌++◌, take}
use Rattle.rc_engine.specs.Nearby.{shapes_beside}
use Rattle.rc_engine.proofs.nearby.add_shapes.Given as goal

abbrev pub invariant-loop-tile : goal.invariant-loop-tile
invariant-loop-tile l = l.shapes ≡ l.initial.shapes ++ shapes_beside l.layout l.number (take l.tile-index l.tiles)
