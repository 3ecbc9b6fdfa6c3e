use Rattle.std.proofs.Common.{◌≡◌, take}
use Rattle.rc_geom.specs.Plane.{owner}
use Rattle.rc_squares.proofs.square.metal_at.Given as goal

-- the best so far owns the square among the tiles so far
abbrev pub invariant-loop-tile : goal.invariant-loop-tile
invariant-loop-tile l = l.best ≡ owner (take l.tile-index l.tiles) l.layer l.at
