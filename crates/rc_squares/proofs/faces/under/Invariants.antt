use Rattle.std.proofs.Common.{◌≡◌}
use Rattle.rc_geom.specs.Plane.{plane_of}
use Rattle.rc_geom.specs.Context.{under}
use Rattle.rc_squares.proofs.faces.under.Given as goal

-- the highest so far is that of the layers so far
abbrev pub invariant-loop-below : goal.invariant-loop-below
invariant-loop-below l = l.highest ≡ under (plane_of l.tiles) l.below l.at
