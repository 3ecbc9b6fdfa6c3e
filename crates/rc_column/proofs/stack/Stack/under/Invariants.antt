use Rattle.std.proofs.Common.{◌≡◌}
use Rattle.rc_geom.specs.Plane.{plane_of}
use Rattle.rc_geom.specs.Line.{square_of}
use Rattle.rc_geom.specs.Context.{under}
use Rattle.rc_column.proofs.stack.Stack.under.Given as goal

-- the highest so far is that of the layers so far
abbrev pub invariant-loop-below : goal.invariant-loop-below
invariant-loop-below l = l.highest ≡ under (plane_of l.self.tiles) l.below (square_of l.self.line.axis l.self.line.at l.place.at)
