use Rattle.std.proofs.Common.{◌≡◌, ◌<◌, ◌+◌, ℕ, false}
use Rattle.std.specs.Prelude.{is_some}
use Rattle.rc_geom.specs.Plane.{plane_of}
use Rattle.rc_squares.specs.Sides.{ahead}
use Rattle.rc_squares.proofs.faces.gap_ahead.Given as goal

-- the squares so far are empty
abbrev pub invariant-loop-gap : goal.invariant-loop-gap
invariant-loop-gap l = (k : ℕ) → k < l.gap → is_some (ahead (plane_of l.tiles) l.layer l.side l.at (k + 1)) ≡ false
