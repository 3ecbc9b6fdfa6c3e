use Rattle.std.proofs.Common.{◌≡◌, ◌<◌, ℕ, true}
use Rattle.rc_geom.specs.Plane.{plane_of}
use Rattle.rc_geom.specs.Faces.{is_net}
use Rattle.rc_squares.specs.Sides.{behind}
use Rattle.rc_squares.proofs.faces.run_behind.Given as goal

-- the squares so far are the net's
abbrev pub invariant-loop-distance : goal.invariant-loop-distance
invariant-loop-distance l = (k : ℕ) → k < l.distance → is_net l.net (behind (plane_of l.tiles) l.layer l.fn.side l.at k) ≡ true
