use Rattle.std.proofs.Common.{ℕ, Bool}
use Rattle.std.specs.Prelude.{is_some}
use Rattle.rc_geom.specs.Plane.{plane_of}
use Rattle.rc_squares.proofs.Ranges.{last_passes, last_fails}
use Rattle.rc_squares.proofs.faces.under.Goals as goal
use Rattle.rc_squares.proofs.faces.under.Goals.{then-is_some, else-is_some}

pub loop-below-preserved : goal.loop-below-preserved
loop-below-preserved c =
    let metal : ℕ → Bool = λ below. is_some (plane_of c.args.tiles.now below c.args.at) in
    elim c.if-is_some.branch [
      | then-is_some w ↦ last_passes metal c.loop-below.below _ (cc) w.highest-is
      | else-is_some w ↦ last_fails metal c.loop-below.below _ _ (cc) c.loop-below.invariant w.highest-is
    ]
