use Rattle.std.proofs.Common.{ℕ, Bool}
use Rattle.std.specs.Prelude.{is_some}
use Rattle.rc_geom.specs.Plane.{plane_of}
use Rattle.rc_geom.specs.Line.{square_of}
use Rattle.rc_geom.proofs.Ranges.{last_passes, last_fails}
use Rattle.rc_column.proofs.stack.Stack.under.Goals as goal
use Rattle.rc_column.proofs.stack.Stack.under.Goals.{then-has_metal, else-has_metal}

pub loop-below-preserved : goal.loop-below-preserved
loop-below-preserved c =
    let s = c.args.self.now in
    let metal : ℕ → Bool = λ below. is_some (plane_of s.tiles below (square_of s.line.axis s.line.at c.args.place.at)) in
    elim c.if-has_metal.branch [
      | then-has_metal w ↦ last_passes metal c.loop-below.below _ (cc) w.highest-is
      | else-has_metal w ↦ last_fails metal c.loop-below.below _ _ (cc) c.loop-below.invariant w.highest-is
    ]
