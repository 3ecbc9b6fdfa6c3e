use Rattle.std.proofs.Common.{take}
use Rattle.rc_geom.specs.Plane.{plane_of}
use Rattle.rc_geom.specs.Sums.{first_place, end_place}
use Rattle.rc_tally.specs.Tallies.{sums}
use Rattle.rc_sums.specs.Entering.{many, Enters}
use Rattle.rc_sums.specs.Worths.{faces_within}
use Rattle.rc_sums.proofs.enter.enter_faces.Given as goal

abbrev pub invariant-loop-face : goal.invariant-loop-face
invariant-loop-face g l =
    Enters g.R.Value.Amount.adding g.R.Value.Amount.sound l.initial.tally l.tally
    (faces_within (sums g.R.Value.Amount.adding) (many g.R.Value.Amount.adding l.n) (plane_of l.stack.tiles) (g.R.Rater.rates_of l.rater) l.stack.line.axis l.layer l.stack.line.at (first_place l.stack.line.axis l.area) (end_place l.stack.line.axis l.area) (take l.face-index l.faces))
