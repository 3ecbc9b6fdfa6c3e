use Rattle.rc_geom.specs.Plane.{plane_of}
use Rattle.rc_geom.specs.Sums.{first_place, end_place}
use Rattle.rc_tally.specs.Tallies.{sums}
use Rattle.rc_sums.specs.Entering.{many, Enters}
use Rattle.rc_sums.specs.Worths.{column_added}
use Rattle.rc_sums.proofs.enter.enter_column.Given as goal

abbrev pub invariant-loop-layer : goal.invariant-loop-layer
invariant-loop-layer g l =
    Enters g.R.Value.Amount.adding g.R.Value.Amount.sound l.initial.tally l.tally
    (column_added (sums g.R.Value.Amount.adding) (many g.R.Value.Amount.adding l.n) (plane_of l.stack.tiles) (g.R.Rater.rates_of l.rater) l.stack.line.axis l.stack.line.at (first_place l.stack.line.axis l.area) (end_place l.stack.line.axis l.area) l.layer)
