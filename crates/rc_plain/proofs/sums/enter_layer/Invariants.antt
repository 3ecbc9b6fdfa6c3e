use Rattle.rc_geom.specs.Plane.{plane_of}
use Rattle.rc_sums.specs.Entering.{Enters}
use Rattle.rc_plain.specs.Squares.{lines_added}
use Rattle.rc_plain.proofs.sums.enter_layer.Given as goal

abbrev pub invariant-loop-line : goal.invariant-loop-line
invariant-loop-line g l =
    Enters g.R.Value.Amount.adding g.R.Value.Amount.sound l.initial.tally l.tally
    (lines_added g.R.Value.Amount.adding (plane_of l.tiles) (g.R.Rater.rates_of l.rater) g.row.A l.layer l.area l.line)
