use Rattle.rc_geom.specs.Plane.{plane_of}
use Rattle.rc_sums.specs.Entering.{Enters}
use Rattle.rc_plain.specs.Squares.{layers_added}
use Rattle.rc_plain.proofs.sums.enter_axis.Given as goal

abbrev pub invariant-loop-layer : goal.invariant-loop-layer
invariant-loop-layer g l =
    Enters g.R.Value.Amount.adding g.R.Value.Amount.sound l.initial.tally l.tally
    (layers_added g.R.Value.Amount.adding (plane_of l.tiles) (g.R.Rater.rates_of l.rater) g.row.A l.area l.layer)
