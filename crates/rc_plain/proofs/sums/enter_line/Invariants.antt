use Rattle.std.proofs.Common.{◌+ℤ◌, pos}
use Rattle.rc_geom.specs.Plane.{plane_of}
use Rattle.rc_geom.specs.Sums.{first_line, first_place}
use Rattle.rc_sums.specs.Entering.{Enters}
use Rattle.rc_plain.specs.Squares.{places_added}
use Rattle.rc_plain.proofs.sums.enter_line.Given as goal

abbrev pub invariant-loop-place : goal.invariant-loop-place
invariant-loop-place g l =
    Enters g.R.Value.Amount.adding g.R.Value.Amount.sound l.initial.tally l.tally
    (places_added g.R.Value.Amount.adding (plane_of l.tiles) (g.R.Rater.rates_of l.rater) g.row.A l.layer (first_line g.row.A l.area +ℤ pos l.line) (first_place g.row.A l.area) l.place)
