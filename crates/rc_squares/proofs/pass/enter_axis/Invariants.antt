use Rattle.std.proofs.Common.{◌*◌, ◌^◌, ℕ}
use Rattle.rc_geom.specs.declared.key.Key.{Key}
use Rattle.rc_geom.specs.Plane.{plane_of}
use Rattle.rc_squares.specs.Worths.{layers_worth}
use Rattle.rc_squares.specs.Tallies.{Enters}
use Rattle.rc_squares.proofs.KeyOrders.{key_order}
use Rattle.rc_squares.proofs.pass.enter_axis.Given as goal

-- what the layers so far add is entered
abbrev pub invariant-loop-layer : goal.invariant-loop-layer
invariant-loop-layer g l =
    let rates = g.R.FaceRates.rates_of l.rates in
    Enters key_order l.fn.tally l.tally (λ (worth : ℕ → ℕ) (key : Key). layers_worth worth (plane_of l.tiles) rates key g.row.A l.area l.layer) (2 ^ 64 * l.layer)
