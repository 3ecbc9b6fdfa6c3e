use Rattle.std.proofs.Common.{◌≡◌, ◌≤◌, ◌*◌, ◌^◌}
use Rattle.rc_geom.specs.Plane.{plane_of}
use Rattle.rc_squares.specs.Worths.{one, amount, layers_worth}
use Rattle.rc_squares.proofs.sums.sum_in.Given as goal

-- the sum so far is that of the layers so far, each of which adds little
abbrev pub invariant-loop-layer : goal.invariant-loop-layer
invariant-loop-layer g l =
    let rates = g.R.FaceRates.rates_of l.rates in
    record {
      count : l.sum.count ≡ layers_worth one (plane_of l.tiles) rates l.key g.row.A l.area l.layer;
      value : l.sum.value ≡ layers_worth amount (plane_of l.tiles) rates l.key g.row.A l.area l.layer;
      few : l.sum.count ≤ 2 ^ 64 * l.layer;
      small : l.sum.value ≤ 2 ^ 121 * l.layer;
    }
