use Rattle.std.proofs.Common.{◌≡◌, ◌≤◌, ◌*◌, ◌^◌}
use Rattle.rc_geom.specs.Plane.{plane_of}
use Rattle.rc_squares.specs.Worths.{one, amount, lines_worth}
use Rattle.rc_squares.proofs.sums.lines_sum.Given as goal

-- the sum so far is that of the lines so far, each of which adds little
abbrev pub invariant-loop-line : goal.invariant-loop-line
invariant-loop-line g l =
    let rates = g.R.FaceRates.rates_of l.rates in
    record {
      count : l.sum.count ≡ lines_worth one (plane_of l.tiles) rates l.layer l.key g.row.A l.area l.line;
      value : l.sum.value ≡ lines_worth amount (plane_of l.tiles) rates l.layer l.key g.row.A l.area l.line;
      few : l.sum.count ≤ 2 ^ 33 * l.line;
      small : l.sum.value ≤ 2 ^ 90 * l.line;
    }
