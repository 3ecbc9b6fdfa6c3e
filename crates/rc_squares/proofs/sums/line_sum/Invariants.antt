use Rattle.std.proofs.Common.{◌≡◌, ◌≤◌, ◌*◌, ◌^◌, pos, ◌+ℤ◌}
use Rattle.rc_geom.specs.Plane.{plane_of}
use Rattle.rc_geom.specs.Sums.{first_line}
use Rattle.rc_squares.specs.Worths.{one, amount, line_worth}
use Rattle.rc_squares.proofs.sums.line_sum.Given as goal

-- the sum so far is that of the squares so far, each of which adds little
abbrev pub invariant-loop-place : goal.invariant-loop-place
invariant-loop-place g l =
    let rates = g.R.FaceRates.rates_of l.rates in
    record {
      count : l.sum.count ≡ line_worth one (plane_of l.tiles) rates l.layer l.key g.row.A l.area (first_line g.row.A l.area +ℤ pos l.line) l.place;
      value : l.sum.value ≡ line_worth amount (plane_of l.tiles) rates l.layer l.key g.row.A l.area (first_line g.row.A l.area +ℤ pos l.line) l.place;
      few : l.sum.count ≤ 4 * l.place;
      small : l.sum.value ≤ 2 ^ 59 * l.place;
    }
