use Rattle.std.proofs.Common.{◌≤◌, ◌*◌, ◌-◌, ℕ, pos, ◌+ℤ◌}
use Rattle.rc_geom.specs.declared.key.Key.{Key}
use Rattle.rc_geom.specs.Plane.{plane_of}
use Rattle.rc_geom.specs.Sums.{first_line}
use Rattle.rc_squares.specs.Worths.{line_worth}
use Rattle.rc_squares.specs.Tallies.{Enters}
use Rattle.rc_squares.proofs.KeyOrders.{key_order}
use Rattle.rc_squares.proofs.pass.enter_line.Given as goal

-- what the squares so far add is entered
abbrev pub invariant-loop-place : goal.invariant-loop-place
invariant-loop-place g l =
    let rates = g.R.FaceRates.rates_of l.rates in
    record {
      within : l.place ≤ l.count;
      entered : Enters key_order l.fn.tally l.tally (λ (worth : ℕ → ℕ) (key : Key). line_worth worth (plane_of l.tiles) rates l.layer key g.row.A l.area (first_line g.row.A l.area +ℤ pos l.line) l.place) (4 * l.place);
    }

abbrev pub decreases-loop-place : goal.decreases-loop-place
decreases-loop-place g l = l.count - l.place
