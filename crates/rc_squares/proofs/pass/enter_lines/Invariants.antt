use Rattle.std.proofs.Common.{◌*◌, ◌^◌, ℕ}
use Rattle.rc_geom.specs.declared.key.Key.{Key}
use Rattle.rc_geom.specs.Plane.{plane_of}
use Rattle.rc_squares.specs.Worths.{lines_worth}
use Rattle.rc_squares.specs.Tallies.{Enters}
use Rattle.rc_squares.proofs.KeyOrders.{key_order}
use Rattle.rc_squares.proofs.pass.enter_lines.Given as goal

-- what the lines so far add is entered
abbrev pub invariant-loop-line : goal.invariant-loop-line
invariant-loop-line g l =
    let rates = g.R.FaceRates.rates_of l.rates in
    Enters key_order l.fn.tally l.tally (λ (worth : ℕ → ℕ) (key : Key). lines_worth worth (plane_of l.tiles) rates l.layer key g.row.A l.area l.line) (2 ^ 33 * l.line)
