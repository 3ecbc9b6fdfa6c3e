use Rattle.std.proofs.Common.{ℕ, arith}
use Rattle.rc_geom.specs.declared.key.Key.{Key}
use Rattle.rc_geom.specs.Plane.{plane_of}
use Rattle.rc_squares.specs.Worths.{side_worth, square_worth}
use Rattle.rc_squares.proofs.Worths.{metal_has, square_sides}
use Rattle.rc_squares.proofs.Tallies.{enters_both, on_ok}
use Rattle.rc_squares.proofs.KeyOrders.{key_order}
use Rattle.rc_squares.proofs.pass.enter_square.Goals as goal

pub enter_side-requires-clause-rules : goal.enter_side-requires-clause-rules
enter_side-requires-clause-rules g c =
    metal_has (g.R.FaceRates.has_rules c.args.rates.now) c.args.tiles.now c.args.layer c.args.at c.args.own c.requires.rules c.requires.own

pub enter_side-requires-2-clause-rules : goal.enter_side-requires-2-clause-rules
enter_side-requires-2-clause-rules g c =
    metal_has (g.R.FaceRates.has_rules c.args.rates.now) c.args.tiles.now c.args.layer c.args.at c.args.own c.requires.rules c.requires.own

pub returns : goal.returns
returns g c =
    let plane = plane_of c.args.tiles.now in
    let rates = g.R.FaceRates.rates_of c.args.rates.now in
    on_ok c.enter_side-2.result c.enter_side-2.ensures (λ second.
    enters_both key_order c.args.tally.now c.enter_side.new.tally c.enter_side-2.new.tally
    (λ (worth : ℕ → ℕ) (key : Key). side_worth worth plane rates c.args.layer key c.side.result c.args.at) (λ (worth : ℕ → ℕ) (key : Key). side_worth worth plane rates c.args.layer key c.side-2.result c.args.at) (λ (worth : ℕ → ℕ) (key : Key). square_worth worth plane rates c.args.layer key g.row.A c.args.at) 2 2 4
    c.in_ok-enter_side.ensures second
    (λ worth key. square_sides worth plane rates c.args.layer key g.row.A c.args.at c.side.result c.side-2.result c.side.ensures c.side-2.ensures) (omega arith))
