use Rattle.std.proofs.Common.{ℕ, Option, arith}
use Rattle.std.specs.Prelude.{option_map}
use Rattle.rc_geom.specs.declared.key.Key.{Key}
use Rattle.rc_geom.specs.Parts.{Part}
use Rattle.rc_geom.specs.Plane.{plane_of}
use Rattle.rc_squares.specs.Found.{part_value}
use Rattle.rc_squares.specs.Worths.{part_worth, side_worth}
use Rattle.rc_squares.proofs.Worths.{side_worth_is}
use Rattle.rc_squares.proofs.Tallies.{enters_both, on_ok}
use Rattle.rc_squares.proofs.KeyOrders.{key_order}
use Rattle.rc_squares.proofs.pass.enter_side.Goals as goal

pub returns : goal.returns
returns g c =
    let plane = plane_of c.args.tiles.now in
    let rates = g.R.FaceRates.rates_of c.args.rates.now in
    let own : Option (Part ℕ) = option_map part_value c.side_parts-parts.result.own in
    let shared : Option (Part ℕ) = option_map part_value c.side_parts-parts.result.shared in
    on_ok c.enter_any-2.result c.enter_any-2.ensures (λ second.
    enters_both key_order c.args.tally.now c.enter_any.new.self c.enter_any-2.new.self
    (λ (worth : ℕ → ℕ) (key : Key). part_worth worth key own) (λ (worth : ℕ → ℕ) (key : Key). part_worth worth key shared) (λ (worth : ℕ → ℕ) (key : Key). side_worth worth plane rates c.args.layer key c.args.side c.args.at) 1 1 2
    c.in_ok-enter_any.ensures second
    (λ worth key. side_worth_is worth plane rates c.args.layer key c.args.side c.args.at own shared c.side_parts-parts.ensures.is) (omega arith))
