use Rattle.std.proofs.Common.{◌≡◌, ℕ, sym, ap, ◌∙◌, arith}
use Rattle.rc_geom.specs.Plane.{plane_of}
use Rattle.rc_squares.specs.Worths.{one, amount, layers_worth}
use Rattle.rc_squares.proofs.Worths.{sum_in_layers}
use Rattle.rc_squares.proofs.sums.sum_in.Goals as goal

pub returns-clause-count : goal.returns-clause-count
returns-clause-count g c =
    let rates = g.R.FaceRates.rates_of c.args.rates.now in
    let end : c.loop-layer.layer ≡ 32 = omega arith in
    c.loop-layer.invariant.count
    ∙ (ap (λ (n : ℕ). layers_worth one (plane_of c.args.tiles.now) rates c.args.key g.row.A c.args.area.now n) end
    ∙ sym (sum_in_layers one (plane_of c.args.tiles.now) rates c.args.key g.row.A c.args.area.now))

pub returns-clause-value : goal.returns-clause-value
returns-clause-value g c =
    let rates = g.R.FaceRates.rates_of c.args.rates.now in
    let end : c.loop-layer.layer ≡ 32 = omega arith in
    c.loop-layer.invariant.value
    ∙ (ap (λ (n : ℕ). layers_worth amount (plane_of c.args.tiles.now) rates c.args.key g.row.A c.args.area.now n) end
    ∙ sym (sum_in_layers amount (plane_of c.args.tiles.now) rates c.args.key g.row.A c.args.area.now))
