use Rattle.std.proofs.Common.{◌≡◌, ◌+◌, ◌*◌, ◌^◌, ℕ, sym, ap, ◌∙◌, arith}
use Rattle.rc_geom.specs.declared.key.Key.{Key}
use Rattle.rc_geom.specs.Plane.{plane_of}
use Rattle.rc_geom.specs.Sums.{numbers, extent, first_line, end_line}
use Rattle.rc_geom.specs.Extraction.{sum_in}
use Rattle.rc_geom.proofs.Totals.{total_none, total_more}
use Rattle.rc_squares.specs.Worths.{lines_worth, layers_worth}
use Rattle.rc_squares.proofs.Worths.{sum_in_layers}
use Rattle.rc_squares.proofs.Tallies.{enters_none, enters_both, enters_same}
use Rattle.rc_squares.proofs.KeyOrders.{key_order}
use Rattle.rc_squares.proofs.pass.enter_axis.Goals as goal

pub loop-layer-init : goal.loop-layer-init
loop-layer-init g c =
    let plane = plane_of c.args.tiles.now in
    let rates = g.R.FaceRates.rates_of c.args.rates.now in
    let r = c.args.area.now in
    enters_none key_order c.args.tally.now (λ (worth : ℕ → ℕ) (key : Key). layers_worth worth plane rates key g.row.A r 0) (2 ^ 64 * 0) c.requires.tally
    (λ worth key. total_none numbers (λ layer. lines_worth worth plane rates layer key g.row.A r (extent (first_line g.row.A r) (end_line g.row.A r))))

pub loop-layer-preserved : goal.loop-layer-preserved
loop-layer-preserved g c =
    let plane = plane_of c.args.tiles.now in
    let rates = g.R.FaceRates.rates_of c.args.rates.now in
    let r = c.args.area.now in
    let n = c.loop-layer.layer in
    let one_layer : ℕ → (ℕ → ℕ) → Key → ℕ = λ layer worth key. lines_worth worth plane rates layer key g.row.A r (extent (first_line g.row.A r) (end_line g.row.A r)) in
    let layers : ℕ → (ℕ → ℕ) → Key → ℕ = λ m worth key. layers_worth worth plane rates key g.row.A r m in
    enters_both key_order c.args.tally.now c.loop-layer.tally c.enter_layer.new.tally (layers n) (one_layer n) (layers (n + 1)) (2 ^ 64 * n) (2 ^ 64) (2 ^ 64 * (n + 1))
    c.loop-layer.invariant c.in_ok-enter_layer.ensures
    (λ worth key. total_more numbers n (λ layer. one_layer layer worth key)) (omega arith)

pub returns : goal.returns
returns g c =
    let plane = plane_of c.args.tiles.now in
    let rates = g.R.FaceRates.rates_of c.args.rates.now in
    let r = c.args.area.now in
    let end : c.loop-layer.layer ≡ 32 = omega arith in
    let layers : ℕ → (ℕ → ℕ) → Key → ℕ = λ m worth key. layers_worth worth plane rates key g.row.A r m in
    enters_same key_order c.args.tally.now c.loop-layer.tally (layers c.loop-layer.layer) (λ (worth : ℕ → ℕ) (key : Key). sum_in numbers worth plane rates g.row.A r key) (2 ^ 64 * c.loop-layer.layer) (2 ^ 69)
    c.loop-layer.invariant
    (λ worth key. sum_in_layers worth plane rates key g.row.A r ∙ ap (λ (m : ℕ). layers m worth key) (sym end)) (omega arith)
