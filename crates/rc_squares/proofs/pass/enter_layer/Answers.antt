use Rattle.std.proofs.Common.{◌^◌, ℕ, sym, ◌∙◌}
use Rattle.rc_geom.specs.declared.key.Key.{Key}
use Rattle.rc_geom.specs.Plane.{plane_of}
use Rattle.rc_geom.specs.Sums.{extent, first_line, end_line}
use Rattle.rc_squares.specs.Worths.{lines_worth}
use Rattle.rc_squares.proofs.Worths.{layer_bare}
use Rattle.rc_squares.proofs.Tallies.{enters_none}
use Rattle.rc_squares.proofs.KeyOrders.{key_order}
use Rattle.rc_squares.proofs.pass.enter_layer.Goals as goal

pub returns-else-has_tiles : goal.returns-else-has_tiles
returns-else-has_tiles g c =
    let rates = g.R.FaceRates.rates_of c.args.rates.now in
    let r = c.args.area.now in
    let n : ℕ = extent (first_line g.row.A r) (end_line g.row.A r) in
    enters_none key_order c.args.tally.now (λ (worth : ℕ → ℕ) (key : Key). lines_worth worth (plane_of c.args.tiles.now) rates c.args.layer key g.row.A r n) (2 ^ 64) c.requires.tally
    (λ worth key. layer_bare worth c.args.tiles.now rates c.args.layer key g.row.A r n (sym c.has_tiles.ensures ∙ c.if-has_tiles.false))
