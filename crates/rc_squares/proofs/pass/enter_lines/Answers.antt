use Rattle.std.proofs.Common.{◌≡◌, ◌+◌, ◌*◌, ◌^◌, ◌+ℤ◌, ℕ, ℤ, pos, All, sym, ap, subst, ◌∙◌, arith}
use Rattle.std.specs.Prelude.{filter}
use Rattle.std.proofs.lemmas.List.Elements.{All-filter}
use Rattle.rc_geom.specs.declared.tile.Tile.{Tile}
use Rattle.rc_squares.specs.Crossing.{crosses}
use Rattle.rc_squares.proofs.Crossed.{line_crossed}
use Rattle.rc_geom.specs.declared.key.Key.{Key}
use Rattle.rc_geom.specs.Plane.{plane_of}
use Rattle.rc_geom.specs.Sums.{numbers, extent, first_line, first_place, end_place}
use Rattle.rc_geom.proofs.Totals.{total_none, total_more}
use Rattle.rc_squares.specs.Worths.{line_worth, lines_worth}
use Rattle.rc_squares.proofs.Tallies.{enters_none, enters_both}
use Rattle.rc_squares.proofs.KeyOrders.{key_order}
use Rattle.rc_squares.proofs.pass.enter_lines.Goals as goal

pub loop-line-init : goal.loop-line-init
loop-line-init g c =
    let plane = plane_of c.args.tiles.now in
    let rates = g.R.FaceRates.rates_of c.args.rates.now in
    let r = c.args.area.now in
    enters_none key_order c.args.tally.now (λ (worth : ℕ → ℕ) (key : Key). lines_worth worth plane rates c.args.layer key g.row.A r 0) (2 ^ 33 * 0) c.requires.tally
    (λ worth key. total_none numbers (λ j. line_worth worth plane rates c.args.layer key g.row.A r (first_line g.row.A r +ℤ pos j) (extent (first_place g.row.A r) (end_place g.row.A r))))

pub enter_line-requires-clause-rules : goal.enter_line-requires-clause-rules
enter_line-requires-clause-rules g c =
    subst (All (λ (tile : Tile). g.R.FaceRates.has_rules c.args.rates.now tile.layer)) (sym (c.items.ensures ∙ c.in_ok-found.ensures))
    (All-filter (crosses g.row.A (first_line g.row.A c.args.area.now +ℤ pos c.loop-line.line)) (λ (tile : Tile). g.R.FaceRates.has_rules c.args.rates.now tile.layer) c.args.tiles.now c.requires.rules)

pub loop-line-preserved : goal.loop-line-preserved
loop-line-preserved g c =
    let rates = g.R.FaceRates.rates_of c.args.rates.now in
    let r = c.args.area.now in
    let n = c.loop-line.line in
    let at : ℕ → ℤ = λ j. first_line g.row.A r +ℤ pos j in
    let places : ℕ = extent (first_place g.row.A r) (end_place g.row.A r) in
    let line : ℕ → (ℕ → ℕ) → Key → ℕ = λ j worth key. line_worth worth (plane_of c.args.tiles.now) rates c.args.layer key g.row.A r (at j) places in
    let lines : ℕ → (ℕ → ℕ) → Key → ℕ = λ m worth key. lines_worth worth (plane_of c.args.tiles.now) rates c.args.layer key g.row.A r m in
    let crossed : (ℕ → ℕ) → Key → ℕ = λ worth key. line_worth worth (plane_of c.items.result.now) rates c.args.layer key g.row.A r (at n) places in
    let found : c.items.result.now ≡ filter (crosses g.row.A (at n)) c.args.tiles.now = c.items.ensures ∙ c.in_ok-found.ensures in
    enters_both key_order c.args.tally.now c.loop-line.tally c.enter_line.new.tally (lines n) crossed (lines (n + 1)) (2 ^ 33 * n) (2 ^ 33) (2 ^ 33 * (n + 1))
    c.loop-line.invariant c.in_ok-enter_line.ensures
    (λ worth key. total_more numbers n (λ j. line j worth key) ∙ ap (λ (k : ℕ). lines n worth key + k) (line_crossed worth c.args.tiles.now c.items.result.now rates c.args.layer key g.row.A r (at n) places found)) (omega arith)
