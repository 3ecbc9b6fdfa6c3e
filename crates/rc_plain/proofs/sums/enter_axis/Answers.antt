use Rattle.std.proofs.Common.{◌≡◌, ℕ, true}
use Rattle.rc_geom.specs.declared.key.Key.{Key}
use Rattle.rc_geom.specs.Plane.{plane_of}
use Rattle.rc_geom.specs.Sums.{extent, first_line, end_line}
use Rattle.rc_sums.proofs.Counted.{metal_has}
use Rattle.rc_sums.proofs.Enters.{enters_none}
use Rattle.rc_sums.proofs.Strips.{rules_sound}
use Rattle.rc_sums.proofs.Loops.{room_in_total, enters_total}
use Rattle.rc_plain.specs.Squares.{lines_added, layers_added}
use Rattle.rc_plain.proofs.Squares.{lines_sound, no_layers}
use Rattle.rc_plain.proofs.sums.enter_axis.Goals as goal

pub loop-layer-init : goal.loop-layer-init
loop-layer-init g c =
    let V = g.R.Value.Amount in
    let rater = g.met.R.Rater g.world.𝓛 g.world.𝓜 g.world.𝓡 ((λ s x. x), (λ x. x), (λ x. x), λ x. x) in
    let amount = g.met.R.Value.Amount g.world.𝓛 g.world.𝓜 g.world.𝓡 ((λ s x. x), (λ x. x), (λ x. x), λ x. x) in
    let keeps = rater.laws c.args.rater.now in
    let laws = amount.laws in
    let has = g.R.Rater.has_rules c.args.rater.now in
    let plane = plane_of c.args.tiles.now in
    let rates = g.R.Rater.rates_of c.args.rater.now in
    let before = c.args.tally.now in
    enters_none V.adding V.fits V.sound laws before (layers_added V.adding plane rates g.row.A c.args.area.now 0) c.requires.tally (no_layers V.adding plane rates g.row.A c.args.area.now)

pub enter_layer-requires-clause-tally : goal.enter_layer-requires-clause-tally
enter_layer-requires-clause-tally g c = λ _ _. c.loop-layer.invariant.tally

pub enter_layer-requires-clause-room : goal.enter_layer-requires-clause-room
unfolding layers_added
enter_layer-requires-clause-room g c = λ _ _.
    let V = g.R.Value.Amount in
    let rater = g.met.R.Rater g.world.𝓛 g.world.𝓜 g.world.𝓡 ((λ s x. x), (λ x. x), (λ x. x), λ x. x) in
    let amount = g.met.R.Value.Amount g.world.𝓛 g.world.𝓜 g.world.𝓡 ((λ s x. x), (λ x. x), (λ x. x), λ x. x) in
    let keeps = rater.laws c.args.rater.now in
    let laws = amount.laws in
    let has = g.R.Rater.has_rules c.args.rater.now in
    let plane = plane_of c.args.tiles.now in
    let rates = g.R.Rater.rates_of c.args.rater.now in
    let before = c.args.tally.now in
    let each = rules_sound has rates V.adding V.sound keeps plane g.row.A (metal_has has c.args.tiles.now c.requires.rules) in
    let f = λ (k : ℕ) (q : Key). lines_added V.adding plane rates g.row.A k c.args.area.now (extent (first_line g.row.A c.args.area.now) (end_line g.row.A c.args.area.now)) q in
    let of_f : (k : ℕ) (q : Key) → V.sound (f k q).value ≡ true = λ k q. lines_sound V.adding V.fits V.sound laws plane rates g.row.A each k c.args.area.now (extent (first_line g.row.A c.args.area.now) (end_line g.row.A c.args.area.now)) q in
    room_in_total V.adding V.fits V.sound laws before c.loop-layer.tally f c.loop-layer.layer (32) c.loop-layer-test.true c.requires.tally of_f c.requires.room c.loop-layer.invariant

pub loop-layer-preserved : goal.loop-layer-preserved
unfolding layers_added
loop-layer-preserved g c =
    let V = g.R.Value.Amount in
    let rater = g.met.R.Rater g.world.𝓛 g.world.𝓜 g.world.𝓡 ((λ s x. x), (λ x. x), (λ x. x), λ x. x) in
    let amount = g.met.R.Value.Amount g.world.𝓛 g.world.𝓜 g.world.𝓡 ((λ s x. x), (λ x. x), (λ x. x), λ x. x) in
    let keeps = rater.laws c.args.rater.now in
    let laws = amount.laws in
    let has = g.R.Rater.has_rules c.args.rater.now in
    let plane = plane_of c.args.tiles.now in
    let rates = g.R.Rater.rates_of c.args.rater.now in
    let before = c.args.tally.now in
    let each = rules_sound has rates V.adding V.sound keeps plane g.row.A (metal_has has c.args.tiles.now c.requires.rules) in
    let f = λ (k : ℕ) (q : Key). lines_added V.adding plane rates g.row.A k c.args.area.now (extent (first_line g.row.A c.args.area.now) (end_line g.row.A c.args.area.now)) q in
    let of_f : (k : ℕ) (q : Key) → V.sound (f k q).value ≡ true = λ k q. lines_sound V.adding V.fits V.sound laws plane rates g.row.A each k c.args.area.now (extent (first_line g.row.A c.args.area.now) (end_line g.row.A c.args.area.now)) q in
    enters_total V.adding V.fits V.sound laws before c.loop-layer.tally c.enter_layer.new.tally f c.loop-layer.layer c.requires.tally of_f c.loop-layer.invariant c.in_ok-enter_layer.ensures
