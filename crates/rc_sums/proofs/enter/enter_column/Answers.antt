use Rattle.std.proofs.Common.{◌≡◌, ℕ, true}
use Rattle.rc_geom.specs.declared.key.Key.{Key}
use Rattle.rc_geom.specs.Plane.{plane_of}
use Rattle.rc_geom.specs.Sums.{first_place, end_place}
use Rattle.rc_tally.specs.Tallies.{sums}
use Rattle.rc_sums.specs.Entering.{many}
use Rattle.rc_sums.specs.Worths.{line_added, column_added}
use Rattle.rc_sums.proofs.Enters.{enters_none}
use Rattle.rc_sums.proofs.Counted.{metal_has}
use Rattle.rc_sums.proofs.Strips.{rules_sound, no_column, many_line_sound}
use Rattle.rc_geom.specs.Context.{layer_count}
use Rattle.rc_sums.proofs.Loops.{room_in_total, enters_total}
use Rattle.rc_sums.proofs.enter.enter_column.Goals as goal

pub loop-layer-init : goal.loop-layer-init
loop-layer-init g c =
    let V = g.R.Value.Amount in
    let rater = g.met.R.Rater g.world.𝓛 g.world.𝓜 g.world.𝓡 ((λ s x. x), (λ x. x), (λ x. x), λ x. x) in
    let amount = g.met.R.Value.Amount g.world.𝓛 g.world.𝓜 g.world.𝓡 ((λ s x. x), (λ x. x), (λ x. x), λ x. x) in
    let keeps = rater.laws c.args.rater.now in
    let laws = amount.laws in
    let s = c.args.stack.now in
    let n = c.args.n in
    let plane = plane_of s.tiles in
    let rates = g.R.Rater.rates_of c.args.rater.now in
    let low = first_place s.line.axis c.args.area.now in
    let high = end_place s.line.axis c.args.area.now in
    let before = c.args.tally.now in
    enters_none V.adding V.fits V.sound laws before (column_added (sums V.adding) (many V.adding n) plane rates s.line.axis s.line.at low high 0) c.requires.tally
    (λ q. no_column (sums V.adding) (many V.adding n) plane rates s.line.axis s.line.at low high q)

pub enter_layer-requires-clause-room : goal.enter_layer-requires-clause-room
unfolding column_added
enter_layer-requires-clause-room g c = λ _ _.
    let V = g.R.Value.Amount in
    let rater = g.met.R.Rater g.world.𝓛 g.world.𝓜 g.world.𝓡 ((λ s x. x), (λ x. x), (λ x. x), λ x. x) in
    let amount = g.met.R.Value.Amount g.world.𝓛 g.world.𝓜 g.world.𝓡 ((λ s x. x), (λ x. x), (λ x. x), λ x. x) in
    let keeps = rater.laws c.args.rater.now in
    let laws = amount.laws in
    let s = c.args.stack.now in
    let n = c.args.n in
    let plane = plane_of s.tiles in
    let rates = g.R.Rater.rates_of c.args.rater.now in
    let low = first_place s.line.axis c.args.area.now in
    let high = end_place s.line.axis c.args.area.now in
    let before = c.args.tally.now in
    let each = rules_sound (g.R.Rater.has_rules c.args.rater.now) rates V.adding V.sound keeps plane s.line.axis (metal_has (g.R.Rater.has_rules c.args.rater.now) s.tiles c.requires.rules) in
    let f = λ (l : ℕ) (q : Key). line_added (sums V.adding) (many V.adding n) plane rates s.line.axis l s.line.at low high q in
    let of_f : (l : ℕ) (q : Key) → V.sound (f l q).value ≡ true = λ l q. many_line_sound V.adding V.sound laws.additive n plane rates s.line.axis each l s.line.at low high q in
    room_in_total V.adding V.fits V.sound laws before c.loop-layer.tally f c.loop-layer.layer layer_count c.loop-layer-test.true c.requires.tally of_f c.requires.room c.loop-layer.invariant

pub loop-layer-preserved : goal.loop-layer-preserved
unfolding column_added
loop-layer-preserved g c =
    let V = g.R.Value.Amount in
    let rater = g.met.R.Rater g.world.𝓛 g.world.𝓜 g.world.𝓡 ((λ s x. x), (λ x. x), (λ x. x), λ x. x) in
    let amount = g.met.R.Value.Amount g.world.𝓛 g.world.𝓜 g.world.𝓡 ((λ s x. x), (λ x. x), (λ x. x), λ x. x) in
    let keeps = rater.laws c.args.rater.now in
    let laws = amount.laws in
    let s = c.args.stack.now in
    let n = c.args.n in
    let plane = plane_of s.tiles in
    let rates = g.R.Rater.rates_of c.args.rater.now in
    let low = first_place s.line.axis c.args.area.now in
    let high = end_place s.line.axis c.args.area.now in
    let before = c.args.tally.now in
    let each = rules_sound (g.R.Rater.has_rules c.args.rater.now) rates V.adding V.sound keeps plane s.line.axis (metal_has (g.R.Rater.has_rules c.args.rater.now) s.tiles c.requires.rules) in
    let f = λ (l : ℕ) (q : Key). line_added (sums V.adding) (many V.adding n) plane rates s.line.axis l s.line.at low high q in
    let of_f : (l : ℕ) (q : Key) → V.sound (f l q).value ≡ true = λ l q. many_line_sound V.adding V.sound laws.additive n plane rates s.line.axis each l s.line.at low high q in
    enters_total V.adding V.fits V.sound laws before c.loop-layer.tally c.enter_layer.new.tally f c.loop-layer.layer c.requires.tally of_f c.loop-layer.invariant c.in_ok-enter_layer.ensures
