use Rattle.std.proofs.Common.{◌≡◌, ◌<◌, ◌+ℤ◌, ℕ, pos, true, subst}
use Rattle.rc_geom.specs.declared.key.Key.{Key}
use Rattle.rc_geom.specs.Plane.{plane_of}
use Rattle.rc_geom.specs.Sums.{extent, first_line, end_line, first_place, end_place}
use Rattle.rc_sums.proofs.Counted.{metal_has}
use Rattle.rc_sums.proofs.Enters.{enters_none}
use Rattle.rc_sums.proofs.Strips.{rules_sound}
use Rattle.rc_sums.proofs.Loops.{room_in_total, enters_total}
use Rattle.rc_plain.specs.Squares.{places_added, lines_added}
use Rattle.rc_plain.proofs.Squares.{places_sound, no_lines}
use Rattle.rc_plain.proofs.sums.enter_layer.Goals as goal

pub loop-line-init : goal.loop-line-init
loop-line-init g c =
    let V = g.R.Value.Amount in
    let rater = g.met.R.Rater g.world.𝓛 g.world.𝓜 g.world.𝓡 ((λ s x. x), (λ x. x), (λ x. x), λ x. x) in
    let amount = g.met.R.Value.Amount g.world.𝓛 g.world.𝓜 g.world.𝓡 ((λ s x. x), (λ x. x), (λ x. x), λ x. x) in
    let keeps = rater.laws c.args.rater.now in
    let laws = amount.laws in
    let has = g.R.Rater.has_rules c.args.rater.now in
    let plane = plane_of c.args.tiles.now in
    let rates = g.R.Rater.rates_of c.args.rater.now in
    let before = c.args.tally.now in
    enters_none V.adding V.fits V.sound laws before (lines_added V.adding plane rates g.row.A c.args.layer c.args.area.now 0) c.requires.tally (no_lines V.adding plane rates g.row.A c.args.layer c.args.area.now)

pub enter_line-requires-clause-tally : goal.enter_line-requires-clause-tally
enter_line-requires-clause-tally g c = λ _ _. c.loop-line.invariant.tally

pub enter_line-requires-clause-room : goal.enter_line-requires-clause-room
unfolding lines_added
enter_line-requires-clause-room g c = λ _ _.
    let V = g.R.Value.Amount in
    let rater = g.met.R.Rater g.world.𝓛 g.world.𝓜 g.world.𝓡 ((λ s x. x), (λ x. x), (λ x. x), λ x. x) in
    let amount = g.met.R.Value.Amount g.world.𝓛 g.world.𝓜 g.world.𝓡 ((λ s x. x), (λ x. x), (λ x. x), λ x. x) in
    let keeps = rater.laws c.args.rater.now in
    let laws = amount.laws in
    let has = g.R.Rater.has_rules c.args.rater.now in
    let plane = plane_of c.args.tiles.now in
    let rates = g.R.Rater.rates_of c.args.rater.now in
    let before = c.args.tally.now in
    let each = rules_sound has rates V.adding V.sound keeps plane g.row.A (metal_has has c.args.tiles.now c.requires.rules) in
    let f = λ (k : ℕ) (q : Key). places_added V.adding plane rates g.row.A c.args.layer (first_line g.row.A c.args.area.now +ℤ pos k) (first_place g.row.A c.args.area.now) (extent (first_place g.row.A c.args.area.now) (end_place g.row.A c.args.area.now)) q in
    let of_f : (k : ℕ) (q : Key) → V.sound (f k q).value ≡ true = λ k q. places_sound V.adding V.fits V.sound laws plane rates g.row.A each c.args.layer (first_line g.row.A c.args.area.now +ℤ pos k) (first_place g.row.A c.args.area.now) (extent (first_place g.row.A c.args.area.now) (end_place g.row.A c.args.area.now)) q in
    room_in_total V.adding V.fits V.sound laws before c.loop-line.tally f c.loop-line.line (extent (first_line g.row.A c.args.area.now) (end_line g.row.A c.args.area.now)) (subst (λ (n : ℕ). c.loop-line.line < n) c.lines-line-end.ensures c.loop-line-test.true) c.requires.tally of_f c.requires.room c.loop-line.invariant

pub loop-line-preserved : goal.loop-line-preserved
unfolding lines_added
loop-line-preserved g c =
    let V = g.R.Value.Amount in
    let rater = g.met.R.Rater g.world.𝓛 g.world.𝓜 g.world.𝓡 ((λ s x. x), (λ x. x), (λ x. x), λ x. x) in
    let amount = g.met.R.Value.Amount g.world.𝓛 g.world.𝓜 g.world.𝓡 ((λ s x. x), (λ x. x), (λ x. x), λ x. x) in
    let keeps = rater.laws c.args.rater.now in
    let laws = amount.laws in
    let has = g.R.Rater.has_rules c.args.rater.now in
    let plane = plane_of c.args.tiles.now in
    let rates = g.R.Rater.rates_of c.args.rater.now in
    let before = c.args.tally.now in
    let each = rules_sound has rates V.adding V.sound keeps plane g.row.A (metal_has has c.args.tiles.now c.requires.rules) in
    let f = λ (k : ℕ) (q : Key). places_added V.adding plane rates g.row.A c.args.layer (first_line g.row.A c.args.area.now +ℤ pos k) (first_place g.row.A c.args.area.now) (extent (first_place g.row.A c.args.area.now) (end_place g.row.A c.args.area.now)) q in
    let of_f : (k : ℕ) (q : Key) → V.sound (f k q).value ≡ true = λ k q. places_sound V.adding V.fits V.sound laws plane rates g.row.A each c.args.layer (first_line g.row.A c.args.area.now +ℤ pos k) (first_place g.row.A c.args.area.now) (extent (first_place g.row.A c.args.area.now) (end_place g.row.A c.args.area.now)) q in
    enters_total V.adding V.fits V.sound laws before c.loop-line.tally c.enter_line.new.tally f c.loop-line.line c.requires.tally of_f c.loop-line.invariant c.in_ok-enter_line.ensures
