use Rattle.std.proofs.Common.{◌≡◌, ◌<◌, ◌+ℤ◌, ℕ, pos, true, subst}
use Rattle.rc_geom.specs.declared.key.Key.{Key}
use Rattle.rc_geom.specs.Plane.{plane_of}
use Rattle.rc_geom.specs.Sums.{extent, first_line, first_place, end_place}
use Rattle.rc_sums.proofs.Counted.{metal_has}
use Rattle.rc_sums.proofs.Enters.{enters_none}
use Rattle.rc_sums.proofs.Strips.{rules_sound}
use Rattle.rc_sums.proofs.Loops.{room_in_total, enters_total}
use Rattle.rc_plain.specs.Squares.{place_added, places_added}
use Rattle.rc_plain.proofs.Squares.{place_sound, no_places}
use Rattle.rc_plain.proofs.sums.enter_line.Goals as goal

pub loop-place-init : goal.loop-place-init
loop-place-init g c =
    let V = g.R.Value.Amount in
    let rater = g.met.R.Rater g.world.𝓛 g.world.𝓜 g.world.𝓡 ((λ s x. x), (λ x. x), (λ x. x), λ x. x) in
    let amount = g.met.R.Value.Amount g.world.𝓛 g.world.𝓜 g.world.𝓡 ((λ s x. x), (λ x. x), (λ x. x), λ x. x) in
    let keeps = rater.laws c.args.rater.now in
    let laws = amount.laws in
    let has = g.R.Rater.has_rules c.args.rater.now in
    let plane = plane_of c.args.tiles.now in
    let rates = g.R.Rater.rates_of c.args.rater.now in
    let before = c.args.tally.now in
    enters_none V.adding V.fits V.sound laws before (places_added V.adding plane rates g.row.A c.args.layer (first_line g.row.A c.args.area.now +ℤ pos c.args.line) (first_place g.row.A c.args.area.now) 0) c.requires.tally (no_places V.adding plane rates g.row.A c.args.layer (first_line g.row.A c.args.area.now +ℤ pos c.args.line) (first_place g.row.A c.args.area.now))

pub enter_square-requires-clause-tally : goal.enter_square-requires-clause-tally
enter_square-requires-clause-tally g c = λ _ _. c.loop-place.invariant.tally

pub enter_square-requires-clause-room : goal.enter_square-requires-clause-room
unfolding places_added
enter_square-requires-clause-room g c = λ _ _.
    let V = g.R.Value.Amount in
    let rater = g.met.R.Rater g.world.𝓛 g.world.𝓜 g.world.𝓡 ((λ s x. x), (λ x. x), (λ x. x), λ x. x) in
    let amount = g.met.R.Value.Amount g.world.𝓛 g.world.𝓜 g.world.𝓡 ((λ s x. x), (λ x. x), (λ x. x), λ x. x) in
    let keeps = rater.laws c.args.rater.now in
    let laws = amount.laws in
    let has = g.R.Rater.has_rules c.args.rater.now in
    let plane = plane_of c.args.tiles.now in
    let rates = g.R.Rater.rates_of c.args.rater.now in
    let before = c.args.tally.now in
    let each = rules_sound has rates V.adding V.sound keeps plane g.row.A (metal_has has c.args.tiles.now c.requires.rules) in
    let f = λ (k : ℕ) (q : Key). place_added V.adding plane rates g.row.A c.args.layer (first_line g.row.A c.args.area.now +ℤ pos c.args.line) (first_place g.row.A c.args.area.now +ℤ pos k) q in
    let of_f : (k : ℕ) (q : Key) → V.sound (f k q).value ≡ true = λ k q. place_sound V.adding V.fits V.sound laws plane rates g.row.A each c.args.layer (first_line g.row.A c.args.area.now +ℤ pos c.args.line) (first_place g.row.A c.args.area.now +ℤ pos k) q in
    room_in_total V.adding V.fits V.sound laws before c.loop-place.tally f c.loop-place.place (extent (first_place g.row.A c.args.area.now) (end_place g.row.A c.args.area.now)) (subst (λ (n : ℕ). c.loop-place.place < n) c.places-place-end.ensures c.loop-place-test.true) c.requires.tally of_f c.requires.room c.loop-place.invariant

pub loop-place-preserved : goal.loop-place-preserved
unfolding places_added
loop-place-preserved g c =
    let V = g.R.Value.Amount in
    let rater = g.met.R.Rater g.world.𝓛 g.world.𝓜 g.world.𝓡 ((λ s x. x), (λ x. x), (λ x. x), λ x. x) in
    let amount = g.met.R.Value.Amount g.world.𝓛 g.world.𝓜 g.world.𝓡 ((λ s x. x), (λ x. x), (λ x. x), λ x. x) in
    let keeps = rater.laws c.args.rater.now in
    let laws = amount.laws in
    let has = g.R.Rater.has_rules c.args.rater.now in
    let plane = plane_of c.args.tiles.now in
    let rates = g.R.Rater.rates_of c.args.rater.now in
    let before = c.args.tally.now in
    let each = rules_sound has rates V.adding V.sound keeps plane g.row.A (metal_has has c.args.tiles.now c.requires.rules) in
    let f = λ (k : ℕ) (q : Key). place_added V.adding plane rates g.row.A c.args.layer (first_line g.row.A c.args.area.now +ℤ pos c.args.line) (first_place g.row.A c.args.area.now +ℤ pos k) q in
    let of_f : (k : ℕ) (q : Key) → V.sound (f k q).value ≡ true = λ k q. place_sound V.adding V.fits V.sound laws plane rates g.row.A each c.args.layer (first_line g.row.A c.args.area.now +ℤ pos c.args.line) (first_place g.row.A c.args.area.now +ℤ pos k) q in
    enters_total V.adding V.fits V.sound laws before c.loop-place.tally c.enter_square.new.tally f c.loop-place.place c.requires.tally of_f c.loop-place.invariant c.in_ok-enter_square.ensures
