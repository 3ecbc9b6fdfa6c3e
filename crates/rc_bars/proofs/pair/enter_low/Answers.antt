use Rattle.std.proofs.Common.{◌≡◌, sym, ap, ◌∙◌, []}
use Rattle.std.specs.Prelude.{int_le, int_lt, ◌&&◌}
use Rattle.std.proofs.lemmas.Bool.{cond-true, cond-false}
use Rattle.rc_geom.specs.Parts.{worth_at}
use Rattle.rc_tally.specs.Tallies.{sums}
use Rattle.rc_column.specs.Found.{face_value}
use Rattle.rc_sums.specs.Entering.{many}
use Rattle.rc_sums.proofs.Enters.{room_same, enters_same, enters_none, on_ok}
use Rattle.rc_bars.specs.Adds.{parts_added}
use Rattle.rc_bars.specs.Columns.{low_parts, low_face, rated}
use Rattle.rc_bars.specs.Masks.{layers_of}
use Rattle.rc_bars.proofs.pair.enter_low.Goals as goal

pub enter_face-requires-clause-room : goal.enter_face-requires-clause-room
enter_face-requires-clause-room g c = λ _ _.
    let V = g.R.Value.Amount in
    let amount = g.met.R.Value.Amount g.world.𝓛 g.world.𝓜 g.world.𝓡 ((λ s x. x), (λ x. x), (λ x. x), λ x. x) in
    let laws = amount.laws in
    let n = c.args.n in
    let b = c.args.bar.now in
    let metal = layers_of c.args.metal in
    let rates = g.R.Rater.rates_of c.args.rater.now in
    let low = c.args.rows.low in
    let high = c.args.rows.high in
    let before = c.args.tally.now in
    let own = rated rates b.layer metal (low_face (rates.cap b.layer) (rates.reach b.layer) c.args.below b) in
    let all = low_parts rates low high metal c.args.below b in
    let test = (int_le low b.lo && int_lt b.lo high) in
    let face = c.low_face-face.result in
    let looked : rated rates b.layer metal (face_value face) ≡ own =
    ap (rated rates b.layer metal) (c.low_face-face.ensures.is ∙ (ap (λ k. low_face k c.reach.result c.args.below b) c.cap.ensures ∙ ap (λ k. low_face (rates.cap b.layer) k c.args.below b) c.reach.ensures)) in
    let same : rated rates b.layer metal (face_value face) ≡ all = looked ∙ sym (cond-true test own [] (sym c.begins_in.ensures ∙ c.if-begins_in.true)) in
    room_same V.adding V.fits V.sound before (parts_added V.adding n all) (parts_added V.adding n (rated rates b.layer metal (face_value face))) c.requires.room
    (λ q. ap (worth_at (sums V.adding) (many V.adding n) q) same)

pub returns-then-begins_in : goal.returns-then-begins_in
returns-then-begins_in g c =
    let V = g.R.Value.Amount in
    let amount = g.met.R.Value.Amount g.world.𝓛 g.world.𝓜 g.world.𝓡 ((λ s x. x), (λ x. x), (λ x. x), λ x. x) in
    let laws = amount.laws in
    let n = c.args.n in
    let b = c.args.bar.now in
    let metal = layers_of c.args.metal in
    let rates = g.R.Rater.rates_of c.args.rater.now in
    let low = c.args.rows.low in
    let high = c.args.rows.high in
    let before = c.args.tally.now in
    let own = rated rates b.layer metal (low_face (rates.cap b.layer) (rates.reach b.layer) c.args.below b) in
    let all = low_parts rates low high metal c.args.below b in
    let test = (int_le low b.lo && int_lt b.lo high) in
    let face = c.low_face-face.result in
    let looked : rated rates b.layer metal (face_value face) ≡ own =
    ap (rated rates b.layer metal) (c.low_face-face.ensures.is ∙ (ap (λ k. low_face k c.reach.result c.args.below b) c.cap.ensures ∙ ap (λ k. low_face (rates.cap b.layer) k c.args.below b) c.reach.ensures)) in
    let same : rated rates b.layer metal (face_value face) ≡ all = looked ∙ sym (cond-true test own [] (sym c.begins_in.ensures ∙ c.if-begins_in.true)) in
    on_ok c.enter_face.result c.enter_face.ensures (λ e.
    enters_same V.adding V.sound before c.enter_face.new.tally (parts_added V.adding n (rated rates b.layer metal (face_value face))) (parts_added V.adding n all) e
    (λ q. ap (worth_at (sums V.adding) (many V.adding n) q) (sym same)))

pub returns-else-begins_in : goal.returns-else-begins_in
returns-else-begins_in g c =
    let V = g.R.Value.Amount in
    let amount = g.met.R.Value.Amount g.world.𝓛 g.world.𝓜 g.world.𝓡 ((λ s x. x), (λ x. x), (λ x. x), λ x. x) in
    let laws = amount.laws in
    let n = c.args.n in
    let b = c.args.bar.now in
    let metal = layers_of c.args.metal in
    let rates = g.R.Rater.rates_of c.args.rater.now in
    let low = c.args.rows.low in
    let high = c.args.rows.high in
    let before = c.args.tally.now in
    let own = rated rates b.layer metal (low_face (rates.cap b.layer) (rates.reach b.layer) c.args.below b) in
    let all = low_parts rates low high metal c.args.below b in
    let test = (int_le low b.lo && int_lt b.lo high) in
    enters_none V.adding V.fits V.sound laws before (parts_added V.adding n all) c.requires.tally
    (λ q. ap (worth_at (sums V.adding) (many V.adding n) q) (cond-false test own [] (sym c.begins_in.ensures ∙ c.if-begins_in.false)))
