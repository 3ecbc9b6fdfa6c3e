use Rattle.std.proofs.Common.{◌≡◌, sym, ap, ◌∙◌, []}
use Rattle.std.specs.Prelude.{int_le, int_lt, ◌&&◌}
use Rattle.std.proofs.lemmas.Bool.{cond-true, cond-false}
use Rattle.rc_geom.specs.Parts.{worth_at}
use Rattle.rc_tally.specs.Tallies.{sums}
use Rattle.rc_column.specs.Found.{face_value}
use Rattle.rc_sums.specs.Entering.{many}
use Rattle.rc_sums.proofs.Enters.{room_same, enters_same, enters_none, on_ok}
use Rattle.rc_bars.specs.Adds.{parts_added}
use Rattle.rc_bars.specs.Columns.{high_parts, high_face, rated}
use Rattle.rc_bars.specs.Masks.{layers_of}
use Rattle.rc_bars.proofs.pair.enter_high.Goals as goal

pub enter_face-requires-clause-room : goal.enter_face-requires-clause-room
enter_face-requires-clause-room g c = λ _ _.
    let V = g.R.Value.Amount in
    let amount = g.met.R.Value.Amount g.world.𝓛 g.world.𝓜 g.world.𝓡 ((λ s x. x), (λ x. x), (λ x. x), λ x. x) in
    let laws = amount.laws in
    let n = c.args.n in
    let b = c.args.bar.now in
    let metal = layers_of c.args.metal in
    let rates = g.R.Rater.rates_of c.args.rater.now in
    let low = c.args.rows.low in
    let high = c.args.rows.high in
    let before = c.args.tally.now in
    let own = rated rates b.layer metal (high_face (rates.cap b.layer) (rates.reach b.layer) b c.args.above) in
    let all = high_parts rates low high metal b c.args.above in
    let test = (int_lt low b.hi && int_le b.hi high) in
    let face = c.high_face-face.result in
    let looked : rated rates b.layer metal (face_value face) ≡ own =
    ap (rated rates b.layer metal) (c.high_face-face.ensures.is ∙ (ap (λ k. high_face k c.reach.result b c.args.above) c.cap.ensures ∙ ap (λ k. high_face (rates.cap b.layer) k b c.args.above) c.reach.ensures)) in
    let same : rated rates b.layer metal (face_value face) ≡ all = looked ∙ sym (cond-true test own [] (sym c.ends_in.ensures ∙ c.if-ends_in.true)) in
    room_same V.adding V.fits V.sound before (parts_added V.adding n all) (parts_added V.adding n (rated rates b.layer metal (face_value face))) c.requires.room
    (λ q. ap (worth_at (sums V.adding) (many V.adding n) q) same)

pub returns-then-ends_in : goal.returns-then-ends_in
returns-then-ends_in g c =
    let V = g.R.Value.Amount in
    let amount = g.met.R.Value.Amount g.world.𝓛 g.world.𝓜 g.world.𝓡 ((λ s x. x), (λ x. x), (λ x. x), λ x. x) in
    let laws = amount.laws in
    let n = c.args.n in
    let b = c.args.bar.now in
    let metal = layers_of c.args.metal in
    let rates = g.R.Rater.rates_of c.args.rater.now in
    let low = c.args.rows.low in
    let high = c.args.rows.high in
    let before = c.args.tally.now in
    let own = rated rates b.layer metal (high_face (rates.cap b.layer) (rates.reach b.layer) b c.args.above) in
    let all = high_parts rates low high metal b c.args.above in
    let test = (int_lt low b.hi && int_le b.hi high) in
    let face = c.high_face-face.result in
    let looked : rated rates b.layer metal (face_value face) ≡ own =
    ap (rated rates b.layer metal) (c.high_face-face.ensures.is ∙ (ap (λ k. high_face k c.reach.result b c.args.above) c.cap.ensures ∙ ap (λ k. high_face (rates.cap b.layer) k b c.args.above) c.reach.ensures)) in
    let same : rated rates b.layer metal (face_value face) ≡ all = looked ∙ sym (cond-true test own [] (sym c.ends_in.ensures ∙ c.if-ends_in.true)) in
    on_ok c.enter_face.result c.enter_face.ensures (λ e.
    enters_same V.adding V.sound before c.enter_face.new.tally (parts_added V.adding n (rated rates b.layer metal (face_value face))) (parts_added V.adding n all) e
    (λ q. ap (worth_at (sums V.adding) (many V.adding n) q) (sym same)))

pub returns-else-ends_in : goal.returns-else-ends_in
returns-else-ends_in g c =
    let V = g.R.Value.Amount in
    let amount = g.met.R.Value.Amount g.world.𝓛 g.world.𝓜 g.world.𝓡 ((λ s x. x), (λ x. x), (λ x. x), λ x. x) in
    let laws = amount.laws in
    let n = c.args.n in
    let b = c.args.bar.now in
    let metal = layers_of c.args.metal in
    let rates = g.R.Rater.rates_of c.args.rater.now in
    let low = c.args.rows.low in
    let high = c.args.rows.high in
    let before = c.args.tally.now in
    let own = rated rates b.layer metal (high_face (rates.cap b.layer) (rates.reach b.layer) b c.args.above) in
    let all = high_parts rates low high metal b c.args.above in
    let test = (int_lt low b.hi && int_le b.hi high) in
    enters_none V.adding V.fits V.sound laws before (parts_added V.adding n all) c.requires.tally
    (λ q. ap (worth_at (sums V.adding) (many V.adding n) q) (cond-false test own [] (sym c.ends_in.ensures ∙ c.if-ends_in.false)))
