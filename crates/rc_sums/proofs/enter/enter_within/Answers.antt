use Rattle.std.proofs.Common.{ap, sym, ◌∙◌}
use Rattle.std.specs.Prelude.{int_le, int_lt, ◌&&◌}
use Rattle.rc_column.specs.declared.ends.Mark.{Mark}
use Rattle.rc_geom.specs.Plane.{plane_of}
use Rattle.rc_geom.specs.Sums.{first_place, end_place}
use Rattle.rc_tally.specs.Tallies.{sums}
use Rattle.rc_sums.specs.Entering.{many}
use Rattle.rc_sums.specs.Worths.{face_added, face_within}
use Rattle.rc_sums.proofs.Enters.{room_same}
use Rattle.rc_sums.proofs.Faces.{inside_worth}
use Rattle.rc_sums.proofs.enter.enter_within.Goals as goal

pub enter_face-requires-clause-room : goal.enter_face-requires-clause-room
enter_face-requires-clause-room g c = λ _ _.
    let V = g.R.Value.Amount in
    let rater = g.met.R.Rater g.world.𝓛 g.world.𝓜 g.world.𝓡 ((λ s x. x), (λ x. x), (λ x. x), λ x. x) in
    let amount = g.met.R.Value.Amount g.world.𝓛 g.world.𝓜 g.world.𝓡 ((λ s x. x), (λ x. x), (λ x. x), λ x. x) in
    let keeps = rater.laws c.args.rater.now in
    let laws = amount.laws in
    let s = c.args.stack.now in
    let n = c.args.n in
    let plane = plane_of s.tiles in
    let rates = g.R.Rater.rates_of c.args.rater.now in
    let low = first_place s.line.axis c.args.area.now in
    let high = end_place s.line.axis c.args.area.now in
    let before = c.args.tally.now in
    let face = c.args.face.now in
    room_same V.adding V.fits V.sound before (face_within (sums V.adding) (many V.adding n) plane rates s.line.axis c.args.layer s.line.at low high face) (face_added (sums V.adding) (many V.adding n) plane rates s.line.axis c.args.layer s.line.at face) c.requires.room
    (λ q. sym (inside_worth (sums V.adding) (many V.adding n) plane rates s.line.axis c.args.layer s.line.at low high face q (ap (λ (m : Mark). int_le (first_place m.axis c.args.area.now) face.lo && int_lt face.lo (end_place m.axis c.args.area.now)) (sym c.line.ensures) ∙ (sym c.stands_in.ensures ∙ c.if-stands_in.true))))
