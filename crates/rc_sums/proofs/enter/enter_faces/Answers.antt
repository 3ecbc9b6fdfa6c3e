use Rattle.rc_geom.specs.Plane.{plane_of}
use Rattle.rc_geom.specs.Sums.{first_place, end_place}
use Rattle.rc_tally.specs.Tallies.{sums}
use Rattle.rc_sums.specs.Entering.{many}
use Rattle.rc_sums.specs.Worths.{face_within}
use Rattle.rc_sums.proofs.Faces.{within_sound}
use Rattle.rc_sums.proofs.Loops.{room_in_list, enters_list}
use Rattle.rc_sums.proofs.enter.enter_faces.Goals as goal

pub enter_within-requires-clause-room : goal.enter_within-requires-clause-room
enter_within-requires-clause-room g c = λ _ _.
    let V = g.R.Value.Amount in
    let rater = g.met.R.Rater g.world.𝓛 g.world.𝓜 g.world.𝓡 ((λ s x. x), (λ x. x), (λ x. x), λ x. x) in
    let amount = g.met.R.Value.Amount g.world.𝓛 g.world.𝓜 g.world.𝓡 ((λ s x. x), (λ x. x), (λ x. x), λ x. x) in
    let keeps = rater.laws c.args.rater.now in
    let laws = amount.laws in
    let s = c.args.stack.now in
    let n = c.args.n in
    let plane = plane_of s.tiles in
    let rates = g.R.Rater.rates_of c.args.rater.now in
    let low = first_place s.line.axis c.args.area.now in
    let high = end_place s.line.axis c.args.area.now in
    let before = c.args.tally.now in
    let f = face_within (sums V.adding) (many V.adding n) plane rates s.line.axis c.args.layer s.line.at low high in
    room_in_list V.adding V.fits V.sound laws before c.loop-face.tally f c.args.faces.now c.loop-face.face-index _ c.loop-face-test.true c.requires.tally
    (within_sound V.adding V.fits V.sound laws (g.R.Rater.has_rules c.args.rater.now) rates keeps plane s.line.axis c.args.layer s.line.at low high n c.requires.rules) c.requires.room c.loop-face.invariant

pub loop-face-preserved : goal.loop-face-preserved
loop-face-preserved g c =
    let V = g.R.Value.Amount in
    let rater = g.met.R.Rater g.world.𝓛 g.world.𝓜 g.world.𝓡 ((λ s x. x), (λ x. x), (λ x. x), λ x. x) in
    let amount = g.met.R.Value.Amount g.world.𝓛 g.world.𝓜 g.world.𝓡 ((λ s x. x), (λ x. x), (λ x. x), λ x. x) in
    let keeps = rater.laws c.args.rater.now in
    let laws = amount.laws in
    let s = c.args.stack.now in
    let n = c.args.n in
    let plane = plane_of s.tiles in
    let rates = g.R.Rater.rates_of c.args.rater.now in
    let low = first_place s.line.axis c.args.area.now in
    let high = end_place s.line.axis c.args.area.now in
    let before = c.args.tally.now in
    let f = face_within (sums V.adding) (many V.adding n) plane rates s.line.axis c.args.layer s.line.at low high in
    enters_list V.adding V.fits V.sound laws before c.loop-face.tally c.enter_within.new.tally f c.args.faces.now c.loop-face.face-index _ c.loop-face-test.true c.requires.tally
    (within_sound V.adding V.fits V.sound laws (g.R.Rater.has_rules c.args.rater.now) rates keeps plane s.line.axis c.args.layer s.line.at low high n c.requires.rules) c.loop-face.invariant c.in_ok-enter_within.ensures
