use Rattle.std.proofs.Common.{◌≡◌, ℕ, Some, ap, sym, ◌∙◌}
use Rattle.rc_geom.specs.Plane.{plane_of}
use Rattle.rc_squares.specs.Found.{face_value}
use Rattle.rc_squares.specs.Sides.{face_on}
use Rattle.rc_sums.proofs.Enters.{enters_same, room_same, on_ok}
use Rattle.rc_plain.specs.Squares.{face_added, side_added}
use Rattle.rc_plain.proofs.Squares.{face_counts, side_of_face}
use Rattle.rc_plain.proofs.face.enter_side.Goals as goal

pub enter_face-requires-clause-thick : goal.enter_face-requires-clause-thick
enter_face-requires-clause-thick g c = λ _ _.
    let V = g.R.Value.Amount in
    let rater = g.met.R.Rater g.world.𝓛 g.world.𝓜 g.world.𝓡 ((λ s x. x), (λ x. x), (λ x. x), λ x. x) in
    let amount = g.met.R.Value.Amount g.world.𝓛 g.world.𝓜 g.world.𝓡 ((λ s x. x), (λ x. x), (λ x. x), λ x. x) in
    let keeps = rater.laws c.args.rater.now in
    let laws = amount.laws in
    let has = g.R.Rater.has_rules c.args.rater.now in
    let plane = plane_of c.args.tiles.now in
    let rates = g.R.Rater.rates_of c.args.rater.now in
    let before = c.args.tally.now in
    let cap_is : c.cap.result ≡ rates.cap c.args.layer = c.cap.ensures in
    let reach_is : c.reach.result ≡ rates.reach c.args.layer = c.reach.ensures in
    let face = face_value c.in-Some.face in
    let there : face_on (rates.cap c.args.layer) (rates.reach c.args.layer) plane c.args.layer c.args.side c.args.at ≡ Some face =
    sym (ap (λ (n : ℕ). face_on n (rates.reach c.args.layer) plane c.args.layer c.args.side c.args.at) cap_is) ∙ (sym (ap (λ (n : ℕ). face_on c.cap.result n plane c.args.layer c.args.side c.args.at) reach_is) ∙ sym c.in-Some.ensures) in
    let big = keeps.cap_least c.args.layer c.requires.rules in
    (face_counts (rates.cap c.args.layer) (rates.reach c.args.layer) plane c.args.layer c.args.side c.args.at face big there).0

pub enter_face-requires-clause-gap : goal.enter_face-requires-clause-gap
enter_face-requires-clause-gap g c = λ _ _.
    let V = g.R.Value.Amount in
    let rater = g.met.R.Rater g.world.𝓛 g.world.𝓜 g.world.𝓡 ((λ s x. x), (λ x. x), (λ x. x), λ x. x) in
    let amount = g.met.R.Value.Amount g.world.𝓛 g.world.𝓜 g.world.𝓡 ((λ s x. x), (λ x. x), (λ x. x), λ x. x) in
    let keeps = rater.laws c.args.rater.now in
    let laws = amount.laws in
    let has = g.R.Rater.has_rules c.args.rater.now in
    let plane = plane_of c.args.tiles.now in
    let rates = g.R.Rater.rates_of c.args.rater.now in
    let before = c.args.tally.now in
    let cap_is : c.cap.result ≡ rates.cap c.args.layer = c.cap.ensures in
    let reach_is : c.reach.result ≡ rates.reach c.args.layer = c.reach.ensures in
    let face = face_value c.in-Some.face in
    let there : face_on (rates.cap c.args.layer) (rates.reach c.args.layer) plane c.args.layer c.args.side c.args.at ≡ Some face =
    sym (ap (λ (n : ℕ). face_on n (rates.reach c.args.layer) plane c.args.layer c.args.side c.args.at) cap_is) ∙ (sym (ap (λ (n : ℕ). face_on c.cap.result n plane c.args.layer c.args.side c.args.at) reach_is) ∙ sym c.in-Some.ensures) in
    let big = keeps.cap_least c.args.layer c.requires.rules in
    (face_counts (rates.cap c.args.layer) (rates.reach c.args.layer) plane c.args.layer c.args.side c.args.at face big there).1

pub enter_face-requires-clause-room : goal.enter_face-requires-clause-room
enter_face-requires-clause-room g c = λ _ _.
    let V = g.R.Value.Amount in
    let rater = g.met.R.Rater g.world.𝓛 g.world.𝓜 g.world.𝓡 ((λ s x. x), (λ x. x), (λ x. x), λ x. x) in
    let amount = g.met.R.Value.Amount g.world.𝓛 g.world.𝓜 g.world.𝓡 ((λ s x. x), (λ x. x), (λ x. x), λ x. x) in
    let keeps = rater.laws c.args.rater.now in
    let laws = amount.laws in
    let has = g.R.Rater.has_rules c.args.rater.now in
    let plane = plane_of c.args.tiles.now in
    let rates = g.R.Rater.rates_of c.args.rater.now in
    let before = c.args.tally.now in
    let cap_is : c.cap.result ≡ rates.cap c.args.layer = c.cap.ensures in
    let reach_is : c.reach.result ≡ rates.reach c.args.layer = c.reach.ensures in
    let face = face_value c.in-Some.face in
    let there : face_on (rates.cap c.args.layer) (rates.reach c.args.layer) plane c.args.layer c.args.side c.args.at ≡ Some face =
    sym (ap (λ (n : ℕ). face_on n (rates.reach c.args.layer) plane c.args.layer c.args.side c.args.at) cap_is) ∙ (sym (ap (λ (n : ℕ). face_on c.cap.result n plane c.args.layer c.args.side c.args.at) reach_is) ∙ sym c.in-Some.ensures) in
    let big = keeps.cap_least c.args.layer c.requires.rules in
    room_same V.adding V.fits V.sound before (side_added V.adding plane rates c.args.layer c.args.side c.args.at) (face_added V.adding plane rates c.args.layer c.args.at face) c.requires.room
    (λ q. sym (side_of_face V.adding plane rates c.args.layer c.args.side c.args.at face there q))

pub returns-in-Some : goal.returns-in-Some
returns-in-Some g c =
    let V = g.R.Value.Amount in
    let rater = g.met.R.Rater g.world.𝓛 g.world.𝓜 g.world.𝓡 ((λ s x. x), (λ x. x), (λ x. x), λ x. x) in
    let amount = g.met.R.Value.Amount g.world.𝓛 g.world.𝓜 g.world.𝓡 ((λ s x. x), (λ x. x), (λ x. x), λ x. x) in
    let keeps = rater.laws c.args.rater.now in
    let laws = amount.laws in
    let has = g.R.Rater.has_rules c.args.rater.now in
    let plane = plane_of c.args.tiles.now in
    let rates = g.R.Rater.rates_of c.args.rater.now in
    let before = c.args.tally.now in
    let cap_is : c.cap.result ≡ rates.cap c.args.layer = c.cap.ensures in
    let reach_is : c.reach.result ≡ rates.reach c.args.layer = c.reach.ensures in
    let face = face_value c.in-Some.face in
    let there : face_on (rates.cap c.args.layer) (rates.reach c.args.layer) plane c.args.layer c.args.side c.args.at ≡ Some face =
    sym (ap (λ (n : ℕ). face_on n (rates.reach c.args.layer) plane c.args.layer c.args.side c.args.at) cap_is) ∙ (sym (ap (λ (n : ℕ). face_on c.cap.result n plane c.args.layer c.args.side c.args.at) reach_is) ∙ sym c.in-Some.ensures) in
    let big = keeps.cap_least c.args.layer c.requires.rules in
    on_ok c.enter_face.result c.enter_face.ensures (λ enters.
    enters_same V.adding V.sound before c.enter_face.new.tally (face_added V.adding plane rates c.args.layer c.args.at face) (side_added V.adding plane rates c.args.layer c.args.side c.args.at) enters
    (side_of_face V.adding plane rates c.args.layer c.args.side c.args.at face there))
