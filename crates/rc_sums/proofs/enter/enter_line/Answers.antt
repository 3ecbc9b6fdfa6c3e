use Rattle.std.proofs.Common.{◌≡◌, ◌+◌, ◌^◌, ℕ, pos, negsuc, List, All, sym, ap, ◌∙◌, subst}
use Rattle.rc_geom.specs.declared.key.Key.{Key}
use Rattle.rc_geom.specs.Plane.{plane_of}
use Rattle.rc_geom.specs.Line.{line_of}
use Rattle.rc_geom.specs.Sums.{first_place, end_place}
use Rattle.rc_tally.specs.Tallies.{sums, sum_sound}
use Rattle.rc_column.specs.declared.face.Face.{Face}
use Rattle.rc_sums.specs.Entering.{many}
use Rattle.rc_sums.specs.Worths.{IsCounted, faces_within, line_added}
use Rattle.rc_sums.proofs.Enters.{enters_same, room_same, on_ok}
use Rattle.rc_sums.proofs.Faces.{within_sound}
use Rattle.rc_column.specs.Found.{faces_between}
use Rattle.rc_sums.proofs.Sums.{sums_additive}
use Rattle.rc_sums.proofs.Lines.{faces_are_line}
use Rattle.rc_sums.proofs.Strips.{rules_sound, many_sound, place_ends}
use Rattle.rc_sums.proofs.Counted.{faces_count, metal_has}
use Rattle.rc_sums.proofs.enter.enter_line.Goals as goal

pub enter_faces-requires-clause-faces : goal.enter_faces-requires-clause-faces
enter_faces-requires-clause-faces g c = λ _ _.
    let V = g.R.Value.Amount in
    let rater = g.met.R.Rater g.world.𝓛 g.world.𝓜 g.world.𝓡 ((λ s x. x), (λ x. x), (λ x. x), λ x. x) in
    let amount = g.met.R.Value.Amount g.world.𝓛 g.world.𝓜 g.world.𝓡 ((λ s x. x), (λ x. x), (λ x. x), λ x. x) in
    let keeps = rater.laws c.args.rater.now in
    let laws = amount.laws in
    let s = c.args.stack.now in
    let n = c.args.n in
    let plane = plane_of s.tiles in
    let rates = g.R.Rater.rates_of c.args.rater.now in
    let low = first_place s.line.axis c.args.area.now in
    let high = end_place s.line.axis c.args.area.now in
    let before = c.args.tally.now in
    let line = line_of plane c.args.layer s.line.axis s.line.at in
    let lo = negsuc (2 ^ 29) in
    let hi = pos (2 ^ 29 + 1) in
    let caps : c.cap.result ≡ rates.cap c.args.layer = c.cap.ensures in
    let reaches : c.reach.result ≡ rates.reach c.args.layer = c.reach.ensures in
    let found : c.items.result.now ≡ faces_between (rates.cap c.args.layer) (rates.reach c.args.layer) line lo hi =
    c.items.ensures ∙ (c.in_ok-faces.ensures
    ∙ (ap (λ (m : ℕ). faces_between m c.reach.result line lo hi) caps ∙ ap (λ (m : ℕ). faces_between (rates.cap c.args.layer) m line lo hi) reaches)) in
    subst (All IsCounted) (sym found) (faces_count (rates.cap c.args.layer) (rates.reach c.args.layer) line lo hi (keeps.cap_least c.args.layer c.requires.rules))

pub enter_faces-requires-clause-room : goal.enter_faces-requires-clause-room
enter_faces-requires-clause-room g c = λ _ _.
    let V = g.R.Value.Amount in
    let rater = g.met.R.Rater g.world.𝓛 g.world.𝓜 g.world.𝓡 ((λ s x. x), (λ x. x), (λ x. x), λ x. x) in
    let amount = g.met.R.Value.Amount g.world.𝓛 g.world.𝓜 g.world.𝓡 ((λ s x. x), (λ x. x), (λ x. x), λ x. x) in
    let keeps = rater.laws c.args.rater.now in
    let laws = amount.laws in
    let s = c.args.stack.now in
    let n = c.args.n in
    let plane = plane_of s.tiles in
    let rates = g.R.Rater.rates_of c.args.rater.now in
    let low = first_place s.line.axis c.args.area.now in
    let high = end_place s.line.axis c.args.area.now in
    let before = c.args.tally.now in
    let line = line_of plane c.args.layer s.line.axis s.line.at in
    let lo = negsuc (2 ^ 29) in
    let hi = pos (2 ^ 29 + 1) in
    let caps : c.cap.result ≡ rates.cap c.args.layer = c.cap.ensures in
    let reaches : c.reach.result ≡ rates.reach c.args.layer = c.reach.ensures in
    let found : c.items.result.now ≡ faces_between (rates.cap c.args.layer) (rates.reach c.args.layer) line lo hi =
    c.items.ensures ∙ (c.in_ok-faces.ensures
    ∙ (ap (λ (m : ℕ). faces_between m c.reach.result line lo hi) caps ∙ ap (λ (m : ℕ). faces_between (rates.cap c.args.layer) m line lo hi) reaches)) in
    let of_f = within_sound V.adding V.fits V.sound laws (g.R.Rater.has_rules c.args.rater.now) rates keeps plane s.line.axis c.args.layer s.line.at low high n c.requires.rules in
    let each = rules_sound (g.R.Rater.has_rules c.args.rater.now) rates V.adding V.sound keeps plane s.line.axis (metal_has (g.R.Rater.has_rules c.args.rater.now) s.tiles c.requires.all_rules) in
    let ends = place_ends s.line.axis c.args.area.now c.requires.area in
    let same : (q : Key) → faces_within (sums V.adding) (many V.adding n) plane rates s.line.axis c.args.layer s.line.at low high c.items.result.now q ≡ line_added (sums V.adding) (many V.adding n) plane rates s.line.axis c.args.layer s.line.at low high q = λ q.
    ap (λ (fs : List Face). faces_within (sums V.adding) (many V.adding n) plane rates s.line.axis c.args.layer s.line.at low high fs q) found
    ∙ faces_are_line (sums V.adding) (sum_sound V.sound) (sums_additive V.adding V.sound laws.additive) (many V.adding n) plane rates s.line.axis c.args.layer s.line.at low high lo hi q (λ f. of_f f q)
    (λ z up. many_sound V.adding V.sound laws.additive n plane rates s.line.axis each c.args.layer s.line.at z up q) ends.0 ends.1 in
    room_same V.adding V.fits V.sound before (line_added (sums V.adding) (many V.adding n) plane rates s.line.axis c.args.layer s.line.at low high) (faces_within (sums V.adding) (many V.adding n) plane rates s.line.axis c.args.layer s.line.at low high c.items.result.now) c.requires.room same

pub returns : goal.returns
returns g c =
    let V = g.R.Value.Amount in
    let rater = g.met.R.Rater g.world.𝓛 g.world.𝓜 g.world.𝓡 ((λ s x. x), (λ x. x), (λ x. x), λ x. x) in
    let amount = g.met.R.Value.Amount g.world.𝓛 g.world.𝓜 g.world.𝓡 ((λ s x. x), (λ x. x), (λ x. x), λ x. x) in
    let keeps = rater.laws c.args.rater.now in
    let laws = amount.laws in
    let s = c.args.stack.now in
    let n = c.args.n in
    let plane = plane_of s.tiles in
    let rates = g.R.Rater.rates_of c.args.rater.now in
    let low = first_place s.line.axis c.args.area.now in
    let high = end_place s.line.axis c.args.area.now in
    let before = c.args.tally.now in
    let line = line_of plane c.args.layer s.line.axis s.line.at in
    let lo = negsuc (2 ^ 29) in
    let hi = pos (2 ^ 29 + 1) in
    let caps : c.cap.result ≡ rates.cap c.args.layer = c.cap.ensures in
    let reaches : c.reach.result ≡ rates.reach c.args.layer = c.reach.ensures in
    let found : c.items.result.now ≡ faces_between (rates.cap c.args.layer) (rates.reach c.args.layer) line lo hi =
    c.items.ensures ∙ (c.in_ok-faces.ensures
    ∙ (ap (λ (m : ℕ). faces_between m c.reach.result line lo hi) caps ∙ ap (λ (m : ℕ). faces_between (rates.cap c.args.layer) m line lo hi) reaches)) in
    let of_f = within_sound V.adding V.fits V.sound laws (g.R.Rater.has_rules c.args.rater.now) rates keeps plane s.line.axis c.args.layer s.line.at low high n c.requires.rules in
    let each = rules_sound (g.R.Rater.has_rules c.args.rater.now) rates V.adding V.sound keeps plane s.line.axis (metal_has (g.R.Rater.has_rules c.args.rater.now) s.tiles c.requires.all_rules) in
    let ends = place_ends s.line.axis c.args.area.now c.requires.area in
    let same : (q : Key) → faces_within (sums V.adding) (many V.adding n) plane rates s.line.axis c.args.layer s.line.at low high c.items.result.now q ≡ line_added (sums V.adding) (many V.adding n) plane rates s.line.axis c.args.layer s.line.at low high q = λ q.
    ap (λ (fs : List Face). faces_within (sums V.adding) (many V.adding n) plane rates s.line.axis c.args.layer s.line.at low high fs q) found
    ∙ faces_are_line (sums V.adding) (sum_sound V.sound) (sums_additive V.adding V.sound laws.additive) (many V.adding n) plane rates s.line.axis c.args.layer s.line.at low high lo hi q (λ f. of_f f q)
    (λ z up. many_sound V.adding V.sound laws.additive n plane rates s.line.axis each c.args.layer s.line.at z up q) ends.0 ends.1 in
    on_ok c.enter_faces.result c.enter_faces.ensures (λ enters.
    enters_same V.adding V.sound before c.enter_faces.new.tally (faces_within (sums V.adding) (many V.adding n) plane rates s.line.axis c.args.layer s.line.at low high c.items.result.now) (line_added (sums V.adding) (many V.adding n) plane rates s.line.axis c.args.layer s.line.at low high) enters (λ q. sym (same q)))
