use Rattle.std.proofs.Common.{refl}
use Rattle.rc_geom.specs.Plane.{plane_of}
use Rattle.rc_geom.specs.Line.{line_of, square_of}
use Rattle.rc_geom.specs.Sums.{first_place, end_place}
use Rattle.rc_tally.specs.Tallies.{sums, sum_sound}
use Rattle.rc_sums.specs.Entering.{many}
use Rattle.rc_sums.specs.Worths.{line_added}
use Rattle.rc_sums.proofs.Sums.{sums_additive}
use Rattle.rc_sums.proofs.Enters.{enters_none}
use Rattle.rc_sums.proofs.Counted.{metal_has, metal_of_line, bare_of_line}
use Rattle.rc_sums.proofs.Strips.{bare_line}
use Rattle.rc_sums.proofs.enter.enter_layer.Goals as goal

pub enter_line-requires-clause-rules : goal.enter_line-requires-clause-rules
enter_line-requires-clause-rules g c = λ _ _.
    let s = c.args.stack.now in
    let line = line_of (plane_of s.tiles) c.args.layer s.line.axis s.line.at in
    let metal = metal_of_line line c.is_bare.result c.if-is_bare.false (c.is_bare.ensures line refl) in
    metal_has (g.R.Rater.has_rules c.args.rater.now) s.tiles c.requires.rules c.args.layer (square_of s.line.axis s.line.at metal.0) metal.1

pub returns-then-is_bare : goal.returns-then-is_bare
returns-then-is_bare g c =
    let V = g.R.Value.Amount in
    let rater = g.met.R.Rater g.world.𝓛 g.world.𝓜 g.world.𝓡 ((λ s x. x), (λ x. x), (λ x. x), λ x. x) in
    let amount = g.met.R.Value.Amount g.world.𝓛 g.world.𝓜 g.world.𝓡 ((λ s x. x), (λ x. x), (λ x. x), λ x. x) in
    let keeps = rater.laws c.args.rater.now in
    let laws = amount.laws in
    let s = c.args.stack.now in
    let n = c.args.n in
    let plane = plane_of s.tiles in
    let rates = g.R.Rater.rates_of c.args.rater.now in
    let low = first_place s.line.axis c.args.area.now in
    let high = end_place s.line.axis c.args.area.now in
    let before = c.args.tally.now in
    let line = line_of plane c.args.layer s.line.axis s.line.at in
    let bare = bare_of_line line c.is_bare.result c.if-is_bare.true (c.is_bare.ensures line refl) in
    enters_none V.adding V.fits V.sound laws before (line_added (sums V.adding) (many V.adding n) plane rates s.line.axis c.args.layer s.line.at low high) c.requires.tally
    (λ q. bare_line (sums V.adding) (sum_sound V.sound) (sums_additive V.adding V.sound laws.additive).neutral (many V.adding n) plane rates s.line.axis c.args.layer s.line.at low high q bare)
