use Rattle.std.proofs.Common.{rules, ◌≡◌, ℕ, ℤ, Option, w32, SFits, to_z, of_z, sym, ap, ◌∙◌}
use Rattle.std.proofs.lemmas.Int.{to_z-of_z}
use Rattle.rc_geom.specs.Plane.{plane_of}
use Rattle.rc_geom.specs.Line.{square_of}
use Rattle.rc_geom.specs.Context.{under, over}
use Rattle.rc_sums.proofs.Faces.{gap_back}
use Rattle.rc_sums.proofs.enter.rate_of.Goals as goal

pub returns : goal.returns
returns g c =
    let s = c.args.stack.now in
    let f = c.args.face.now in
    let plane = plane_of s.tiles in
    let rates = g.R.Rater.rates_of c.args.rater.now in
    let fits : SFits w32 f.lo = search rules in
    let at : to_z w32 (of_z w32 f.lo) ≡ f.lo = to_z-of_z w32 f.lo fits in
    let low : c.context-under.result.0 ≡ under plane c.args.layer (square_of s.line.axis s.line.at f.lo) = c.context-under.ensures.under ∙ ap (λ (z : ℤ). under plane c.args.layer (square_of s.line.axis s.line.at z)) at in
    let high : c.context-under.result.1 ≡ over plane c.args.layer (square_of s.line.axis s.line.at f.lo) = c.context-under.ensures.over ∙ ap (λ (z : ℤ). over plane c.args.layer (square_of s.line.axis s.line.at z)) at in
    c.rate.ensures
    ∙ (ap (λ (u : Option ℕ). rates.rate c.args.layer u c.context-under.result.1 f.thick f.gap) low
    ∙ (ap (λ (o : Option ℕ). rates.rate c.args.layer (under plane c.args.layer (square_of s.line.axis s.line.at f.lo)) o f.thick f.gap) high
    ∙ ap (λ (d : Option ℕ). rates.rate c.args.layer (under plane c.args.layer (square_of s.line.axis s.line.at f.lo)) (over plane c.args.layer (square_of s.line.axis s.line.at f.lo)) f.thick d) (sym (gap_back (f.onet, f.onode) f.gap))))
