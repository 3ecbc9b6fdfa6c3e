-- The width that stands at a number is that of the layer, and no width is negative.
use Rattle.std.proofs.Common.{List, ap, ◌∙◌, subst, sym, rules, w32}
use Rattle.std.proofs.lemmas.Int.{to_z-of_z}
use Rattle.rc_lef.specs.declared.tech.Layer.{Layer}
use Rattle.rc_lef.specs.Technology.{Technology}
use Rattle.rc_layout.specs.Ranges.{IsSpan}
use Rattle.rc_layout.specs.Widths.{layer_width}
use Rattle.rc_layout.proofs.Widths.{width_at_is, width_spans}
use Rattle.rc_layout.proofs.process.Process.width.Goals as goal

pub returns-then-place-lt-LAYERS-clause-is : goal.returns-then-place-lt-LAYERS-clause-is
returns-then-place-lt-LAYERS-clause-is c =
    to_z-of_z w32 c.width_at.result (search rules) ∙ c.width_at.ensures ∙ width_at_is c.self.inside.tech.layers c.self.inside.widths c.args.number c.self.invariant (search rules)
    ∙ ap (λ (t : Technology). layer_width t.layers c.args.number) c.self.view_is

pub returns-then-place-lt-LAYERS-clause-span : goal.returns-then-place-lt-LAYERS-clause-span
returns-then-place-lt-LAYERS-clause-span c =
    subst IsSpan (sym (returns-then-place-lt-LAYERS-clause-is c)) (width_spans c.args.self.now.layers c.args.number c.requires)

pub returns-clause-span : goal.returns-clause-span
returns-clause-span c =
    let here = c.layers.ensures ∙ ap (λ (t : Technology). t.layers) c.self.view_is in
    let is = to_z-of_z w32 c.width_in.result (search rules) ∙ c.width_in.ensures ∙ ap (λ (ls : List Layer). layer_width ls c.args.number) here in
    subst IsSpan (sym is) (width_spans c.args.self.now.layers c.args.number c.requires)
