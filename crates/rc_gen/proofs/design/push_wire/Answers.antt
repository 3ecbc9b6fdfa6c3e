-- The parts of a line.
use Rattle.std.proofs.Common.{◌++◌, ap, ◌∙◌}
use Rattle.std.specs.Prelude.{codes}
use Rattle.rc_gen.specs.Texts.{point_text, name_text, layer_text, wire_text}
use Rattle.rc_gen.proofs.Rows.{six_parts}
use Rattle.rc_gen.proofs.design.push_wire.Goals as goal

pub returns-clause-text : goal.returns-clause-text
unfolding wire_text
returns-clause-text c =
    let wire = c.args.wire.now in
    c.in_ok-extend_from_slice.ensures.items
    ∙ ap (λ t. t ++ codes ";\n") (c.in_ok-push_point-2.ensures.text
    ∙ ap (λ t. t ++ point_text wire.to) (c.in_ok-push_point.ensures.text
    ∙ ap (λ t. t ++ point_text wire.from) (c.in_ok-push_layer.ensures.text
    ∙ ap (λ t. t ++ layer_text wire) c.in_ok-push_name.ensures.text)))
    ∙ six_parts c.args.text.now.items (name_text wire) (layer_text wire) (point_text wire.from) (point_text wire.to) (codes ";\n")
