-- The parts of the text.
use Rattle.std.proofs.Common.{◌*◌, ◌++◌, ap, ◌∙◌}
use Rattle.std.specs.Prelude.{codes}
use Rattle.std.specs.Fmt.{decimal}
use Rattle.rc_gen.specs.Texts.{rows_text, design_text}
use Rattle.rc_gen.proofs.design.design_text.Goals as goal

pub returns-clause-text : goal.returns-clause-text
unfolding design_text
returns-clause-text c =
    let rows = rows_text c.args.seed c.args.rows in
    c.in_ok-extend_from_slice-2.ensures.items
    ∙ ap (λ t. t ++ codes "END NETS\nEND DESIGN\n") (c.in_ok-push_rows.ensures.text
    ∙ ap (λ t. t ++ rows) (c.in_ok-extend_from_slice.ensures.items
    ∙ ap (λ t. t ++ codes " ;\n") (c.in_ok-push_number.ensures.text
    ∙ ap (λ t. t ++ decimal (2 * c.args.rows)) c.in_ok-text.ensures.items)))
