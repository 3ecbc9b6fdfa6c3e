-- The parts of the text.
use Rattle.std.proofs.Common.{◌≡◌, ◌++◌, ap, subst, ◌∙◌}
use Rattle.std.specs.Prelude.{codes, IfOk}
use Rattle.std.specs.Fmt.{decimal}
use Rattle.rc_fixed.specs.Decimal.{decimal_text}
use Rattle.rc_gen.proofs.Additions.{summary_is}
use Rattle.rc_gen.proofs.sums.summary.Goals as goal

pub returns : goal.returns
returns c =
    let sums = c.of-sums.result in
    let text =
    c.in_ok-push.ensures.items
    ∙ ap (λ t. t ++ codes "\n") (c.in_ok-push_to-2.ensures
    ∙ ap (λ t. t ++ decimal_text sums.coupling) (c.in_ok-extend_from_slice-3.ensures.items
    ∙ ap (λ t. t ++ codes "\ncoupling ") (c.in_ok-push_number-2.ensures
    ∙ ap (λ t. t ++ decimal sums.pairs) (c.in_ok-extend_from_slice-2.ensures.items
    ∙ ap (λ t. t ++ codes "\ncouplings ") (c.in_ok-push_to.ensures
    ∙ ap (λ t. t ++ decimal_text sums.ground) (c.in_ok-extend_from_slice.ensures.items
    ∙ ap (λ t. t ++ codes "\nground ") (c.in_ok-push_number.ensures
    ∙ ap (λ t. t ++ decimal c.len.result) c.in_ok-text.ensures.items)))))))
    ∙ summary_is c.args.spef.now c.len.result sums c.len.ensures c.of-sums.ensures in
    subst (λ t. IfOk c.from_vec.result (λ line. line ≡ t)) text c.from_vec.ensures.bytes
