-- The digit before the point is left out.
use Rattle.std.proofs.Common.{◌++◌, drop, ap, ◌∙◌}
use Rattle.rc_fixed.specs.Decimal.{decimal_text}
use Rattle.rc_gen.proofs.Amounts.{below_one}
use Rattle.rc_gen.proofs.amount.push_fraction.Goals as goal

pub returns : goal.returns
returns c =
    c.in_ok-extend_from_slice.ensures.items
    ∙ ap (λ digits. c.args.text.now.items ++ digits) (c.without_first.ensures ∙ ap (drop 1) (c.digits-end.ensures.text ∙ ap decimal_text c.from.ensures ∙ below_one c.args.rest c.requires))
