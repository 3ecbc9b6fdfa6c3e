use Rattle.std.proofs.Common.{drop, ap, ◌∙◌}
use Rattle.rc_fixed.specs.Decimal.{decimal_text}
use Rattle.rc_spef.proofs.Puts.{puts_is}
use Rattle.rc_spef.proofs.Amounts.{below_one}
use Rattle.rc_spef.proofs.writer.put_fraction.Goals as goal

pub returns : goal.returns
returns g c =
    puts_is c.put.ensures
    (c.without_first.ensures ∙ ap (drop 1) (c.digits-end.ensures.text ∙ ap decimal_text c.from.ensures ∙ below_one c.args.rest c.requires))
