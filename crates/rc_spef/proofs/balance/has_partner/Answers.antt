use Rattle.std.proofs.Common.{◌∙◌, sym, ap}
use Rattle.std.specs.Prelude.{option_copied}
use Rattle.rc_spef.proofs.Joining.{found}
use Rattle.rc_spef.proofs.balance.has_partner.Goals as goal

pub returns-in-None : goal.returns-in-None
returns-in-None c = found c.args.values.now.entries c.turned.result c.args.entry.now _ c.turned.ensures.from c.turned.ensures.to (sym (ap option_copied c.in-None.is) ∙ c.get.ensures.value)

pub returns-in-Some : goal.returns-in-Some
returns-in-Some c = found c.args.values.now.entries c.turned.result c.args.entry.now _ c.turned.ensures.from c.turned.ensures.to (sym (ap option_copied c.in-Some.is) ∙ c.get.ensures.value)
