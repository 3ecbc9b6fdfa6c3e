-- The technology has units, or it has none.
use Rattle.std.proofs.Common.{sym, ◌∙◌}
use Rattle.rc_gen.proofs.Orders.{rules_read, rules_lack}
use Rattle.rc_gen.proofs.making.read_rules.Goals as goal

pub returns-in-Some : goal.returns-in-Some
returns-in-Some c =
    rules_read c.args.tech.now c.args.design.now c.rules_text.result.now c.in-Some.field-0 c.read.result c.rules_text.ensures.text (sym c.units.ensures ∙ c.in-Some.is) c.read.ensures.ok c.read.ensures.refused

pub returns-in-None : goal.returns-in-None
returns-in-None c = rules_lack c.args.tech.now c.args.design.now (sym c.units.ensures ∙ c.in-None.is)
