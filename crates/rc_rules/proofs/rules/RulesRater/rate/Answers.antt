use Rattle.std.proofs.Common.{◌∙◌, sym}
use Rattle.rc_rules.specs.Looked.{rate_at}
use Rattle.rc_rules.proofs.rules.RulesRater.rate.Goals as goal

pub returns-in-Some : goal.returns-in-Some
returns-in-Some c = c.rate.ensures ∙ sym (rate_at c.args.self.now c.args.layer c.in-Some.rules.now c.args.under c.args.over c.args.thick c.args.gap (sym c.in-Some.ensures.block))
