use Rattle.std.proofs.Common.{◌∙◌, sym}
use Rattle.rc_rules.specs.Looked.{reach_at}
use Rattle.rc_rules.proofs.rules.RulesRater.reach.Goals as goal

pub returns-in-Some : goal.returns-in-Some
returns-in-Some c = c.reach.ensures.distance ∙ sym (reach_at c.args.self.now c.args.layer c.in-Some.rules.now (sym c.in-Some.ensures.block))
