use Rattle.std.proofs.Common.{◌∙◌, sym}
use Rattle.rc_rules.proofs.Small.{rule_most}
use Rattle.rc_rules.proofs.number.share.Goals as goal

pub per_unit-requires-clause-rule : goal.per_unit-requires-clause-rule
per_unit-requires-clause-rule c = rule_most c.args.word.now c.in-Ok.number (sym c.parse_rule.ensures ∙ c.in-Ok.is)
