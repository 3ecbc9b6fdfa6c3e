use Rattle.std.proofs.Common.{◌∙◌, sym, arith}
use Rattle.rc_rules.proofs.Small.{rule_most}
use Rattle.rc_rules.proofs.number.resistance.Goals as goal

pub overflow_mul-result : goal.overflow_mul-result
overflow_mul-result c = let h = rule_most c.args.word.now c.in-Ok.number (sym c.parse_rule.ensures ∙ c.in-Ok.is) in omega (arith, h)
