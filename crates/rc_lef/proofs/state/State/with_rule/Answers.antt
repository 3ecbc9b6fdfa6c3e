use Rattle.std.proofs.Common.{ap}
use Rattle.rc_lef.specs.Technology.{name_of_rule}
use Rattle.rc_lef.specs.Rules.{knows_rule}
use Rattle.rc_lef.specs.declared.state.State.{State}
use Rattle.rc_lef.proofs.Known.{new_name}
use Rattle.rc_lef.proofs.state.State.with_rule.Goals as goal

pub put-requires : goal.put-requires
unfolding knows_rule
put-requires c =
    new_name name_of_rule c.args.self.now.outer _ c.args.given.now.tech.now.rules c.args.self.now.rules _ c.knows_rule-known.result c.knows_rule-known.ensures c.if-not-known.true (ap name_of_rule c.made_rule-rule.ensures.made) (ap (λ (s : State). s.rules) c.made_rule-rule.ensures.state)
