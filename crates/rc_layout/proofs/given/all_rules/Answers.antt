-- Those of the technology have names of their own.
use Rattle.std.proofs.Common.{◌≡◌, true, List, [], map, ap, ◌∙◌, subst, sym}
use Rattle.rc_keys.specs.Tables.{are_new}
use Rattle.rc_lef.specs.Technology.{Technology}
use Rattle.rc_layout.specs.declared.part.Rule.{Rule}
use Rattle.rc_layout.specs.Layouts.{rule_of}
use Rattle.rc_layout.proofs.Named.{ruled_new}
use Rattle.rc_layout.proofs.given.all_rules.Goals as goal

pub new-requires-clause-others : goal.new-requires-clause-others
new-requires-clause-others c = subst (λ (l : List Rule). are_new (λ (x : Rule). x.name) [] l ≡ true) (sym (c.in-Ok.ensures ∙ ap (map rule_of) (c.rules.ensures ∙ ap (λ (t : Technology). t.rules) c.tech.ensures))) (ruled_new c.args.process.now.rules c.requires.tech)
