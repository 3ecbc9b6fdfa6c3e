-- Those of the technology have names of their own.
use Rattle.std.proofs.Common.{◌≡◌, true, List, [], ap, ◌∙◌, subst, sym}
use Rattle.rc_keys.specs.Tables.{are_new}
use Rattle.rc_lef.specs.Technology.{Technology}
use Rattle.rc_lef.specs.declared.via.Via.{Via}
use Rattle.rc_layout.proofs.given.all_vias.Goals as goal

pub new-requires-clause-others : goal.new-requires-clause-others
new-requires-clause-others c = subst (λ (l : List Via). are_new (λ (x : Via). x.name) [] l ≡ true) (sym (c.in-Ok.ensures ∙ (c.vias.ensures ∙ ap (λ (t : Technology). t.vias) c.tech.ensures))) c.requires.tech
