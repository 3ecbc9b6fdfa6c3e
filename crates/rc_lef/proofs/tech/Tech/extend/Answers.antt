use Rattle.rc_lef.specs.Technology.{name_of_layer, name_of_via, name_of_macro, name_of_rule}
use Rattle.rc_lef.proofs.NewNames.{new_behind}
use Rattle.rc_lef.proofs.tech.Tech.extend.Goals as goal

pub append-requires : goal.append-requires
append-requires c = new_behind name_of_layer c.self.inside.layers c.args.layers (rw (← c.self.view_is) at c.requires.distinct.layers)

pub append-requires-2 : goal.append-requires-2
append-requires-2 c = new_behind name_of_via c.self.inside.vias c.args.vias (rw (← c.self.view_is) at c.requires.distinct.vias)

pub append-requires-3 : goal.append-requires-3
append-requires-3 c = new_behind name_of_macro c.self.inside.macros c.args.macros (rw (← c.self.view_is) at c.requires.distinct.macros)

pub append-requires-4 : goal.append-requires-4
append-requires-4 c = new_behind name_of_rule c.self.inside.rules c.args.rules (rw (← c.self.view_is) at c.requires.distinct.rules)
