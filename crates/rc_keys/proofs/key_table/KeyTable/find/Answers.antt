use Rattle.std.proofs.Common.{◌∙◌, sym, subst}
use Rattle.rc_keys.specs.KeyWords.{AreDifferent}
use Rattle.rc_keys.proofs.Finding.{found_there}
use Rattle.rc_keys.proofs.key_table.KeyTable.find.Goals as goal

pub returns-in-Some-clause-exact : goal.returns-in-Some-clause-exact
returns-in-Some-clause-exact g c = found_there c.args.self.now c.args.word.now _ (subst AreDifferent c.self.view_is c.self.invariant.2) (sym c.in-Some.is ∙ c.place.ensures.exact)

pub returns-in-None-clause-exact : goal.returns-in-None-clause-exact
returns-in-None-clause-exact g c = found_there c.args.self.now c.args.word.now _ (subst AreDifferent c.self.view_is c.self.invariant.2) (sym c.in-None.is ∙ c.place.ensures.exact)
