-- Entry by entry.
use Rattle.rc_layout.proofs.FactsEach.{each_has_value}
use Rattle.rc_layout.proofs.laws.lists_have_values.Goals as goal

pub returns : goal.returns
returns g c = each_has_value _ _
