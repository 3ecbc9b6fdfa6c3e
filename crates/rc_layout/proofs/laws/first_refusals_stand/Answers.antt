-- Entry by entry.
use Rattle.rc_layout.proofs.FactsEach.{each_is_refused}
use Rattle.rc_layout.proofs.laws.first_refusals_stand.Goals as goal

pub returns : goal.returns
returns g c = each_is_refused _ _
