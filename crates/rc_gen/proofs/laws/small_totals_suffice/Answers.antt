use Rattle.rc_gen.proofs.Additions.{small_totals_suffice}
use Rattle.rc_gen.proofs.laws.small_totals_suffice.Goals as goal

pub returns : goal.returns
returns c = small_totals_suffice
