use Rattle.rc_tally.proofs.Named as lemmas
use Rattle.rc_tally.proofs.laws.sums_are_kept.Goals as goal

pub returns : goal.returns
returns g c = lemmas.sums_are_kept g.V.Amount.adding g.V.Amount.sound (g.met.V.Amount.laws).additive
