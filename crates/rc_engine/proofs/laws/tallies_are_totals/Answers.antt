use Rattle.rc_engine.proofs.WindowSums.{tallies_are_totals}
use Rattle.rc_engine.proofs.laws.tallies_are_totals.Goals as goal

pub returns : goal.returns
returns c = tallies_are_totals
