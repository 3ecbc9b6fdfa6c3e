use Rattle.rc_rules.specs.Kept.{rates_are_small}
use Rattle.rc_rules.proofs.laws.rates_are_small.Goals as goal

pub returns : goal.returns
returns c = rates_are_small
