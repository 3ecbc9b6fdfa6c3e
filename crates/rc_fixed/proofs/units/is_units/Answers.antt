use Rattle.std.proofs.Common.{eqb}
use Rattle.std.proofs.lemmas.List.Elements.{Decides-contains, contains_decides}
use Rattle.std.proofs.lemmas.Bool.Decides.{Decides-eqb}
use Rattle.rc_fixed.specs.Units.{units_of_a_micron}
use Rattle.rc_fixed.proofs.units.is_units.Goals as goal

pub returns : goal.returns
returns c = Decides-contains units_of_a_micron c.args.m c.contains.result (contains_decides eqb Decides-eqb units_of_a_micron c.args.m c.contains.result c.contains.ensures.cases)
