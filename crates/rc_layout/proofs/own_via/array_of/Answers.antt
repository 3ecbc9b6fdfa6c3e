-- The array that is made is the one that the numbers mean.
use Rattle.std.proofs.Common.{ap, ◌∙◌}
use Rattle.std.specs.Prelude.{Some}
use Rattle.rc_lef.specs.declared.usable.Array.{Array}
use Rattle.rc_layout.proofs.Arrays.{by_sizes, are_sizes}
use Rattle.rc_layout.proofs.own_via.array_of.Goals as goal

pub array_from-requires-clause-sizes : goal.array_from-requires-clause-sizes
array_from-requires-clause-sizes c = are_sizes c.args.numbers.now c.in-Some.sizes c.in-Some.ensures c.requires.made

pub returns-in-Some-clause-is : goal.returns-in-Some-clause-is
returns-in-Some-clause-is c = ap (λ (a : Array). Some a) c.array_from.ensures.is ∙ by_sizes c.args.factor c.args.numbers.now (Some c.in-Some.sizes) c.in-Some.ensures

pub returns-in-None-clause-is : goal.returns-in-None-clause-is
returns-in-None-clause-is c = by_sizes c.args.factor c.args.numbers.now _ c.in-None.ensures
