use Rattle.std.proofs.Common.{◌≡◌, ◌≤◌, ◌-◌, ◌++◌, take, drop}
use Rattle.std.specs.Prelude.{min}
use Rattle.std.specs.Str.Parse.{digits_value}
use Rattle.rc_fixed.specs.Steps.{most}
use Rattle.rc_fixed.proofs.scale.digits_between.Given as goal

abbrev pub invariant-loop-at : goal.invariant-loop-at
invariant-loop-at l = record {
  is : l.value ≡ min most (digits_value 10 (take (l.at - l.from) (drop l.from (l.whole ++ l.fraction))));
  small : l.value ≤ most;
}
