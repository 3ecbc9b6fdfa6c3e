use Rattle.std.proofs.Common.{◌≡◌, ◌≤◌, ◌*◌, ◌^◌}
use Rattle.std.specs.Prelude.{min}
use Rattle.rc_fixed.specs.Steps.{most}
use Rattle.rc_fixed.proofs.scale.raised.Given as goal

abbrev pub invariant-loop-turn : goal.invariant-loop-turn
invariant-loop-turn l = record {
  is : l.value ≡ min most (l.fn.value * 10 ^ l._turn);
  small : l.value ≤ most;
}
