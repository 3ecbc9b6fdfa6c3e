-- The capacitances of the nets so far are added.
use Rattle.std.proofs.Common.{◌*◌, ◌-◌, ◌^◌, ◌≤◌, take}
use Rattle.rc_gen.specs.Summary.{all_caps}
use Rattle.rc_gen.specs.Adding.{Adds, nothing}
use Rattle.rc_gen.proofs.sums.Sums.of.Given as goal

abbrev pub invariant-loop-net : goal.invariant-loop-net
invariant-loop-net l = record {
  adds : Adds nothing l.sums (all_caps (take l.net-index l.fn.nets));
  few : l.sums.pairs ≤ l.net-index * (2 ^ 64 - 1);
}
