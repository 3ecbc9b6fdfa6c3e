use Rattle.std.proofs.Common.{◌≡◌, ◌≤◌, take, map}
use Rattle.std.specs.Prelude.{count_by}
use Rattle.rc_spef.specs.declared.value.End.{End}
use Rattle.rc_spef.specs.Balance.{leads}
use Rattle.rc_spef.specs.Joints.{seen, pair_of}
use Rattle.rc_spef.proofs.balance.by_ends.Given as goal

abbrev pub invariant-loop-entry : goal.invariant-loop-entry
invariant-loop-entry l = record {
  kept : l.values.entries ≡ map pair_of (take l.entry-index l.entries);
  apart : (from to : End) → count_by (leads from to) (seen (take l.entry-index l.entries)) ≤ 1;
}
