-- The capacitances of the entries so far.
use Rattle.std.proofs.Common.{◌≡◌, take, map}
use Rattle.rc_engine.specs.OwnEntries.{entry_cap}
use Rattle.rc_engine.proofs.cap.caps.Given as goal

abbrev pub invariant-loop-entry : goal.invariant-loop-entry
invariant-loop-entry l = l.caps ≡ map entry_cap (take l.entry-index l.entries)
