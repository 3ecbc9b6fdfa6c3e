-- The entries of the net so far.
use Rattle.std.proofs.Common.{◌≡◌, ◌++◌, take}
use Rattle.rc_engine.specs.Brought.{owned}
use Rattle.rc_engine.proofs.gather.gather_from.Given as goal

abbrev pub invariant-loop-entry : goal.invariant-loop-entry
invariant-loop-entry l = l.list ≡ l.initial.list ++ owned l.net (take l.entry-index l.entries)
