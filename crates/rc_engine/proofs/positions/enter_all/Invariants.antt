-- The entries so far are brought.
use Rattle.std.proofs.Common.{[], take, get_or}
use Rattle.rc_engine.specs.Brought.{Brings}
use Rattle.rc_engine.proofs.positions.enter_all.Given as goal

abbrev pub invariant-loop-place : goal.invariant-loop-place
invariant-loop-place l = Brings l.tallies l.fn.lists.items l.lists.items (take l.place (get_or l.tallies l.window []))
