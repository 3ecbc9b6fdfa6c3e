-- There are counts for all nets; the entries of the windows so far are brought.
use Rattle.std.proofs.Common.{◌≡◌, [], length, take, replicate}
use Rattle.rc_engine.specs.Brought.{entries_of, Brings}
use Rattle.rc_engine.proofs.positions.positions_of.Given as goal

abbrev pub invariant-loop-tally : goal.invariant-loop-tally
invariant-loop-tally l = length l.counts.items ≡ l.nets

abbrev pub invariant-loop-window : goal.invariant-loop-window
invariant-loop-window l = Brings l.tallies (replicate l.nets []) l.lists.items (entries_of (take l.window l.tallies))
