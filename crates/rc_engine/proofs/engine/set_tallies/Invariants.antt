-- The last tallies are set, and the first ones are left.
use Rattle.std.proofs.Common.{◌≤◌, length}
use Rattle.rc_engine.proofs.Placing.{ArePut, AreFirst}
use Rattle.rc_engine.proofs.engine.set_tallies.Given as goal

abbrev pub invariant-loop-tally : goal.invariant-loop-tally
invariant-loop-tally l = record {
  put : ArePut l.list l.initial.rest (length l.rest) l.initial.tallies l.tallies;
  first : AreFirst l.initial.rest l.rest;
  few : length l.rest ≤ length l.list;
}

abbrev pub decreases-loop-tally : goal.decreases-loop-tally
decreases-loop-tally l = length l.rest
