-- The keys of the tallies so far rise.
use Rattle.std.proofs.Common.{take}
use Rattle.std.specs.Prelude.{All}
use Rattle.rc_tally.specs.Tallies.{IsRising}
use Rattle.rc_engine.proofs.sweeping.rise.Given as goal

abbrev pub invariant-loop-tally : goal.invariant-loop-tally
invariant-loop-tally l = All IsRising (take l.tally-index l.tallies)
