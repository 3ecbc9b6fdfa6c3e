use Rattle.std.proofs.Common.{take}
use Rattle.rc_tally.specs.Tallies.{Gathers}
use Rattle.rc_tally.proofs.tally.Tally.gather.Given as goal

-- the tally has what the entries so far have
abbrev pub invariant-loop-entry : goal.invariant-loop-entry
invariant-loop-entry g l = Gathers g.V.Amount.adding (take l.entry-index l.entry-items) l.tally
