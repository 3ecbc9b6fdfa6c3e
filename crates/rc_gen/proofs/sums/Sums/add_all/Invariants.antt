-- The capacitances so far are added.
use Rattle.std.proofs.Common.{take}
use Rattle.rc_gen.specs.Adding.{Adds}
use Rattle.rc_gen.proofs.sums.Sums.add_all.Given as goal

abbrev pub invariant-loop-cap : goal.invariant-loop-cap
invariant-loop-cap l = Adds l.fn.self l.self (take l.cap-index l.caps)
