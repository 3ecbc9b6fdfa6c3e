-- The sum of those so far.
use Rattle.std.proofs.Common.{◌≡◌, take}
use Rattle.rc_engine.specs.Extraction.{total_of}
use Rattle.rc_engine.proofs.net.total_of.Given as goal

abbrev pub invariant-loop-cap : goal.invariant-loop-cap
invariant-loop-cap l = l.total ≡ total_of (take l.cap-index l.caps)
