-- The windows so far.
use Rattle.std.proofs.Common.{◌≡◌, map, take}
use Rattle.rc_engine.specs.Windows.{window_of}
use Rattle.rc_engine.proofs.touching.windows_at.Given as goal

abbrev pub invariant-loop-k : goal.invariant-loop-k
invariant-loop-k l = l.windows ≡ map (window_of l.grid) (take l.k-index l.list)
