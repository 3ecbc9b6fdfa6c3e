-- The windows so far.
use Rattle.std.proofs.Common.{◌≡◌, map}
use Rattle.std.specs.List.{range_with_len}
use Rattle.rc_engine.specs.Windows.{window_of}
use Rattle.rc_engine.proofs.sweeping.windows.Given as goal

abbrev pub invariant-loop-k : goal.invariant-loop-k
invariant-loop-k l = l.windows ≡ map (window_of l.grid) (range_with_len 0 l.k)
