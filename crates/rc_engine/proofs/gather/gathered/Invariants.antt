-- The entries of the windows so far.
use Rattle.std.proofs.Common.{◌≡◌, [], take, get_or}
use Rattle.std.specs.List.{flat_map}
use Rattle.rc_engine.specs.Brought.{owned}
use Rattle.rc_engine.proofs.gather.gathered.Given as goal

abbrev pub invariant-loop-k : goal.invariant-loop-k
invariant-loop-k l = l.list ≡ flat_map (λ k. owned l.net (get_or l.tallies k [])) (take l.k-index l.windows)
