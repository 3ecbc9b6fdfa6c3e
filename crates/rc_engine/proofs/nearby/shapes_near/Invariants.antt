-- The shapes of the windows so far.
use Rattle.std.proofs.Common.{◌≡◌, [], take, get_or}
use Rattle.std.specs.List.{flat_map}
use Rattle.rc_engine.specs.Nearby.{shapes_beside}
use Rattle.rc_engine.proofs.nearby.shapes_near.Given as goal

abbrev pub invariant-loop-k : goal.invariant-loop-k
invariant-loop-k l = l.shapes ≡ flat_map (λ k. shapes_beside l.layout l.number (get_or l.lists k [])) (take l.k-index l.windows)
