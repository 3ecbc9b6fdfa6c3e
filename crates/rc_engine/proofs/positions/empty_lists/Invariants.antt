-- One list for each room so far.
use Rattle.std.proofs.Common.{◌≡◌, [], replicate}
use Rattle.rc_engine.proofs.positions.empty_lists.Given as goal

abbrev pub invariant-loop-room : goal.invariant-loop-room
invariant-loop-room l = l.lists.items ≡ replicate l.room-index []
