use Rattle.std.proofs.Common.{◌≡◌, length}
use Rattle.rc_windows.proofs.index.listed_rooms.Given as goal

abbrev pub invariant-loop-tile : goal.invariant-loop-tile
invariant-loop-tile l = length l.counts.items ≡ length l.list
