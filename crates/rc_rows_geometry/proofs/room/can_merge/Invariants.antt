use Rattle.std.proofs.Common.{take}
use Rattle.std.specs.Prelude.{All, IfSome}
use Rattle.rc_tally.specs.Tallies.{entry_at}
use Rattle.rc_rows_geometry.specs.Room.{Fits}
use Rattle.rc_rows_geometry.proofs.room.can_merge.Given as goal

abbrev pub invariant-loop-entry : goal.invariant-loop-entry
invariant-loop-entry l = All (λ d. IfSome (entry_at l.b d.key) (Fits d.count d.value)) (take l.entry-index l.entry-items)
