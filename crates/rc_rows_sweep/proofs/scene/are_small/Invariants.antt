use Rattle.std.proofs.Common.{All, take}
use Rattle.rc_rows_sweep.specs.Scenes.{IsSmall}
use Rattle.rc_rows_sweep.proofs.scene.are_small.Given as goal

abbrev pub invariant-loop-entry : goal.invariant-loop-entry
invariant-loop-entry l = All IsSmall (take l.entry-index l.entries)
