use Rattle.std.proofs.Common.{All, take}
use Rattle.rc_rows_sweep.specs.Scenes.{Agree}
use Rattle.rc_rows_sweep.proofs.scene.all_agree.Given as goal

abbrev pub invariant-loop-other : goal.invariant-loop-other
invariant-loop-other l = All (λ t. Agree t l.tile) (take l.other-index l.tiles)
