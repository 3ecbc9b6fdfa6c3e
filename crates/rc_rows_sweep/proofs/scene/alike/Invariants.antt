use Rattle.std.proofs.Common.{◌≡◌, All, take}
use Rattle.rc_column.specs.Runs.{crosses_line}
use Rattle.rc_rows_sweep.proofs.scene.alike.Given as goal

abbrev pub invariant-loop-tile : goal.invariant-loop-tile
invariant-loop-tile l = All (λ t. crosses_line l.other.axis l.other.at t ≡ crosses_line l.line.axis l.line.at t) (take l.tile-index l.tiles)
