use Rattle.std.proofs.Common.{◌≡◌, take}
use Rattle.std.specs.Prelude.{filter}
use Rattle.rc_column.specs.Runs.{crosses_line}
use Rattle.rc_bars.proofs.strip.cross.Given as goal

abbrev pub invariant-loop-tile : goal.invariant-loop-tile
invariant-loop-tile l = l.cuts.items ≡ filter (crosses_line l.line.axis l.line.at) (take l.tile-index l.tiles)
