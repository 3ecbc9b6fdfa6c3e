use Rattle.std.proofs.Common.{◌≡◌, ◌+ℤ◌, pos, take}
use Rattle.std.specs.Prelude.{filter}
use Rattle.rc_geom.specs.Sums.{first_line}
use Rattle.rc_squares.specs.Crossing.{crosses}
use Rattle.rc_squares.proofs.crossing.crossing.Given as goal

-- found are those of the tiles so far that cross the line
abbrev pub invariant-loop-tile : goal.invariant-loop-tile
invariant-loop-tile g l = l.found ≡ filter (crosses g.row.A (first_line g.row.A l.area +ℤ pos l.line)) (take l.tile-index l.tiles)
