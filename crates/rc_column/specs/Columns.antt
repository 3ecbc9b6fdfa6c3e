-- A column: the lines of all layers that stand at one coordinate of an axis.
use Rattle.std.specs.Prelude.{ℕ, ℤ, List}
use Rattle.rc_geom.specs.declared.rect.Pt.{Pt}
use Rattle.rc_geom.specs.declared.tile.Tile.{Tile}
use Rattle.rc_geom.specs.Plane.{plane_of}
use Rattle.rc_geom.specs.Line.{Line, line_of, square_of}
use Rattle.rc_column.specs.declared.ends.Mark.{Mark}

-- the tiles whose plane it shows, and which lines it has
pub record Column : Type 0 where
  pub tiles : List Tile
  pub line : Mark

-- the line of a layer
abbrev pub layer_line : Column → ℕ → Line
layer_line column layer = line_of (plane_of column.tiles) layer column.line.axis column.line.at

-- the unit square at a place, the same on all layers
abbrev pub square_at : Column → ℤ → Pt
square_at column along = square_of column.line.axis column.line.at along
