-- Tiles that come into a column, and that leave it.
use Rattle.std.specs.Prelude.{◌≡◌, ◌&&◌, ℕ, ℤ, Bool, not, List}
use Rattle.std.specs.List.{sum_by}
use Rattle.rc_geom.specs.declared.tile.Tile.{Tile}
use Rattle.rc_geom.specs.Plane.{plane_of}
use Rattle.rc_geom.specs.Line.{line_of}
use Rattle.rc_column.specs.declared.ends.Mark.{Mark}
use Rattle.rc_column.specs.Runs.{crosses_line}

-- both lists have the same tiles, each as often
abbrev pub SameTiles : List Tile → List Tile → Type 0
SameTiles a b = (f : Tile → ℕ) → sum_by f a ≡ sum_by f b

-- the tile has squares on the line
abbrev pub is_on : Mark → Tile → Bool
is_on line t = crosses_line line.axis line.at t

-- it has some on the one line, and none on the other
abbrev pub leaves : Mark → Mark → Tile → Bool
leaves line next t = is_on line t && not (is_on next t)

-- on all layers a line is the same of some tiles as of all
abbrev pub ShowsLines : List Tile → List Tile → ℕ → ℤ → Type 0
ShowsLines some all axis at = (layer : ℕ) → line_of (plane_of some) layer axis at ≡ line_of (plane_of all) layer axis at
