-- Lines: a row of unit squares, or a column of them, on one layer; and what a direction meets on a line.
use Rattle.std.specs.Prelude.{ℕ, zero, suc, ℤ, pos, ◌+ℤ◌, ◌-ℤ◌, neg_ℤ, Bool, true, false, Option}
use Rattle.rc_geom.specs.declared.rect.Pt.{Pt}
use Rattle.rc_geom.specs.declared.tile.Side.{Side}
use Rattle.rc_geom.specs.declared.tile.Side.TheVariants.{Left, Right, Down, Up}
use Rattle.rc_geom.specs.Plane.{Metal, Plane}

-- the metal at each place of a line
abbrev pub Line : Type 0
Line = ℤ → Option Metal

-- the square at a place of a line: a row runs along x (axis 0), a column along y (axis 1)
abbrev pub square_of : ℕ → ℤ → ℤ → Pt
square_of zero at along = record { x = along; y = at }
square_of (suc _) at along = record { x = at; y = along }

-- the row or column of a layer that stands at a coordinate
abbrev pub line_of : Plane → ℕ → ℕ → ℤ → Line
line_of plane layer axis at along = plane layer (square_of axis at along)

-- the line read the other way round
abbrev pub mirror : Line → Line
mirror line z = line (neg_ℤ z)

-- the place at a distance, up the line or down
abbrev pub at_distance : Bool → ℤ → ℕ → ℤ
at_distance true z k = z +ℤ pos k
at_distance false z k = z -ℤ pos k

-- the metal at each distance from a place in one direction, and that of a line
abbrev pub Ray : Type 0
Ray = ℕ → Option Metal

abbrev pub ray : Bool → Line → ℤ → Ray
ray up line z k = line (at_distance up z k)

-- a side's axis, and whether its direction is up
abbrev pub axis_of : Side → ℕ
axis_of Left = 0
axis_of Right = 0
axis_of Down = 1
axis_of Up = 1

abbrev pub is_up : Side → Bool
is_up Left = false
is_up Right = true
is_up Down = false
is_up Up = true
