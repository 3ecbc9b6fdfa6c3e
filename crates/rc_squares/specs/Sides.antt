-- What a unit square has on its sides.
use Rattle.std.specs.Prelude.{ℕ, zero, suc, ℤ, Bool, true, false, not, Option, List}
use Rattle.rc_geom.specs.declared.rect.Pt.{Pt}
use Rattle.rc_geom.specs.declared.tile.Side.{Side}
use Rattle.rc_geom.specs.declared.tile.Side.TheVariants.{Left, Right, Down, Up}
use Rattle.rc_geom.specs.Plane.{Plane}
use Rattle.rc_geom.specs.Line.{Ray, ray, line_of, square_of, at_distance, axis_of, is_up}
use Rattle.rc_geom.specs.Faces.{Face, face_at}
use Rattle.rc_geom.specs.Rates.{Rates}
use Rattle.rc_geom.specs.Parts.{Part}
use Rattle.rc_geom.specs.Extraction.{parts_of}

-- where the line of an axis through a square stands, and the square's place on it
abbrev pub line_at : ℕ → Pt → ℤ
line_at zero p = p.y
line_at (suc _) p = p.x

abbrev pub place_at : ℕ → Pt → ℤ
place_at zero p = p.x
place_at (suc _) p = p.y

-- the square at a distance on a side, or away from it
abbrev pub square_at : ℕ → Bool → Pt → ℕ → Pt
square_at axis up p k = square_of axis (line_at axis p) (at_distance up (place_at axis p) k)

-- what stands at each distance on a side of a square, and away from that side
abbrev pub ahead : Plane → ℕ → Side → Pt → Ray
ahead plane layer side p = ray (is_up side) (line_of plane layer (axis_of side) (line_at (axis_of side) p)) (place_at (axis_of side) p)

abbrev pub behind : Plane → ℕ → Side → Pt → Ray
behind plane layer side p = ray (not (is_up side)) (line_of plane layer (axis_of side) (line_at (axis_of side) p)) (place_at (axis_of side) p)

-- the face of a square on a side
abbrev pub face_on : ℕ → ℕ → Plane → ℕ → Side → Pt → Option Face
face_on cap reach plane layer side p = face_at cap reach (line_of plane layer (axis_of side) (line_at (axis_of side) p)) (is_up side) (place_at (axis_of side) p)

-- what that face adds
abbrev pub parts_on : Plane → Rates ℕ → ℕ → Side → Pt → List (Part ℕ)
parts_on plane rates layer side p = parts_of plane rates (axis_of side) layer (line_at (axis_of side) p) (place_at (axis_of side) p) (is_up side)

-- the side that is the direction of an axis
abbrev pub side_of : ℕ → Bool → Side
side_of zero false = Left
side_of zero true = Right
side_of (suc _) false = Down
side_of (suc _) true = Up
