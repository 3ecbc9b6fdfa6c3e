-- What the parts of a face, of a square and of lines add to one key, each part by its worth.
use Rattle.std.specs.Prelude.{ℕ, ℤ, pos, ◌+◌, ◌+ℤ◌, false, true, Option, Some, None, if◌then◌else◌}
use Rattle.rc_geom.specs.declared.rect.Pt.{Pt}
use Rattle.rc_geom.specs.declared.rect.Rect.{Rect}
use Rattle.rc_geom.specs.declared.key.Key.{Key}
use Rattle.rc_geom.specs.declared.tile.Side.{Side}
use Rattle.rc_geom.specs.Plane.{Plane}
use Rattle.rc_geom.specs.Line.{square_of}
use Rattle.rc_geom.specs.Rates.{Rates}
use Rattle.rc_geom.specs.Parts.{Part, same_key, worth_at}
use Rattle.rc_geom.specs.Sums.{numbers, total, extent, first_line, end_line, first_place, end_place}
use Rattle.rc_squares.specs.Sides.{parts_on, side_of}

-- a part is worth one, or its amount
abbrev pub one : ℕ → ℕ
one _ = 1

abbrev pub amount : ℕ → ℕ
amount v = v

-- a part, where there is one
abbrev pub part_worth : (ℕ → ℕ) → Key → Option (Part ℕ) → ℕ
part_worth worth key None = 0
part_worth worth key (Some part) = if same_key part.key key then worth part.amount else 0

-- the face on a side of a square, and the faces of both directions of an axis
unfoldable pub side_worth : (ℕ → ℕ) → Plane → Rates ℕ → ℕ → Key → Side → Pt → ℕ
side_worth worth plane rates layer key side p = worth_at numbers worth key (parts_on plane rates layer side p)

unfoldable pub square_worth : (ℕ → ℕ) → Plane → Rates ℕ → ℕ → Key → ℕ → Pt → ℕ
square_worth worth plane rates layer key axis p =
    side_worth worth plane rates layer key (side_of axis false) p + side_worth worth plane rates layer key (side_of axis true) p

-- the first squares of a line in a rectangle, its first lines, and the first layers
abbrev pub line_worth : (ℕ → ℕ) → Plane → Rates ℕ → ℕ → Key → ℕ → Rect → ℤ → ℕ → ℕ
line_worth worth plane rates layer key axis r at n = total numbers n (λ k. square_worth worth plane rates layer key axis (square_of axis at (first_place axis r +ℤ pos k)))

abbrev pub lines_worth : (ℕ → ℕ) → Plane → Rates ℕ → ℕ → Key → ℕ → Rect → ℕ → ℕ
lines_worth worth plane rates layer key axis r n = total numbers n (λ j. line_worth worth plane rates layer key axis r (first_line axis r +ℤ pos j) (extent (first_place axis r) (end_place axis r)))

abbrev pub layers_worth : (ℕ → ℕ) → Plane → Rates ℕ → Key → ℕ → Rect → ℕ → ℕ
layers_worth worth plane rates key axis r n = total numbers n (λ layer. lines_worth worth plane rates layer key axis r (extent (first_line axis r) (end_line axis r)))
