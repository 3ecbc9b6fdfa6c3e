-- What the faces of single squares add to a key.
use Rattle.std.specs.Prelude.{ℕ, ℤ, pos, ◌+ℤ◌}
use Rattle.rc_geom.specs.declared.key.Key.{Key}
use Rattle.rc_geom.specs.declared.rect.Pt.{Pt}
use Rattle.rc_geom.specs.declared.rect.Rect.{Rect}
use Rattle.rc_geom.specs.declared.tile.Side.{Side}
use Rattle.rc_geom.specs.Plane.{Plane}
use Rattle.rc_geom.specs.Line.{axis_of, is_up}
use Rattle.rc_geom.specs.Faces.{Face}
use Rattle.rc_geom.specs.Rates.{Rates, rate_of}
use Rattle.rc_geom.specs.Parts.{parts, worth_at}
use Rattle.rc_geom.specs.Sums.{Adding, total, both_directions, extent, first_line, end_line, first_place, end_place}
use Rattle.rc_geom.specs.Extraction.{parts_of}
use Rattle.rc_tally.specs.Tallies.{Sum, sums}
use Rattle.rc_squares.specs.Sides.{line_at, place_at}
use Rattle.rc_sums.specs.Entering.{one}

-- a face over a square
abbrev pub face_added : {V : Type 0} → Adding V → Plane → Rates V → ℕ → Pt → Face → Key → Sum V
face_added adding plane rates layer p face q = worth_at (sums adding) one q (parts face (rate_of rates plane layer p face))

-- the face on a side of a square, nothing where there is none
abbrev pub side_added : {V : Type 0} → Adding V → Plane → Rates V → ℕ → Side → Pt → Key → Sum V
side_added adding plane rates layer side p q =
    worth_at (sums adding) one q (parts_of plane rates (axis_of side) layer (line_at (axis_of side) p) (place_at (axis_of side) p) (is_up side))

-- the faces of a place of a line, in both directions
unfoldable pub place_added : {V : Type 0} → Adding V → Plane → Rates V → ℕ → ℕ → ℤ → ℤ → Key → Sum V
place_added adding plane rates axis layer at along q =
    both_directions (sums adding) (λ up. worth_at (sums adding) one q (parts_of plane rates axis layer at along up))

-- the first places of a line, the first lines of a rectangle, and the first layers
unfoldable pub places_added : {V : Type 0} → Adding V → Plane → Rates V → ℕ → ℕ → ℤ → ℤ → ℕ → Key → Sum V
places_added adding plane rates axis layer at low n q = total (sums adding) n (λ k. place_added adding plane rates axis layer at (low +ℤ pos k) q)

unfoldable pub lines_added : {V : Type 0} → Adding V → Plane → Rates V → ℕ → ℕ → Rect → ℕ → Key → Sum V
lines_added adding plane rates axis layer r n q =
    total (sums adding) n (λ j. places_added adding plane rates axis layer (first_line axis r +ℤ pos j) (first_place axis r) (extent (first_place axis r) (end_place axis r)) q)

unfoldable pub layers_added : {V : Type 0} → Adding V → Plane → Rates V → ℕ → Rect → ℕ → Key → Sum V
layers_added adding plane rates axis r n q =
    total (sums adding) n (λ layer. lines_added adding plane rates axis layer r (extent (first_line axis r) (end_line axis r)) q)
