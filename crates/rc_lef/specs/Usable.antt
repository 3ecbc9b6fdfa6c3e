-- Which vias can be used, and what stands in them.
use Rattle.std.specs.Prelude.{ℕ, ℤ, pos, negsuc, int_lt, ◌+ℤ◌, ◌-ℤ◌, ◌*ℤ◌, ◌*◌, ◌-◌, ◌≤◌, ◌<◌, ◌^◌, ◌==◌, ◌&&◌, ◌||◌, nat_lt, min, max, unsigned_abs, Bool, true, false, Option, Some, None, List, [], ◌∷◌, length, if◌then◌else◌}
use Rattle.std.specs.Int.{int_div_euclid}
use Rattle.std.specs.List.{fold, list_all, filter_map}
use Rattle.rc_geom.specs.declared.rect.Rect.{Rect}
use Rattle.rc_geom.specs.Bounds.{is_within}
use Rattle.rc_lef.specs.declared.tech.LayerKind.{LayerKind}
use Rattle.rc_lef.specs.declared.tech.LayerKind.TheVariants as kinds
use Rattle.rc_lef.specs.declared.usable.Array.{Array}
use Rattle.rc_lef.specs.declared.usable.Span.{Span}
use Rattle.rc_lef.specs.declared.via.Via.{Via}

-- a via that can't be used has no pads
abbrev pub unusable : List ℕ → Via
unusable name = record { name = name; usable = false; lower = 0; cut = 0; upper = 0; cuts = 0; pads = [] }

-- ---- pads lie on two layers

abbrev pub lowest : List (ℕ × Rect) → ℕ
lowest pads = fold (λ n (pad : ℕ × Rect). min n pad.0) (2 ^ 8 - 1) pads

abbrev pub highest : List (ℕ × Rect) → ℕ
highest pads = fold (λ n (pad : ℕ × Rect). max n pad.0) 0 pads

-- exactly two layers have pads
abbrev pub joins_two : List (ℕ × Rect) → Bool
joins_two pads = nat_lt (lowest pads) (highest pads) && list_all (λ pad. (pad.0 == lowest pads) || (pad.0 == highest pads)) pads

-- ---- a via by its pads, the layers of its cuts, and how many cuts it has. It can be used where its cuts lie on one layer,
-- its pads on two, and no pad lies too far out; what else may bar it is told by `allowed`

abbrev pub first_cut : List ℕ → Option ℕ
first_cut [] = None
first_cut (cut ∷ cuts) = Some cut

abbrev pub can_be_used : Bool → List (ℕ × Rect) → List ℕ → ℕ → Bool
can_be_used allowed pads cuts cut = (allowed && list_all (λ other. other == cut) cuts) && (joins_two pads && list_all (λ pad. is_within pad.1) pads)

abbrev pub used_via : List ℕ → List (ℕ × Rect) → ℕ → ℕ → Via
used_via name pads cut count = record { name = name; usable = true; lower = lowest pads; cut = cut; upper = highest pads; cuts = count; pads = pads }

abbrev pub with_cut : List ℕ → Bool → List (ℕ × Rect) → List ℕ → ℕ → Option ℕ → Via
with_cut name allowed pads cuts count None = unusable name
with_cut name allowed pads cuts count (Some cut) = if can_be_used allowed pads cuts cut then used_via name pads cut count else unusable name

unfoldable pub via_of : List ℕ → Bool → List (ℕ × Rect) → List ℕ → ℕ → Via
via_of name allowed pads cuts count = with_cut name allowed pads cuts count (first_cut cuts)

-- ---- a via by its rectangles

abbrev pub pad_of : LayerKind × Rect → Option (ℕ × Rect)
pad_of (kinds.Routing number, rect) = Some (number, rect)
pad_of (_, rect) = None

abbrev pub cut_of : LayerKind × Rect → Option ℕ
cut_of (kinds.Cut number, rect) = Some number
cut_of (_, rect) = None

abbrev pub is_metal_or_cut : LayerKind → Bool
is_metal_or_cut kinds.Other = false
is_metal_or_cut _ = true

-- each rectangle on a routing layer is a pad, and each on a cut layer a cut; there are no others. (There are never as many
-- cuts as the bound on their number: a file is too short for that.)
unfoldable pub drawn_via : List ℕ → Bool → List (LayerKind × Rect) → Via
drawn_via name plain rects =
    via_of name (plain && list_all (λ rect. is_metal_or_cut rect.0) rects) (filter_map pad_of rects) (filter_map cut_of rects) (min (length (filter_map cut_of rects)) (2 ^ 32 - 1))

-- ---- a via by the numbers of its array of cuts

-- what the numbers of LEF and of a design never pass: a number of a design is within 2^29, and there are at most 20000 units of
-- the technology in one of the design
pub record IsModest (a : Array) : Type 0 where
  pub cut_x : unsigned_abs a.cut_x ≤ 2 ^ 44
  pub cut_y : unsigned_abs a.cut_y ≤ 2 ^ 44
  pub space_x : unsigned_abs a.space_x ≤ 2 ^ 44
  pub space_y : unsigned_abs a.space_y ≤ 2 ^ 44
  pub first_x : unsigned_abs a.first_x ≤ 2 ^ 44
  pub first_y : unsigned_abs a.first_y ≤ 2 ^ 44
  pub third_x : unsigned_abs a.third_x ≤ 2 ^ 44
  pub third_y : unsigned_abs a.third_y ≤ 2 ^ 44
  pub rows : unsigned_abs a.rows < 2 ^ 16
  pub columns : unsigned_abs a.columns < 2 ^ 16

-- how long so many cuts are, with the spaces between them
abbrev pub extent : ℤ → ℤ → ℤ → ℤ
extent count size space = count *ℤ size +ℤ (count -ℤ pos 1) *ℤ space

-- half of a length, rounded down, lies below the origin
abbrev pub from_below : ℤ → ℤ
from_below length = pos 0 -ℤ int_div_euclid length (pos 2)

abbrev pub coordinate : ℤ → Option ℤ
coordinate z = if int_lt z (negsuc (2 ^ 29 - 1)) || int_lt (pos (2 ^ 29)) z then None else Some z

abbrev pub both_ends : Option ℤ → Option ℤ → Option Span
both_ends (Some low) (Some high) = Some (record { low = low; high = high })
both_ends _ _ = None

-- where a length begins and ends whose middle is the origin, with that much more on each side
abbrev pub near_ends : ℤ → ℤ → Option Span
near_ends length more = both_ends (coordinate (from_below length -ℤ more)) (coordinate (from_below length +ℤ length +ℤ more))

abbrev pub rect_of_ends : Option Span → Option Span → Option Rect
rect_of_ends (Some along) (Some across) = Some (record { x0 = along.low; y0 = across.low; x1 = along.high; y1 = across.high })
rect_of_ends _ _ = None

-- the rectangle of all cuts, the middle of which is the origin, with that much more on each side; none where it lies too far out
unfoldable pub near_array : Array → ℤ → ℤ → Option Rect
near_array a more_x more_y = rect_of_ends (near_ends (extent a.columns a.cut_x a.space_x) more_x) (near_ends (extent a.rows a.cut_y a.space_y) more_y)

-- the pad on the lower layer stands first
abbrev pub in_order : ℕ × Rect → ℕ × Rect → List (ℕ × Rect)
in_order p q = if nat_lt q.0 p.0 then q ∷ p ∷ [] else p ∷ q ∷ []

abbrev pub cuts_in : Array → ℕ
cuts_in a = unsigned_abs a.rows * unsigned_abs a.columns

abbrev pub made_of : List ℕ → Bool → ℕ → ℕ → ℕ → ℕ → Option Rect → Option Rect → Via
made_of name plain first cut third count (Some below) (Some above) = via_of name plain (in_order (first, below) (third, above)) (cut ∷ []) count
made_of name plain first cut third count _ _ = unusable name

-- the first and the third layer are routing layers, and the second is a cut layer; no pad lies too far out
unfoldable pub made_via : List ℕ → Bool → LayerKind → LayerKind → LayerKind → Array → Via
made_via name plain (kinds.Routing first) (kinds.Cut cut) (kinds.Routing third) a = made_of name plain first cut third (cuts_in a) (near_array a a.first_x a.first_y) (near_array a a.third_x a.third_y)
made_via name plain _ _ _ a = unusable name
