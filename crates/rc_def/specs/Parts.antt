-- Lists of things with names, and rectangles of numbers.
use Rattle.std.specs.Prelude.{◌||◌, ◌++◌, ℕ, ℤ, Bool, Option, Some, None, List, [], ◌∷◌, if◌then◌else◌}
use Rattle.std.specs.Int.{int_min, int_max}
use Rattle.std.specs.Ordering.{int_eq}
use Rattle.rc_geom.specs.declared.rect.Pt.{Pt}
use Rattle.rc_geom.specs.declared.rect.Rect.{Rect}
use Rattle.rc_keys.specs.Tables.{has_name}
use Rattle.rc_def.specs.declared.draft.LayerWidth.{LayerWidth}

-- a thing of a name that is there leaves nothing
abbrev pub with_new : {T : Type 0} → (T → List ℕ) → List T → T → List T
with_new called things item = if has_name called (called item) things then things else things ++ item ∷ []

-- the first of two values that is there
abbrev pub first : {A : Type 0} → Option A → Option A → Option A
first (Some before) later = Some before
first None later = later

abbrev pub is_flat : Pt → Pt → Bool
is_flat p q = int_eq p.x q.x || int_eq p.y q.y

abbrev pub box_between : Pt → Pt → Rect
box_between p q = record { x0 = int_min p.x q.x; y0 = int_min p.y q.y; x1 = int_max p.x q.x; y1 = int_max p.y q.y }

-- the corners of a rectangle come in any order; one of no area is left out
abbrev pub rect_between : Pt → Pt → Option Rect
rect_between p q = if is_flat p q then None else Some (box_between p q)

abbrev pub rect_of : List ℤ → Option Rect
rect_of (x ∷ y ∷ x' ∷ y' ∷ []) = rect_between (record { x = x; y = y }) (record { x = x'; y = y' })
rect_of _ = None

abbrev pub with_rect : List ℕ → Option Rect → List (List ℕ × Rect) → List (List ℕ × Rect)
with_rect layer (Some rect) rects = rects ++ (layer, rect) ∷ []
with_rect layer None rects = rects

abbrev pub pair_of : LayerWidth → List ℕ × ℤ
pair_of width = (width.layer, width.width)
