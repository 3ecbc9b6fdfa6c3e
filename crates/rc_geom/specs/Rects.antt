-- Rectangles, and the unit squares and points in them. A unit square is named by its lower left corner.
use Rattle.std.specs.Prelude.{ℕ, zero, suc, ℤ, ◌+ℤ◌, ◌-ℤ◌, pos, negsuc, int_lt, int_le, ◌≤ℤ◌, ◌<ℤ◌, ◌^◌, ◌+◌, ◌&&◌, Bool, IsTrue}
use Rattle.std.specs.Int.{int_max, int_min}
use Rattle.rc_geom.specs.declared.rect.Pt.{Pt}
use Rattle.rc_geom.specs.declared.rect.Rect.{Rect}

-- x of a point, or y
abbrev pub coordinate : ℕ → Pt → ℤ
coordinate zero p = p.x
coordinate (suc _) p = p.y

-- the unit square lies in the rectangle
abbrev pub covers : Rect → Pt → Bool
covers r p = int_le r.x0 p.x && int_lt p.x r.x1 && (int_le r.y0 p.y && int_lt p.y r.y1)

-- the point lies in the closed rectangle, edges and corners included
abbrev pub touches : Rect → Pt → Bool
touches r p = int_le r.x0 p.x && int_le p.x r.x1 && (int_le r.y0 p.y && int_le p.y r.y1)

-- the greater of the lower ends, and the lesser of the upper ones
abbrev pub common_part : Rect → Rect → Rect
common_part a b = record { x0 = int_max a.x0 b.x0; y0 = int_max a.y0 b.y0; x1 = int_min a.x1 b.x1; y1 = int_min a.y1 b.y1 }

-- its ends leave room for a unit square, or for a point
abbrev pub has_squares : Rect → Bool
has_squares r = int_lt r.x0 r.x1 && int_lt r.y0 r.y1

abbrev pub has_points : Rect → Bool
has_points r = int_le r.x0 r.x1 && int_le r.y0 r.y1

-- some unit square lies in both
abbrev pub SharesSquare : Rect → Rect → Type 0
SharesSquare a b = (p : Pt) × IsTrue (covers a p) × IsTrue (covers b p)

-- no point lies in both closed rectangles
abbrev pub IsApart : Rect → Rect → Type 0
IsApart a b = (p : Pt) → IsTrue (touches a p) → ¬ IsTrue (touches b p)

-- the point lies in both closed rectangles, and no common point is further left or further down
pub record IsLowestCommon (a b : Rect) (p : Pt) : Type 0 where
  pub first : IsTrue (touches a p)
  pub second : IsTrue (touches b p)
  pub left : (q : Pt) → IsTrue (touches a q) → IsTrue (touches b q) → p.x ≤ℤ q.x
  pub down : (q : Pt) → IsTrue (touches a q) → IsTrue (touches b q) → p.y ≤ℤ q.y

-- each square of the inner rectangle lies in the outer one
pub record IsInside (inner outer : Rect) : Type 0 where
  pub left : outer.x0 ≤ℤ inner.x0
  pub right : inner.x1 ≤ℤ outer.x1
  pub below : outer.y0 ≤ℤ inner.y0
  pub above : inner.y1 ≤ℤ outer.y1

-- the rectangle with that much more on each side
abbrev pub grow : Rect → ℕ → Rect
grow r by = record { x0 = r.x0 -ℤ pos by; y0 = r.y0 -ℤ pos by; x1 = r.x1 +ℤ pos by; y1 = r.y1 +ℤ pos by }

-- its coordinates are within 2^29 + 1 of 0
pub record IsNear (p : Pt) : Type 0 where
  pub left : negsuc (2 ^ 29) ≤ℤ p.x
  pub right : p.x ≤ℤ pos (2 ^ 29 + 1)
  pub below : negsuc (2 ^ 29) ≤ℤ p.y
  pub above : p.y ≤ℤ pos (2 ^ 29 + 1)

-- its ends are in order, and within 2^29 + 1 of 0
pub record IsNearRect (r : Rect) : Type 0 where
  pub left : negsuc (2 ^ 29) ≤ℤ r.x0
  pub wide : r.x0 <ℤ r.x1
  pub right : r.x1 ≤ℤ pos (2 ^ 29 + 1)
  pub below : negsuc (2 ^ 29) ≤ℤ r.y0
  pub high : r.y0 <ℤ r.y1
  pub above : r.y1 ≤ℤ pos (2 ^ 29 + 1)

-- its ends are within 2^30 + 2 of 0
pub record IsWithinReach (r : Rect) : Type 0 where
  pub left : negsuc (2 ^ 30 + 1) ≤ℤ r.x0
  pub right : r.x1 ≤ℤ pos (2 ^ 30 + 2)
  pub below : negsuc (2 ^ 30 + 1) ≤ℤ r.y0
  pub above : r.y1 ≤ℤ pos (2 ^ 30 + 2)
