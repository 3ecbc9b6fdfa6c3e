-- The eight orientations.
use Rattle.std.specs.Prelude.{◌≡◌, ℤ, pos, negsuc, ◌-◌, ◌+ℤ◌, ◌-ℤ◌, ◌≤ℤ◌, ◌^◌, ◌↔◌, true, IsTrue}
use Rattle.std.specs.Int.{int_max, int_min}
use Rattle.rc_geom.specs.declared.rect.Pt.{Pt}
use Rattle.rc_geom.specs.declared.rect.Rect.{Rect}
use Rattle.rc_geom.specs.declared.orient.Orient.{Orient}
use Rattle.rc_geom.specs.declared.orient.Orient.TheVariants as turns
use Rattle.rc_geom.specs.Rects.{covers, has_squares}

-- where a point of a cell of that width and height comes to when the cell is turned, or mirrored and turned, and put back
-- with its lower left corner at the origin
abbrev pub placed : Orient → ℤ → ℤ → Pt → Pt
placed turns.N w h p = p
placed turns.S w h p = record { x = w -ℤ p.x; y = h -ℤ p.y }
placed turns.W w h p = record { x = h -ℤ p.y; y = p.x }
placed turns.E w h p = record { x = p.y; y = w -ℤ p.x }
placed turns.FN w h p = record { x = w -ℤ p.x; y = p.y }
placed turns.FS w h p = record { x = p.x; y = h -ℤ p.y }
placed turns.FW w h p = record { x = p.y; y = p.x }
placed turns.FE w h p = record { x = h -ℤ p.y; y = w -ℤ p.x }

-- the same round the origin itself
abbrev pub turned : Orient → Pt → Pt
turned o p = placed o (pos 0) (pos 0) p

-- coordinates are within 2^30 of 0
pub record CanTurn (p : Pt) : Type 0 where
  pub left : negsuc (2 ^ 30 - 1) ≤ℤ p.x
  pub right : p.x ≤ℤ pos (2 ^ 30)
  pub below : negsuc (2 ^ 30 - 1) ≤ℤ p.y
  pub above : p.y ≤ℤ pos (2 ^ 30)

-- and the cell is at most 2^29 wide and high
pub record CanPlace (w h : ℤ) (p : Pt) : Type 0 where
  pub point : CanTurn p
  pub wide : pos 0 ≤ℤ w
  pub narrow : w ≤ℤ pos (2 ^ 29)
  pub high : pos 0 ≤ℤ h
  pub low : h ≤ℤ pos (2 ^ 29)

-- ---- what is placed with its points

-- the rectangle that has both points as opposite corners
abbrev pub spanned : Pt → Pt → Rect
spanned p q = record { x0 = int_min p.x q.x; y0 = int_min p.y q.y; x1 = int_max p.x q.x; y1 = int_max p.y q.y }

-- where a rectangle comes to when its corners are placed
abbrev pub placed_rect : Orient → ℤ → ℤ → Rect → Rect
placed_rect o w h r = spanned (placed o w h (record { x = r.x0; y = r.y0 })) (placed o w h (record { x = r.x1; y = r.y1 }))

-- the unit square as a rectangle
abbrev pub unit_rect : Pt → Rect
unit_rect p = record { x0 = p.x; y0 = p.y; x1 = p.x +ℤ pos 1; y1 = p.y +ℤ pos 1 }

-- where a unit square comes to, by its lower left corner there
abbrev pub placed_square : Orient → ℤ → ℤ → Pt → Pt
placed_square o w h p = let r = placed_rect o w h (unit_rect p) in record { x = r.x0; y = r.y0 }

-- unit squares are moved to unit squares, one to one, and those of a rectangle to those of the moved rectangle
pub record MovesSquares (rect : Rect → Rect) (square : Pt → Pt) : Type 0 where
  pub units : (p : Pt) → rect (unit_rect p) ≡ unit_rect (square p)
  pub inside : (r : Rect) (p : Pt) → has_squares r ≡ true → IsTrue (covers r p) ↔ IsTrue (covers (rect r) (square p))
  pub once : (p q : Pt) → square p ≡ square q → p ≡ q
  pub onto : (q : Pt) → (p : Pt) × (square p ≡ q)

-- each orientation of a cell of any size does
abbrev pub PlacesSquares : Type 0
PlacesSquares = (o : Orient) (w h : ℤ) → MovesSquares (placed_rect o w h) (placed_square o w h)
