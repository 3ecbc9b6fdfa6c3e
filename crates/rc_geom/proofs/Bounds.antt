-- What the tests of whole numbers, of squares and of points tell.
use Rattle.std.proofs.Common.{◌≡◌, ℤ, ◌≤ℤ◌, ◌<ℤ◌, Bool, true, false, Option, Some, None, refl, arith}
use Rattle.std.specs.Prelude.{int_lt, int_le, ◌&&◌, is_some}
use Rattle.std.proofs.lemmas.Bool.{true≢false}
use Rattle.std.proofs.lemmas.Int.{ints}
use Rattle.rc_geom.specs.declared.rect.Pt.{Pt}
use Rattle.rc_geom.specs.declared.rect.Rect.{Rect}
use Rattle.rc_geom.specs.Rects.{covers, touches}
use Rattle.rc_geom.specs.Plane.{Metal}

pub lt_tells : (a b : ℤ) → int_lt a b ≡ true → a <ℤ b
lt_tells a b h = grind (arith, ints)

pub le_tells : (a b : ℤ) → int_le a b ≡ true → a ≤ℤ b
le_tells a b h = grind (arith, ints)

pub lt_passes : (a b : ℤ) → a <ℤ b → int_lt a b ≡ true
lt_passes a b h = grind (arith, ints)

pub le_passes : (a b : ℤ) → a ≤ℤ b → int_le a b ≡ true
le_passes a b h = grind (arith, ints)

pub lt_fails : (a b : ℤ) → b ≤ℤ a → int_lt a b ≡ false
lt_fails a b h = grind (arith, ints)

-- the four bounds of a square, and of a point
pub record Covered (r : Rect) (p : Pt) : Type 0 where
  pub left : r.x0 ≤ℤ p.x
  pub right : p.x <ℤ r.x1
  pub below : r.y0 ≤ℤ p.y
  pub above : p.y <ℤ r.y1

pub record Touched (r : Rect) (p : Pt) : Type 0 where
  pub left : r.x0 ≤ℤ p.x
  pub right : p.x ≤ℤ r.x1
  pub below : r.y0 ≤ℤ p.y
  pub above : p.y ≤ℤ r.y1

pub all_four : (a b c d : Bool) → (a && b && (c && d)) ≡ true → (a ≡ true) × (b ≡ true) × (c ≡ true) × (d ≡ true)
all_four a b c d h = grind arith

pub four : (a b c d : Bool) → a ≡ true → b ≡ true → c ≡ true → d ≡ true → (a && b && (c && d)) ≡ true
four a b c d h i j k = grind arith

pub covered : (r : Rect) (p : Pt) → covers r p ≡ true → Covered r p
covered r p h =
    let all = all_four (int_le r.x0 p.x) (int_lt p.x r.x1) (int_le r.y0 p.y) (int_lt p.y r.y1) h in
    record { left = le_tells r.x0 p.x all.0; right = lt_tells p.x r.x1 all.1; below = le_tells r.y0 p.y all.2; above = lt_tells p.y r.y1 all.3 }

pub covers_from : (r : Rect) (p : Pt) → Covered r p → covers r p ≡ true
covers_from r p h =
    four (int_le r.x0 p.x) (int_lt p.x r.x1) (int_le r.y0 p.y) (int_lt p.y r.y1) (le_passes r.x0 p.x h.left) (lt_passes p.x r.x1 h.right) (le_passes r.y0 p.y h.below) (lt_passes p.y r.y1 h.above)

pub touched : (r : Rect) (p : Pt) → touches r p ≡ true → Touched r p
touched r p h =
    let all = all_four (int_le r.x0 p.x) (int_le p.x r.x1) (int_le r.y0 p.y) (int_le p.y r.y1) h in
    record { left = le_tells r.x0 p.x all.0; right = le_tells p.x r.x1 all.1; below = le_tells r.y0 p.y all.2; above = le_tells p.y r.y1 all.3 }

pub touches_from : (r : Rect) (p : Pt) → Touched r p → touches r p ≡ true
touches_from r p h =
    four (int_le r.x0 p.x) (int_le p.x r.x1) (int_le r.y0 p.y) (int_le p.y r.y1) (le_passes r.x0 p.x h.left) (le_passes p.x r.x1 h.right) (le_passes r.y0 p.y h.below) (le_passes p.y r.y1 h.above)

-- nothing stands on a square without metal
pub empty_is : (o : Option Metal) → is_some o ≡ false → o ≡ None
empty_is None h = refl
empty_is (Some b) h = absurd (true≢false h)
