-- Unit squares at the points of rectangles, and windows that reach over their edges.
use Rattle.std.proofs.Common.{◌≡◌, ◌≤◌, ℕ, ℤ, pos, ◌+ℤ◌, ◌-ℤ◌, ◌≤ℤ◌, ◌<ℤ◌, Bool, true, false, refl, arith}
use Rattle.std.specs.Prelude.{int_lt}
use Rattle.std.proofs.lemmas.Int.{ints}
use Rattle.rc_geom.specs.declared.rect.Pt.{Pt}
use Rattle.rc_geom.specs.declared.rect.Rect.{Rect}
use Rattle.rc_geom.specs.Rects.{covers, touches, grow}
use Rattle.rc_geom.proofs.Bounds.{lt_tells, covered, covers_from, touched, touches_from}

-- the unit from q on has z as one of its ends
record HasEnd (q z : ℤ) : Type 0 where
  low : q ≤ℤ z
  high : z ≤ℤ (q +ℤ pos 1)

-- a unit between two places that has a place as an end
record IsUnitBy (low high z q : ℤ) : Type 0 where
  from : low ≤ℤ q
  below : q <ℤ high
  end : HasEnd q z

not_below : (a b : ℤ) → int_lt a b ≡ false → b ≤ℤ a
not_below a b h = grind (arith, ints)

unit_by : (low high z : ℤ) → low <ℤ high → low ≤ℤ z → z ≤ℤ high → (q : ℤ) × IsUnitBy low high z q
unit_by low high z order from to = by (int_lt z high) refl
  where
    by : (b : Bool) → int_lt z high ≡ b → (q : ℤ) × IsUnitBy low high z q
    by true h = (z, record { from = from; below = lt_tells z high h; end = record { low = omega (arith, ints); high = omega (arith, ints) } })
    by false h =
        let past = not_below z high h in
        (z -ℤ pos 1, record { from = omega (arith, ints, past, order); below = omega (arith, ints, to); end = record { low = omega (arith, ints); high = omega (arith, ints) } })

-- the square has the point as a corner
pub record HasCorner (q p : Pt) : Type 0 where
  pub left : q.x ≤ℤ p.x
  pub right : p.x ≤ℤ (q.x +ℤ pos 1)
  pub below : q.y ≤ℤ p.y
  pub above : p.y ≤ℤ (q.y +ℤ pos 1)

-- each point of a closed rectangle is a corner of one of its squares
pub square_by : (r : Rect) (p : Pt) → r.x0 <ℤ r.x1 → r.y0 <ℤ r.y1 → touches r p ≡ true → (q : Pt) × (covers r q ≡ true) × HasCorner q p
square_by r p wide high h =
    let t = touched r p h in
    let x = unit_by r.x0 r.x1 p.x wide t.left t.right in
    let y = unit_by r.y0 r.y1 p.y high t.below t.above in
    let q : Pt = record { x = x.0; y = y.0 } in (
      q,
      covers_from r q (record { left = x.1.from; right = x.1.below; below = y.1.from; above = y.1.below }),
      record { left = x.1.end.low; right = x.1.end.high; below = y.1.end.low; above = y.1.end.high },
    )

-- a window with a square has its corners
pub has_corners : (window : Rect) (q p : Pt) → covers window q ≡ true → HasCorner q p → touches window p ≡ true
has_corners window q p h corner =
    let c = covered window q h in
    let a = c.left in
    let b = c.right in
    let d = c.below in
    let e = c.above in
    let f = corner.left in
    let g = corner.right in
    let i = corner.below in
    let j = corner.above in
    touches_from window p (record { left = omega (arith, ints, a, f); right = omega (arith, ints, b, g); below = omega (arith, ints, d, i); above = omega (arith, ints, e, j) })

-- where a point lies in a closed window, the squares at it lie in the window or its halo
pub in_halo : (window : Rect) (halo : ℕ) (q p : Pt) → 1 ≤ halo → touches window p ≡ true → HasCorner q p → covers (grow window halo) q ≡ true
in_halo window halo q p some h corner =
    let t = touched window p h in
    let a = t.left in
    let b = t.right in
    let d = t.below in
    let e = t.above in
    let f = corner.left in
    let g = corner.right in
    let i = corner.below in
    let j = corner.above in
    covers_from (grow window halo) q (record { left = omega (arith, ints, a, g, some); right = omega (arith, ints, b, f, some); below = omega (arith, ints, d, j, some); above = omega (arith, ints, e, i, some) })
