-- The common part of two rectangles.
use Rattle.std.proofs.Common.{◌≡◌, ℕ, ℤ, pos, ◌+ℤ◌, ◌-ℤ◌, ◌≤ℤ◌, ◌<ℤ◌, true, false, sym, ap, ◌∙◌, arith}
use Rattle.std.specs.Prelude.{int_lt, int_le, IsTrue, ◌↔◌}
use Rattle.std.specs.Int.{int_max, int_min}
use Rattle.std.proofs.lemmas.Int.{ints, clamps}
use Rattle.std.proofs.lemmas.Bool.{and_parts, and_from}
use Rattle.rc_geom.specs.declared.rect.Pt.{Pt}
use Rattle.rc_geom.specs.declared.rect.Rect.{Rect}
use Rattle.rc_geom.specs.Rects.{grow, common_part, has_squares, has_points, SharesSquare, IsLowestCommon, IsApart}
use Rattle.rc_geom.proofs.Bounds.{lt_tells, le_tells, lt_passes, le_passes, covered, covers_from, touched, touches_from}

-- the corner of the common part
corner_of : Rect → Rect → Pt
corner_of a b = record { x = int_max a.x0 b.x0; y = int_max a.y0 b.y0 }

pub common_is : (a b : Rect) (x0 y0 x1 y1 : ℤ) → x0 ≡ int_max a.x0 b.x0 → y0 ≡ int_max a.y0 b.y0 → x1 ≡ int_min a.x1 b.x1 → y1 ≡ int_min a.y1 b.y1 → record { x0 = x0; y0 = y0; x1 = x1; y1 = y1 } ≡ common_part a b
common_is a b x0 y0 x1 y1 h i j k = cc

pub shares_square : (a b : Rect) → IsTrue (has_squares (common_part a b)) ↔ SharesSquare a b
unfolding corner_of
shares_square a b = (
  λ h.
      let both = and_parts (int_lt (int_max a.x0 b.x0) (int_min a.x1 b.x1)) (int_lt (int_max a.y0 b.y0) (int_min a.y1 b.y1)) h in
      let x : int_max a.x0 b.x0 <ℤ int_min a.x1 b.x1 = lt_tells _ _ both.0 in
      let y : int_max a.y0 b.y0 <ℤ int_min a.y1 b.y1 = lt_tells _ _ both.1 in (
        corner_of a b,
        covers_from a (corner_of a b) (record { left = omega (arith, ints, clamps); right = omega (arith, ints, clamps); below = omega (arith, ints, clamps); above = omega (arith, ints, clamps) }),
        covers_from b (corner_of a b) (record { left = omega (arith, ints, clamps); right = omega (arith, ints, clamps); below = omega (arith, ints, clamps); above = omega (arith, ints, clamps) }),
      ),
  λ shared.
      let p = shared.0 in
      let in_a = covered a p shared.1 in
      let in_b = covered b p shared.2 in
      let x0 = int_max a.x0 b.x0 in
      let x1 = int_min a.x1 b.x1 in
      let y0 = int_max a.y0 b.y0 in
      let y1 = int_min a.y1 b.y1 in
      and_from (int_lt x0 x1) (int_lt y0 y1) (lt_passes x0 x1 (omega (arith, ints, clamps))) (lt_passes y0 y1 (omega (arith, ints, clamps))),
)

pub lowest_common : (a b : Rect) (p : Pt) → has_points (common_part a b) ≡ true → p.x ≡ (common_part a b).x0 → p.y ≡ (common_part a b).y0 → IsLowestCommon a b p
lowest_common a b p h px py =
    let both = and_parts (int_le (int_max a.x0 b.x0) (int_min a.x1 b.x1)) (int_le (int_max a.y0 b.y0) (int_min a.y1 b.y1)) h in
    let x : int_max a.x0 b.x0 ≤ℤ int_min a.x1 b.x1 = le_tells _ _ both.0 in
    let y : int_max a.y0 b.y0 ≤ℤ int_min a.y1 b.y1 = le_tells _ _ both.1 in
    record {
      first = touches_from a p (record { left = omega (arith, ints, clamps); right = omega (arith, ints, clamps); below = omega (arith, ints, clamps); above = omega (arith, ints, clamps) });
      second = touches_from b p (record { left = omega (arith, ints, clamps); right = omega (arith, ints, clamps); below = omega (arith, ints, clamps); above = omega (arith, ints, clamps) });
      left = λ q in_a in_b. let s = touched a q in_a in let t = touched b q in_b in omega (arith, ints, clamps);
      down = λ q in_a in_b. let s = touched a q in_a in let t = touched b q in_b in omega (arith, ints, clamps);
    }

pub apart : (a b : Rect) → has_points (common_part a b) ≡ false → IsApart a b
apart a b h = λ p in_a in_b.
    let s = touched a p in_a in
    let t = touched b p in_b in
    let x0 = int_max a.x0 b.x0 in
    let x1 = int_min a.x1 b.x1 in
    let y0 = int_max a.y0 b.y0 in
    let y1 = int_min a.y1 b.y1 in
    let both : has_points (common_part a b) ≡ true = and_from (int_le x0 x1) (int_le y0 y1) (le_passes x0 x1 (omega (arith, ints, clamps))) (le_passes y0 y1 (omega (arith, ints, clamps))) in
    cc

-- the same two of a part, a test and a corner that were computed
pub lowest_common_at : (a b part : Rect) (p : Pt) → part ≡ common_part a b → has_points part ≡ true → p.x ≡ part.x0 → p.y ≡ part.y0 → IsLowestCommon a b p
lowest_common_at a b part p is h px py =
    lowest_common a b p (sym (ap has_points is) ∙ h) (px ∙ ap (λ (r : Rect). r.x0) is) (py ∙ ap (λ (r : Rect). r.y0) is)

pub apart_at : (a b part : Rect) → part ≡ common_part a b → has_points part ≡ false → IsApart a b
apart_at a b part is h = apart a b (sym (ap has_points is) ∙ h)

pub grown_is : (r : Rect) (n : ℕ) (x0 y0 x1 y1 : ℤ) → x0 ≡ r.x0 -ℤ pos n → y0 ≡ r.y0 -ℤ pos n → x1 ≡ r.x1 +ℤ pos n → y1 ≡ r.y1 +ℤ pos n → record { x0 = x0; y0 = y0; x1 = x1; y1 = y1 } ≡ grow r n
grown_is r n x0 y0 x1 y1 h i j k = cc
