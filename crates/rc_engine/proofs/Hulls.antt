-- The hull of rectangles.
use Rattle.std.proofs.Common.{◌≡◌, ℤ, arith}
use Rattle.std.specs.Int.{int_min, int_max}
use Rattle.std.proofs.lemmas.Int.{ints, clamps}
use Rattle.rc_geom.specs.declared.rect.Rect.{Rect}
use Rattle.rc_layout.specs.Items.{IsShape}
use Rattle.rc_windows.specs.Axes.{IsBounds}
use Rattle.rc_engine.specs.Start.{holding}

pub holding_is : (a b : Rect) (x0 y0 x1 y1 : ℤ) → x0 ≡ int_min a.x0 b.x0 → y0 ≡ int_min a.y0 b.y0 → x1 ≡ int_max a.x1 b.x1 → y1 ≡ int_max a.y1 b.y1 → record { x0 = x0; y0 = y0; x1 = x1; y1 = y1 } ≡ holding a b
holding_is a b x0 y0 x1 y1 left below right above = λ i. record { x0 = left i; y0 = below i; x1 = right i; y1 = above i }

pub holding_bounds : (a b : Rect) → IsBounds a → IsShape b → IsBounds (holding a b)
holding_bounds a b bounds shape =
    let left = bounds.left in
    let right = bounds.right in
    let below = bounds.below in
    let above = bounds.above in
    let wide = bounds.wide in
    let high = bounds.high in
    let in_left = shape.left in
    let in_right = shape.right in
    let in_below = shape.below in
    let in_above = shape.above in
    record {
      left = record { low = omega (arith, ints, clamps, left.low, in_left.low); high = omega (arith, ints, clamps, left.high, in_left.high) };
      wide = omega (arith, ints, clamps, wide, shape.wide);
      right = record { low = omega (arith, ints, clamps, right.low, in_right.low); high = omega (arith, ints, clamps, right.high, in_right.high) };
      below = record { low = omega (arith, ints, clamps, below.low, in_below.low); high = omega (arith, ints, clamps, below.high, in_below.high) };
      high = omega (arith, ints, clamps, high, shape.high);
      above = record { low = omega (arith, ints, clamps, above.low, in_above.low); high = omega (arith, ints, clamps, above.high, in_above.high) };
    }
