-- What is drawn within the coordinates of a layout has its form.
use Rattle.std.proofs.Common.{◌≡◌, ◌≢◌, ◌⊎◌, inl, inr, ⊎_elim, ℕ, ℤ, ◌<◌, ◌<ℤ◌, ◌≤ℤ◌, Bool, true, false, cond, refl, sym, subst, arith}
use Rattle.std.specs.Prelude.{Option, Some, None, IfSome, pos, negsuc, ◌+ℤ◌, ◌-ℤ◌, int_lt, ◌||◌, if◌then◌else◌}
use Rattle.std.specs.Int.{int_min, int_max}
use Rattle.std.specs.Ordering.{int_eq}
use Rattle.std.proofs.lemmas.Int.{ints}
use Rattle.std.proofs.lemmas.Bool.{and_parts}
use Rattle.std.proofs.lemmas.Option.{same_Some}
use Rattle.rc_fixed.proofs.Tests.{int_le_tells, int_lt_tells, int_eq_tells}
use Rattle.rc_geom.specs.declared.rect.Pt.{Pt}
use Rattle.rc_geom.specs.declared.rect.Rect.{Rect}
use Rattle.rc_geom.specs.declared.orient.Orient.{Orient}
use Rattle.rc_geom.specs.declared.orient.Orient.TheVariants as turns
use Rattle.rc_geom.specs.Bounds.{is_coordinate, is_point, is_within}
use Rattle.rc_geom.specs.Context.{layer_count}
use Rattle.rc_geom.specs.Orients.{spanned, placed_rect}
use Rattle.rc_geom.specs.Split.{IsCoordinate}
use Rattle.rc_layout.specs.declared.item.Item.{Item}
use Rattle.rc_layout.specs.declared.item.ItemKind.{ItemKind}
use Rattle.rc_layout.specs.declared.item.ItemKind.TheVariants.{Piece, Pad, Patch}
use Rattle.rc_layout.specs.declared.stroke.Stop.{Stop}
use Rattle.rc_layout.specs.declared.stroke.Stroke.{Stroke}
use Rattle.rc_layout.specs.Drawn.{behind_lower, behind_upper, level_piece, upright_piece, are_in_line, piece, spot, pad, patch, lone_patch}
use Rattle.rc_layout.specs.Items.{IsPoint, IsShape, IsItem, lower_half, upper_half}
use Rattle.rc_layout.specs.Units.{moved, turned_rect, low_corner}
use Rattle.rc_layout.specs.Wide.{HasCoordinates}

-- ---- tests of coordinates

pub coordinate_is : (z : ℤ) → is_coordinate z ≡ true → IsCoordinate z
coordinate_is z is = let e = and_parts _ _ is in record { low = int_le_tells _ _ e.0; high = int_le_tells _ _ e.1 }

pub point_is : (p : Pt) → is_point p ≡ true → IsPoint p
point_is p is = let e = and_parts _ _ is in record { x = coordinate_is p.x e.0; y = coordinate_is p.y e.1 }

pub corners_are : (r : Rect) → is_within r ≡ true → HasCoordinates r
corners_are r is =
    let e = and_parts _ _ is in
    let low = and_parts _ _ e.0 in
    let high = and_parts _ _ e.1 in
    record { left = coordinate_is r.x0 low.0; below = coordinate_is r.y0 low.1; right = coordinate_is r.x1 high.0; above = coordinate_is r.y1 high.1 }

-- a rectangle has an area
pub record HasArea (r : Rect) : Type 0 where
  pub wide : r.x0 <ℤ r.x1
  pub high : r.y0 <ℤ r.y1

pub shape_is : (r : Rect) → is_within r ≡ true → HasArea r → IsShape r
shape_is r is area =
    let at = corners_are r is in
    record { left = at.left; below = at.below; right = at.right; above = at.above; wide = area.wide; high = area.high }

-- ---- rectangles that are turned and moved

spread : (a b : ℤ) → (a <ℤ b) ⊎ (b <ℤ a) → int_min a b <ℤ int_max a b
spread a b either = by (int_lt b a) refl either
  where
    by : (t : Bool) → int_lt b a ≡ t → (a <ℤ b) ⊎ (b <ℤ a) → cond t b a <ℤ cond t a b
    by true is either = int_lt_tells b a is
    by false is (inl lt) = lt
    by false is (inr gt) = grind (arith, ints)

pub area_moved : (at : Pt) (r : Rect) → HasArea r → HasArea (moved at r)
area_moved at r area = let w = area.wide in let h = area.high in record { wide = omega (arith, ints, w); high = omega (arith, ints, h) }

ahead : (a b : ℤ) → a <ℤ b → (a <ℤ b) ⊎ (b <ℤ a)
ahead a b lt = inl lt

back : (w a b : ℤ) → a <ℤ b → ((w -ℤ a) <ℤ (w -ℤ b)) ⊎ ((w -ℤ b) <ℤ (w -ℤ a))
back w a b lt = inr (omega (arith, ints, lt))

pub area_placed : (o : Orient) (w h : ℤ) (r : Rect) → HasArea r → HasArea (placed_rect o w h r)
area_placed turns.N w h r area = record { wide = spread r.x0 r.x1 (ahead r.x0 r.x1 area.wide); high = spread r.y0 r.y1 (ahead r.y0 r.y1 area.high) }
area_placed turns.S w h r area = record { wide = spread _ _ (back w r.x0 r.x1 area.wide); high = spread _ _ (back h r.y0 r.y1 area.high) }
area_placed turns.W w h r area = record { wide = spread _ _ (back h r.y0 r.y1 area.high); high = spread _ _ (ahead r.x0 r.x1 area.wide) }
area_placed turns.E w h r area = record { wide = spread _ _ (ahead r.y0 r.y1 area.high); high = spread _ _ (back w r.x0 r.x1 area.wide) }
area_placed turns.FN w h r area = record { wide = spread _ _ (back w r.x0 r.x1 area.wide); high = spread _ _ (ahead r.y0 r.y1 area.high) }
area_placed turns.FS w h r area = record { wide = spread _ _ (ahead r.x0 r.x1 area.wide); high = spread _ _ (back h r.y0 r.y1 area.high) }
area_placed turns.FW w h r area = record { wide = spread _ _ (ahead r.y0 r.y1 area.high); high = spread _ _ (ahead r.x0 r.x1 area.wide) }
area_placed turns.FE w h r area = record { wide = spread _ _ (back h r.y0 r.y1 area.high); high = spread _ _ (back w r.x0 r.x1 area.wide) }

-- ---- pads and patches

spot_is : (kind : ItemKind) (layer : ℕ) (rect : Rect) (at : Pt) → kind ≢ Piece → layer < layer_count → IsPoint at → is_within rect ≡ true → HasArea rect → IsItem (spot kind layer rect at)
spot_is Piece layer rect at other few point near area = absurd (other refl)
spot_is Pad layer rect at other few point near area =
    record { layer = few; shape = shape_is rect near area; lower = point; upper = point; form = record { point = refl; width = refl } }
spot_is Patch layer rect at other few point near area =
    record { layer = few; shape = shape_is rect near area; lower = point; upper = point; form = record { point = refl; width = refl } }

pub pad_is : (orient : Orient) (at : Pt) (p : ℕ × Rect) → p.0 < layer_count → HasArea p.1 → IsPoint at → is_within (pad orient at p).rect ≡ true → IsItem (pad orient at p)
pad_is orient at p few area point near =
    spot_is Pad p.0 (moved at (turned_rect orient p.1)) at (λ e. cc) few point near (area_moved at (turned_rect orient p.1) (area_placed orient (pos 0) (pos 0) p.1 area))

pub lone_is : (layer : ℕ) (rect : Rect) → layer < layer_count → HasArea rect → is_within rect ≡ true → IsItem (lone_patch layer rect)
lone_is layer rect few area near =
    let at = corners_are rect near in
    spot_is Patch layer rect (low_corner rect) (λ e. cc) few (record { x = at.left; y = at.below }) near area

apart : (a b : ℤ) → int_eq a b ≡ false → (a <ℤ b) ⊎ (b <ℤ a)
apart a b is = grind (arith, ints)

-- what a patch is, where it has an area
pub record IsPatchAt (layer : ℕ) (at : Pt) (item : Item) : Type 0 where
  pub is : IsItem item
  pub layer_is : item.layer ≡ layer
  pub lower_is : item.a ≡ at
  pub upper_is : item.b ≡ at

pub patch_is : (layer : ℕ) (at p q : Pt) (item : Item) → layer < layer_count → IsPoint at → patch layer at p q ≡ Some item → is_within item.rect ≡ true → IsPatchAt layer at item
unfolding patch
patch_is layer at p q item few point is near = by (int_eq p.x q.x) (int_eq p.y q.y) refl refl is
  where
    made : Item
    made = spot Patch layer (moved at (spanned p q)) at

    some : int_eq p.x q.x ≡ false → int_eq p.y q.y ≡ false → is_within made.rect ≡ true → IsPatchAt layer at made
    some x y within = record {
      is =
          spot_is Patch layer (moved at (spanned p q)) at (λ e. cc) few point within
          (area_moved at (spanned p q) (record { wide = spread p.x q.x (apart p.x q.x x); high = spread p.y q.y (apart p.y q.y y) }));
      layer_is = refl;
      lower_is = refl;
      upper_is = refl;
    }

    by : (s t : Bool) → int_eq p.x q.x ≡ s → int_eq p.y q.y ≡ t → (if s || t then None else Some made) ≡ Some item → IsPatchAt layer at item
    by true t x y e = absurd cc
    by false true x y e = absurd cc
    by false false x y e =
        let same = same_Some made item e in
        subst (λ (i : Item). IsPatchAt layer at i) same (some x y (subst (λ (i : Item). is_within i.rect ≡ true) (sym same) near))

-- ---- pieces

pub half_is : (w : ℤ) → pos 0 ≤ℤ w → (pos 0 ≤ℤ lower_half w) × (pos 0 ≤ℤ upper_half w)
half_is (pos n) least = (omega (arith, ints), omega (arith, ints))
half_is (negsuc n) least = (absurd (omega (arith, ints, least)), absurd (omega (arith, ints, least)))

-- a stroke has a width, on a layer that may be
pub record CanDraw (stroke : Stroke) : Type 0 where
  pub layer : stroke.layer < layer_count
  pub width : pos 1 ≤ℤ stroke.width

abbrev pub IsExtension : Option ℤ → Type 0
IsExtension ext = IfSome ext (λ e. pos 0 ≤ℤ e)

not_negative : (stroke : Stroke) → CanDraw stroke → pos 0 ≤ℤ stroke.width
not_negative stroke can = let w = can.width in omega (arith, ints, w)

lower_reach : (stroke : Stroke) (ext : Option ℤ) → CanDraw stroke → IsExtension ext → pos 0 ≤ℤ behind_lower stroke ext
lower_reach stroke (Some e) can is = is
lower_reach stroke None can is = by stroke.bare
  where
    by : (t : Bool) → pos 0 ≤ℤ (if t then pos 0 else lower_half stroke.width)
    by true = omega (arith, ints)
    by false = (half_is stroke.width (not_negative stroke can)).0

upper_reach : (stroke : Stroke) (ext : Option ℤ) → CanDraw stroke → IsExtension ext → pos 0 ≤ℤ behind_upper stroke ext
upper_reach stroke (Some e) can is = is
upper_reach stroke None can is = by stroke.bare
  where
    by : (t : Bool) → pos 0 ≤ℤ (if t then pos 0 else upper_half stroke.width)
    by true = omega (arith, ints)
    by false = (half_is stroke.width (not_negative stroke can)).1

longer : (a b low high : ℤ) → a <ℤ b → pos 0 ≤ℤ low → pos 0 ≤ℤ high → (a -ℤ low) <ℤ (b +ℤ high)
longer a b low high lt l h = omega (arith, ints, lt, l, h)

thick : (a w : ℤ) → pos 1 ≤ℤ w → (a -ℤ lower_half w) <ℤ (a +ℤ upper_half w)
thick a w some = grow (lower_half w) some
  where
    grow : (half : ℤ) → pos 1 ≤ℤ w → (a -ℤ half) <ℤ (a +ℤ (w -ℤ half))
    grow half some = omega (arith, ints, some)

below_end : (a low : ℤ) → pos 0 ≤ℤ low → (a -ℤ low) ≤ℤ a
below_end a low l = omega (arith, ints, l)

above_end : (b high : ℤ) → pos 0 ≤ℤ high → b ≤ℤ (b +ℤ high)
above_end b high h = omega (arith, ints, h)

level_is : (stroke : Stroke) (a b : Stop) → CanDraw stroke → IsPoint a.at → IsPoint b.at → IsExtension a.ext → IsExtension b.ext → a.at.y ≡ b.at.y → a.at.x <ℤ b.at.x
    → is_within (level_piece stroke a b).rect ≡ true → IsItem (level_piece stroke a b)
level_is stroke a b can at_a at_b ext_a ext_b level order near =
    let low = lower_reach stroke a.ext can ext_a in
    let high = upper_reach stroke b.ext can ext_b in
    record {
      layer = can.layer;
      shape = shape_is (level_piece stroke a b).rect near (record { wide = longer a.at.x b.at.x (behind_lower stroke a.ext) (behind_upper stroke b.ext) order low high; high = thick a.at.y stroke.width can.width });
      lower = at_a;
      upper = at_b;
      form = record {
        width = can.width;
        axis = inl (record { level = level; order = order; below = refl; above = refl; left = below_end a.at.x (behind_lower stroke a.ext) low; right = above_end b.at.x (behind_upper stroke b.ext) high });
      };
    }

upright_is : (stroke : Stroke) (a b : Stop) → CanDraw stroke → IsPoint a.at → IsPoint b.at → IsExtension a.ext → IsExtension b.ext → a.at.x ≡ b.at.x → a.at.y <ℤ b.at.y
    → is_within (upright_piece stroke a b).rect ≡ true → IsItem (upright_piece stroke a b)
upright_is stroke a b can at_a at_b ext_a ext_b upright order near =
    let low = lower_reach stroke a.ext can ext_a in
    let high = upper_reach stroke b.ext can ext_b in
    record {
      layer = can.layer;
      shape = shape_is (upright_piece stroke a b).rect near (record { wide = thick a.at.x stroke.width can.width; high = longer a.at.y b.at.y (behind_lower stroke a.ext) (behind_upper stroke b.ext) order low high });
      lower = at_a;
      upper = at_b;
      form = record {
        width = can.width;
        axis = inr (record { upright = upright; order = order; left = refl; right = refl; below = below_end a.at.y (behind_lower stroke a.ext) low; above = above_end b.at.y (behind_upper stroke b.ext) high });
      };
    }

-- what a piece between two points is: it ends in both
pub record IsPieceBetween (layer : ℕ) (p q : Pt) (item : Item) : Type 0 where
  pub is : IsItem item
  pub layer_is : item.layer ≡ layer
  pub ends : ((item.a ≡ p) × (item.b ≡ q)) ⊎ ((item.a ≡ q) × (item.b ≡ p))

same_row : (p q : Pt) → are_in_line p q ≡ true → (p.x <ℤ q.x) ⊎ (q.x <ℤ p.x) → p.y ≡ q.y
same_row p q line beside = by (int_eq p.x q.x) refl line
  where
    by : (t : Bool) → int_eq p.x q.x ≡ t → (t || int_eq p.y q.y) ≡ true → p.y ≡ q.y
    by true is line = absurd (⊎_elim (λ (lt : p.x <ℤ q.x). differ p.x q.x lt (int_eq_tells p.x q.x is)) (λ (gt : q.x <ℤ p.x). differ q.x p.x gt (sym (int_eq_tells p.x q.x is))) beside)
      where
        differ : (a b : ℤ) → a <ℤ b → a ≡ b → ⊥
        differ a b lt e = omega (arith, ints, lt, e)
    by false is line = int_eq_tells p.y q.y line

same_column : (a b : ℤ) → int_lt a b ≡ false → int_lt b a ≡ false → a ≡ b
same_column a b x y = grind (arith, ints)

-- both stops are points of a layout, in a line, and no extension is negative
pub record CanJoin (p q : Stop) : Type 0 where
  pub first : IsPoint p.at
  pub second : IsPoint q.at
  pub first_ext : IsExtension p.ext
  pub second_ext : IsExtension q.ext
  pub line : are_in_line p.at q.at ≡ true

pub piece_is : (stroke : Stroke) (p q : Stop) (item : Item) → CanDraw stroke → CanJoin p q → piece stroke p q ≡ Some item → is_within item.rect ≡ true → IsPieceBetween stroke.layer p.at q.at item
unfolding piece
piece_is stroke p q item can join is near = right (int_lt p.at.x q.at.x) refl is
  where
    taken : (made : Item) → (is_within made.rect ≡ true → IsPieceBetween stroke.layer p.at q.at made) → Some made ≡ Some item → IsPieceBetween stroke.layer p.at q.at item
    taken made some e =
        let same = same_Some made item e in
        subst (λ (i : Item). IsPieceBetween stroke.layer p.at q.at i) same (some (subst (λ (i : Item). is_within i.rect ≡ true) (sym same) near))

    up_down : (t : Bool) → int_lt q.at.y p.at.y ≡ t → p.at.x ≡ q.at.x → (if t then Some (upright_piece stroke q p) else None) ≡ Some item → IsPieceBetween stroke.layer p.at q.at item
    up_down true down same e =
        taken (upright_piece stroke q p)
        (λ within. record { is = upright_is stroke q p can join.second join.first join.second_ext join.first_ext (sym same) (int_lt_tells _ _ down) within; layer_is = refl; ends = inr (refl, refl) })
        e
    up_down false down same e = absurd cc

    up : (t : Bool) → int_lt p.at.y q.at.y ≡ t → p.at.x ≡ q.at.x
        → (if t then Some (upright_piece stroke p q) else if int_lt q.at.y p.at.y then Some (upright_piece stroke q p) else None) ≡ Some item → IsPieceBetween stroke.layer p.at q.at item
    up true rises same e =
        taken (upright_piece stroke p q)
        (λ within. record { is = upright_is stroke p q can join.first join.second join.first_ext join.second_ext same (int_lt_tells _ _ rises) within; layer_is = refl; ends = inl (refl, refl) })
        e
    up false rises same e = up_down (int_lt q.at.y p.at.y) refl same e

    left : (t : Bool) → int_lt q.at.x p.at.x ≡ t → int_lt p.at.x q.at.x ≡ false
        → (if t then Some (level_piece stroke q p) else if int_lt p.at.y q.at.y then Some (upright_piece stroke p q) else if int_lt q.at.y p.at.y then Some (upright_piece stroke q p) else None) ≡ Some item
        → IsPieceBetween stroke.layer p.at q.at item
    left true back before e =
        let lt = int_lt_tells _ _ back in
        taken (level_piece stroke q p)
        (λ within. record { is = level_is stroke q p can join.second join.first join.second_ext join.first_ext (sym (same_row p.at q.at join.line (inr lt))) lt within; layer_is = refl; ends = inr (refl, refl) })
        e
    left false back before e = up (int_lt p.at.y q.at.y) refl (same_column p.at.x q.at.x before back) e

    right : (t : Bool) → int_lt p.at.x q.at.x ≡ t
        → (if t then Some (level_piece stroke p q) else if int_lt q.at.x p.at.x then Some (level_piece stroke q p) else if int_lt p.at.y q.at.y then Some (upright_piece stroke p q) else if int_lt q.at.y p.at.y then Some (upright_piece stroke q p) else None) ≡ Some item
        → IsPieceBetween stroke.layer p.at q.at item
    right true ahead e =
        let lt = int_lt_tells _ _ ahead in
        taken (level_piece stroke p q)
        (λ within. record { is = level_is stroke p q can join.first join.second join.first_ext join.second_ext (same_row p.at q.at join.line (inl lt)) lt within; layer_is = refl; ends = inl (refl, refl) })
        e
    right false ahead e = left (int_lt q.at.x p.at.x) refl ahead e
