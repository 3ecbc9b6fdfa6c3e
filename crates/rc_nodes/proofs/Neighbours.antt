-- Wires by the coordinates of their nodes.
use Rattle.std.proofs.Common.{◌≡◌, ◌<◌, ◌+◌, inl, inr, ⊎_elim, ℕ, ℤ, pos, ◌≤ℤ◌, ◌<ℤ◌, Bool, true, false, List, [], ◌∷◌, map, length, get_or, refl, ap, sym, ◌∙◌, subst, arith}
use Rattle.std.specs.Prelude.{All, Contains, not, nat_lt, slice_get, ◌==◌, ◌&&◌}
use Rattle.std.specs.List.{flat_map, list_any}
use Rattle.std.specs.List.Sorted.{IsStrictlySortedBy}
use Rattle.std.specs.declared.cmp.Ordering.{Ordering}
use Rattle.std.specs.declared.cmp.Ordering.TheVariants.{Less, Equal, Greater}
use Rattle.std.specs.Ordering.{int_eq, nat_cmp, int_cmp, ordering_then}
use Rattle.std.proofs.lemmas.Int.{ints, by_lt_z, fold-int_max_bounds, fold-int_max_reached}
use Rattle.std.proofs.lemmas.Bool.{true≢false, cases_order, and_parts, eqb-true}
use Rattle.std.proofs.lemmas.Bool.Decides.{nat_tests}
use Rattle.std.proofs.lemmas.Cmp.{tied_itself}
use Rattle.std.proofs.lemmas.Option.{same_Some, slice_get_within, slice_get-get_or, get_or_from_slice_get}
use Rattle.std.proofs.lemmas.List.Elements.{All-contains}
use Rattle.std.proofs.lemmas.List.Folds.{list_any-from_Any, list_any_none}
use Rattle.rc_geom.specs.declared.rect.Pt.{Pt}
use Rattle.rc_geom.specs.Rects.{touches}
use Rattle.rc_geom.proofs.Bounds.{touched, touches_from}
use Rattle.rc_layout.specs.declared.item.Item.{Item}
use Rattle.rc_layout.specs.declared.item.ItemKind.{ItemKind}
use Rattle.rc_layout.specs.declared.item.ItemKind.TheVariants.{Piece, Pad, Patch}
use Rattle.rc_layout.specs.Items.{is_piece, is_piece_kind, is_on, centreline, IsItem, IsPiece, HasForm}
use Rattle.rc_nodes.specs.declared.node.Node.{Node}
use Rattle.rc_nodes.specs.declared.wire.Wire.{Wire}
use Rattle.rc_nodes.specs.Nodes.{node_cmp, AreInOrder, IsNumber, numbered}
use Rattle.rc_nodes.specs.Wires.{same_point, line_to, is_between, runs_over, pieces_over, greatest_width, wire_over, wire_between, wires_of, IsSegment, IsWire, AreWires, ends_cmp}
use Rattle.rc_nodes.proofs.Sorted.{then_less, nat_less, nat_equal, int_less, int_equal, nat_is_less, nat_is_equal, int_is_less, int_is_equal, contains_none, contains_first, contains_map, image_of, filter_has, filter_tells, same_sorted}
use Rattle.rc_nodes.proofs.Numbered.{node_total}
use Rattle.rc_nodes.proofs.Words.{number_in, in_number}
use Rattle.rc_nodes.proofs.Wired.{in_flat, flat_has, ends_less, ends_total, same_tells, same_gives}
use Rattle.rc_nodes.proofs.Pairs.{flat_sorted, one_sorted, none_sorted, numbers_rise, only_one, the_one}

-- ---- the order of nodes, by coordinates

pub data IsBefore (a b : Node) : Type 0 where
  by_layer : a.layer < b.layer → IsBefore a b
  by_row : a.layer ≡ b.layer → a.at.y <ℤ b.at.y → IsBefore a b
  by_column : a.layer ≡ b.layer → a.at.y ≡ b.at.y → a.at.x <ℤ b.at.x → IsBefore a b

then_equal : (o q : Ordering) → ordering_then o q ≡ Equal → (o ≡ Equal) × (q ≡ Equal)
then_equal Less q h = cc
then_equal Equal q h = (refl, h)
then_equal Greater q h = cc

pub before_tells : (a b : Node) → node_cmp a b ≡ Less → IsBefore a b
before_tells a b h = ⊎_elim
    (λ row. ⊎_elim
    (λ l. by_layer (nat_less a.layer b.layer l))
    (λ l. by_row (nat_equal a.layer b.layer l.0) (int_less a.at.y b.at.y l.1))
    (then_less (nat_cmp a.layer b.layer) (int_cmp a.at.y b.at.y) row))
    (λ last.
    let same = then_equal (nat_cmp a.layer b.layer) (int_cmp a.at.y b.at.y) last.0 in
    by_column (nat_equal a.layer b.layer same.0) (int_equal a.at.y b.at.y same.1) (int_less a.at.x b.at.x last.1))
    (then_less (ordering_then (nat_cmp a.layer b.layer) (int_cmp a.at.y b.at.y)) (int_cmp a.at.x b.at.x) h)

pub before_gives : (a b : Node) → IsBefore a b → node_cmp a b ≡ Less
before_gives a b (by_layer l) = ap (λ o. ordering_then (ordering_then o (int_cmp a.at.y b.at.y)) (int_cmp a.at.x b.at.x)) (nat_is_less a.layer b.layer l)
before_gives a b (by_row e l) =
    ap (λ o. ordering_then (ordering_then o (int_cmp a.at.y b.at.y)) (int_cmp a.at.x b.at.x)) (nat_is_equal a.layer b.layer e)
    ∙ ap (λ o. ordering_then o (int_cmp a.at.x b.at.x)) (int_is_less a.at.y b.at.y l)
before_gives a b (by_column e f l) =
    ap (λ o. ordering_then (ordering_then o (int_cmp a.at.y b.at.y)) (int_cmp a.at.x b.at.x)) (nat_is_equal a.layer b.layer e)
    ∙ (ap (λ o. ordering_then o (int_cmp a.at.x b.at.x)) (int_is_equal a.at.y b.at.y f) ∙ int_is_less a.at.x b.at.x l)

-- ---- and by numbers

pub at_number : (nodes : List Node) (n : ℕ) (a : Node) (number : IsNumber nodes n a) → get_or nodes number.0 a ≡ a
at_number nodes n a number = get_or_from_slice_get nodes number.0 a a number.2

pub one_node : (nodes : List Node) (n : ℕ) (a b : Node) → IsNumber nodes n a → IsNumber nodes n b → a ≡ b
one_node nodes n a b h k =
    let first = h.1 in
    let second = k.1 in
    let same : h.0 ≡ k.0 = omega (arith, first, second) in
    same_Some a b (sym h.2 ∙ (ap (slice_get nodes) same ∙ k.2))

pub lower_before : (nodes : List Node) (n m : ℕ) (a b : Node) → AreInOrder nodes → IsNumber nodes n a → IsNumber nodes m b → n < m → node_cmp a b ≡ Less
lower_before nodes n m a b order h k less =
    let first = h.1 in
    let second = k.1 in
    let within : k.0 < length nodes = slice_get_within nodes k.0 b k.2 in
    let lt : h.0 < k.0 = omega (arith, first, second, less) in
    let in_a : get_or nodes h.0 a ≡ a = at_number nodes n a h in
    let in_b : get_or nodes k.0 a ≡ b = get_or_from_slice_get nodes k.0 b a k.2 in
    subst (λ (x : Node). node_cmp x b ≡ Less) in_a (subst (λ (y : Node). node_cmp (get_or nodes h.0 a) y ≡ Less) in_b (order h.0 k.0 a lt within))

pub before_lower : (nodes : List Node) (n m : ℕ) (a b : Node) → AreInOrder nodes → IsNumber nodes n a → IsNumber nodes m b → node_cmp a b ≡ Less → n < m
before_lower nodes n m a b order h k less = ⊎_elim
    (λ same. let tie : node_cmp a a ≡ Equal = tied_itself node_total a in let is = one_node nodes n a b h (subst (λ i. IsNumber nodes i b) (sym same) k) in let self : node_cmp a a ≡ Less = subst (λ (x : Node). node_cmp a x ≡ Less) (sym is) less in cc)
    (⊎_elim
    (λ lt. lt)
    (λ gt. let back = lower_before nodes m n b a order k h gt in let flip = node_total.antisymm a b in cc))
    (cases_order n m)

-- ---- on one piece

-- what a node on an item tells
pub record Runs (item : Item) (a : Node) : Type 0 where
  pub layer : item.layer ≡ a.layer
  pub left : item.a.x ≤ℤ a.at.x
  pub right : a.at.x ≤ℤ item.b.x
  pub below : item.a.y ≤ℤ a.at.y
  pub above : a.at.y ≤ℤ item.b.y

pub runs_tell : (item : Item) (a : Node) → is_on item a.layer a.at ≡ true → Runs item a
runs_tell item a h =
    let parts = and_parts (item.layer == a.layer) (touches (centreline item) a.at) h in
    let t = touched (centreline item) a.at parts.1 in
    record { layer = eqb-true item.layer a.layer parts.0; left = t.left; right = t.right; below = t.below; above = t.above }

both : (a b : Bool) → a ≡ true → b ≡ true → (a && b) ≡ true
both a b h k = grind arith

eq_passes : (a b : ℕ) → a ≡ b → (a == b) ≡ true
eq_passes a b h = grind arith

pub runs_give : (item : Item) (a : Node) → Runs item a → is_on item a.layer a.at ≡ true
runs_give item a r =
    both (item.layer == a.layer) (touches (centreline item) a.at) (eq_passes item.layer a.layer r.layer)
    (touches_from (centreline item) a.at (record { left = r.left; right = r.right; below = r.below; above = r.above }))

-- one axis of a piece has no extent
pub piece_form : (item : Item) → IsItem item → is_piece item ≡ true → IsPiece item
piece_form item is piece = by item.kind is.form piece
  where
    by : (kind : ItemKind) → HasForm kind item → is_piece_kind kind ≡ true → IsPiece item
    by Piece form h = form
    by Pad form h = cc
    by Patch form h = cc

pub data IsFlat (item : Item) : Type 0 where
  by_y : item.a.y ≡ item.b.y → IsFlat item
  by_x : item.a.x ≡ item.b.x → IsFlat item

flat : (item : Item) → IsPiece item → IsFlat item
flat item piece = ⊎_elim (λ level. by_y level.level) (λ upright. by_x upright.upright) piece.axis

-- what lies between two nodes
record Between (a b c : Node) : Type 0 where
  layer : c.layer ≡ a.layer
  left : a.at.x ≤ℤ c.at.x
  right : c.at.x ≤ℤ b.at.x
  below : a.at.y ≤ℤ c.at.y
  above : c.at.y ≤ℤ b.at.y
  not_first : same_point c.at a.at ≡ false
  not_second : same_point c.at b.at ≡ false

not_true : (b : Bool) → not b ≡ true → b ≡ false
not_true true h = sym h
not_true false h = refl

is_not : (b : Bool) → b ≡ false → not b ≡ true
is_not true h = sym h
is_not false h = refl

between_tells : (a b c : Node) → is_between a b c ≡ true → Between a b c
between_tells a b c h =
    let outer = and_parts ((c.layer == a.layer) && touches (line_to a b) c.at) (not (same_point c.at a.at) && not (same_point c.at b.at)) h in
    let front = and_parts (c.layer == a.layer) (touches (line_to a b) c.at) outer.0 in
    let back = and_parts (not (same_point c.at a.at)) (not (same_point c.at b.at)) outer.1 in
    let t = touched (line_to a b) c.at front.1 in
    record {
      layer = eqb-true c.layer a.layer front.0;
      left = t.left;
      right = t.right;
      below = t.below;
      above = t.above;
      not_first = not_true (same_point c.at a.at) back.0;
      not_second = not_true (same_point c.at b.at) back.1;
    }

between_gives : (a b c : Node) → Between a b c → is_between a b c ≡ true
between_gives a b c h =
    both ((c.layer == a.layer) && touches (line_to a b) c.at) (not (same_point c.at a.at) && not (same_point c.at b.at))
    (both (c.layer == a.layer) (touches (line_to a b) c.at) (eq_passes c.layer a.layer h.layer)
    (touches_from (line_to a b) c.at (record { left = h.left; right = h.right; below = h.below; above = h.above })))
    (both (not (same_point c.at a.at)) (not (same_point c.at b.at)) (is_not (same_point c.at a.at) h.not_first) (is_not (same_point c.at b.at) h.not_second))

pub same_tells_point : (p q : Pt) → same_point p q ≡ true → (p.x ≡ q.x) × (p.y ≡ q.y)
same_tells_point p q h =
    let parts = and_parts (int_eq p.x q.x) (int_eq p.y q.y) h in
    (tells p.x q.x parts.0, tells p.y q.y parts.1)
  where
    tells : (a b : ℤ) → int_eq a b ≡ true → a ≡ b
    tells a b h = grind (arith, ints)

pub same_gives_point : (p q : Pt) → p.x ≡ q.x → p.y ≡ q.y → same_point p q ≡ true
same_gives_point p q x y = both (int_eq p.x q.x) (int_eq p.y q.y) (gives p.x q.x x) (gives p.y q.y y)
  where
    gives : (a b : ℤ) → a ≡ b → int_eq a b ≡ true
    gives a b h = grind (arith, ints)

apart_by : (b : Bool) → (b ≡ true → ⊥) → b ≡ false
apart_by true h = absurd (h refl)
apart_by false h = refl

-- a node between two that a piece runs over is on the piece, and its number lies between theirs
between_on : (item : Item) (a b c : Node) → Runs item a → Runs item b → Between a b c → is_on item c.layer c.at ≡ true
between_on item a b c on_a on_b h =
    let l = on_a.left in let r = on_b.right in let d = on_a.below in let u = on_b.above in
    let left = h.left in let right = h.right in let below = h.below in let above = h.above in
    runs_give item c (record { layer = on_a.layer ∙ sym h.layer; left = omega (arith, ints); right = omega (arith, ints); below = omega (arith, ints); above = omega (arith, ints) })

-- of two points the one that is neither left nor below, and not the same, stands behind the other
behind : (a c : Node) → c.layer ≡ a.layer → a.at.x ≤ℤ c.at.x → a.at.y ≤ℤ c.at.y → (same_point c.at a.at ≡ true → ⊥) → IsBefore a c
behind a c layer x y apart =
    by_lt_z a.at.y c.at.y
    (λ less. by_row (sym layer) less)
    (λ row. by_lt_z a.at.x c.at.x
    (λ less. by_column (sym layer) (omega (arith, ints)) less)
    (λ column. absurd (apart (same_gives_point c.at a.at (omega (arith, ints)) (omega (arith, ints))))))

between_after : (a b c : Node) → Between a b c → node_cmp a c ≡ Less
between_after a b c h = before_gives a c (behind a c h.layer h.left h.below (λ same. true≢false (sym same ∙ h.not_first)))

between_before : (a b c : Node) → a.layer ≡ b.layer → Between a b c → node_cmp c b ≡ Less
between_before a b c layer h =
    before_gives c b (behind c b (sym layer ∙ sym h.layer) h.right h.above (λ same.
    let p = same_tells_point b.at c.at same in
    true≢false (sym (same_gives_point c.at b.at (sym p.0) (sym p.1)) ∙ h.not_second)))

-- a node on the piece whose number lies between those of two nodes on it lies between them
on_between : (item : Item) (a b c : Node) → IsFlat item → Runs item a → Runs item b → Runs item c → node_cmp a c ≡ Less → node_cmp c b ≡ Less → Between a b c
on_between item a b c form on_a on_b on_c after before =
    let same : c.layer ≡ a.layer = sym on_c.layer ∙ on_a.layer in
    let again : c.layer ≡ b.layer = sym on_c.layer ∙ on_b.layer in
    by form (before_tells a c after) (before_tells c b before) same again
  where
    make : c.layer ≡ a.layer → a.at.x ≤ℤ c.at.x → c.at.x ≤ℤ b.at.x → a.at.y ≤ℤ c.at.y → c.at.y ≤ℤ b.at.y → Between a b c
    make same left right below above = record {
      layer = same;
      left = left;
      right = right;
      below = below;
      above = above;
      not_first = apart_by (same_point c.at a.at) (λ h. let p = same_tells_point c.at a.at h in self a c p.0 p.1 (before_tells a c after) same);
      not_second = apart_by (same_point c.at b.at) (λ h. let p = same_tells_point c.at b.at h in self c b (sym p.0) (sym p.1) (before_tells c b before) (sym on_b.layer ∙ on_c.layer));
    }
      where
        self : (u v : Node) → v.at.x ≡ u.at.x → v.at.y ≡ u.at.y → IsBefore u v → v.layer ≡ u.layer → ⊥
        self u v x y (by_layer l) e = omega (arith, l, e)
        self u v x y (by_row e l) f = omega (arith, ints)
        self u v x y (by_column e f l) g = omega (arith, ints)

    low_x : (u v : Node) → IsFlat item → Runs item u → Runs item v → u.layer ≡ v.layer → IsBefore u v → u.at.x ≤ℤ v.at.x
    low_x u v f on_u on_v same (by_layer l) = absurd (omega (arith, l, same))
    low_x u v (by_y f) on_u on_v same (by_row e l) = let d = on_v.above in let u' = on_u.below in absurd (omega (arith, ints))
    low_x u v (by_x f) on_u on_v same (by_row e l) = let r = on_u.right in let l' = on_v.left in omega (arith, ints)
    low_x u v f on_u on_v same (by_column e g l) = omega (arith, ints)

    low_y : (u v : Node) → u.layer ≡ v.layer → IsBefore u v → u.at.y ≤ℤ v.at.y
    low_y u v same (by_layer l) = absurd (omega (arith, l, same))
    low_y u v same (by_row e l) = omega (arith, ints)
    low_y u v same (by_column e g l) = omega (arith, ints)

    by : IsFlat item → IsBefore a c → IsBefore c b → c.layer ≡ a.layer → c.layer ≡ b.layer → Between a b c
    by f first second same again =
        make same (low_x a c f on_a on_c (sym same) first) (low_x c b f on_c on_b again second) (low_y a c (sym same) first) (low_y c b again second)

-- ---- the widest of some pieces

greatest_bounds : (pieces : List Item) (item : Item) → Contains pieces item → item.width ≤ℤ greatest_width pieces
greatest_bounds pieces item in' =
    All-contains (λ z. z ≤ℤ greatest_width pieces) (map (λ (i : Item). i.width) pieces) item.width
    (fold-int_max_bounds (pos 0) (map (λ (i : Item). i.width) pieces) (greatest_width pieces) refl).1
    (contains_map (λ (i : Item). i.width) pieces item in')

-- a piece of that width
record HasWidth (pieces : List Item) (width : ℤ) : Type 0 where
  item : Item
  member : Contains pieces item
  is : item.width ≡ width

greatest_reached : (pieces : List Item) (item : Item) → Contains pieces item → pos 1 ≤ℤ item.width → HasWidth pieces (greatest_width pieces)
greatest_reached pieces item in' wide = ⊎_elim
    (λ none. let low = greatest_bounds pieces item in' in absurd (omega (arith, ints)))
    (λ some. let image = image_of (λ (i : Item). i.width) pieces (greatest_width pieces) some in record { item = image.element; member = image.member; is = image.is })
    (fold-int_max_reached (pos 0) (map (λ (i : Item). i.width) pieces) (greatest_width pieces) refl)

-- ---- the wire over some pieces

record IsOver (nodes : List Node) (lower upper : ℕ × Node) (pieces : List Item) (w : Wire) : Type 0 where
  piece : Item
  of : Contains pieces piece
  less : lower.0 < upper.0
  clear : list_any (is_between lower.1 upper.1) nodes ≡ false
  is : record { lower = lower.0; upper = upper.0; width = greatest_width pieces } ≡ w

lt_tells : (a b : ℕ) → nat_lt a b ≡ true → a < b
lt_tells a b h = grind (arith, nat_tests)

lt_gives : (a b : ℕ) → a < b → nat_lt a b ≡ true
lt_gives a b h = grind (arith, nat_tests)

over_tells : (nodes : List Node) (lower upper : ℕ × Node) (pieces : List Item) (w : Wire) → Contains (wire_over nodes lower upper pieces) w → IsOver nodes lower upper pieces w
over_tells nodes lower upper [] w h = absurd (contains_none w h)
over_tells nodes lower upper (piece ∷ pieces) w h =
    let found = only_one (nat_lt lower.0 upper.0 && not (list_any (is_between lower.1 upper.1) nodes)) (record { lower = lower.0; upper = upper.0; width = greatest_width (piece ∷ pieces) }) w h in
    let parts = and_parts (nat_lt lower.0 upper.0) (not (list_any (is_between lower.1 upper.1) nodes)) found.0 in
    record { piece = piece; of = contains_first piece pieces piece refl; less = lt_tells lower.0 upper.0 parts.0; clear = not_true (list_any (is_between lower.1 upper.1) nodes) parts.1; is = found.1 }

over_gives : (nodes : List Node) (lower upper : ℕ × Node) (pieces : List Item) (piece : Item) → Contains pieces piece → lower.0 < upper.0 → list_any (is_between lower.1 upper.1) nodes ≡ false →
    Contains (wire_over nodes lower upper pieces) (record { lower = lower.0; upper = upper.0; width = greatest_width pieces })
over_gives nodes lower upper [] piece of less clear = absurd (contains_none piece of)
over_gives nodes lower upper (first ∷ pieces) piece of less clear =
    the_one (nat_lt lower.0 upper.0 && not (list_any (is_between lower.1 upper.1) nodes)) (record { lower = lower.0; upper = upper.0; width = greatest_width (first ∷ pieces) })
    (both (nat_lt lower.0 upper.0) (not (list_any (is_between lower.1 upper.1) nodes)) (lt_gives lower.0 upper.0 less) (is_not (list_any (is_between lower.1 upper.1) nodes) clear))

over_sorted : (nodes : List Node) (lower upper : ℕ × Node) (pieces : List Item) → IsStrictlySortedBy ends_cmp (wire_over nodes lower upper pieces)
over_sorted nodes lower upper [] = none_sorted ends_cmp
over_sorted nodes lower upper (piece ∷ pieces) =
    one_sorted ends_cmp (nat_lt lower.0 upper.0 && not (list_any (is_between lower.1 upper.1) nodes)) (record { lower = lower.0; upper = upper.0; width = greatest_width (piece ∷ pieces) })

-- ---- all wires are in order

abbrev wires_from : List Item → List Node → ℕ × Node → List Wire
wires_from items nodes lower = flat_map (wire_between items nodes lower) (numbered nodes)

-- the ends of a wire
ends_of : (items : List Item) (nodes : List Node) (lower upper : ℕ × Node) (w : Wire) → Contains (wire_between items nodes lower upper) w → (w.lower ≡ lower.0) × (w.upper ≡ upper.0)
ends_of items nodes lower upper w h =
    let over = over_tells nodes lower upper (pieces_over items lower.1 upper.1) w h in
    (ap (λ (z : Wire). z.lower) (sym over.is), ap (λ (z : Wire). z.upper) (sym over.is))

lower_of : (items : List Item) (nodes : List Node) (lower : ℕ × Node) (w : Wire) → Contains (wires_from items nodes lower) w → w.lower ≡ lower.0
lower_of items nodes lower w h = let found = in_flat (wire_between items nodes lower) (numbered nodes) w h in (ends_of items nodes lower found.element w found.inside).0

wires_sorted : (items : List Item) (nodes : List Node) → IsStrictlySortedBy ends_cmp (wires_of items nodes)
unfolding wires_of
wires_sorted items nodes =
    flat_sorted (λ (n : ℕ × Node). n.0) ends_cmp (wires_from items nodes) (numbered nodes) (numbers_rise 1 nodes)
    (λ lower. flat_sorted (λ (n : ℕ × Node). n.0) ends_cmp (wire_between items nodes lower) (numbered nodes) (numbers_rise 1 nodes)
    (λ upper. over_sorted nodes lower upper (pieces_over items lower.1 upper.1))
    (λ x y z w less in_z in_w.
    let of_z = ends_of items nodes lower x z in_z in
    let of_w = ends_of items nodes lower y w in_w in
    let up_z = of_z.1 in
    let up_w = of_w.1 in
    ends_less z w (inr (of_z.0 ∙ sym of_w.0, omega (arith, less, up_z, up_w)))))
    (λ x y z w less in_z in_w.
    let low_z = lower_of items nodes x z in_z in
    let low_w = lower_of items nodes y w in_w in
    ends_less z w (inl (omega (arith, less, low_z, low_w))))

-- ---- and they are the wires

-- a piece of the net that runs over two nodes with no node between them is a segment
segment_of : (items : List Item) (nodes : List Node) (n m : ℕ) (a b : Node) (item : Item) → AreInOrder nodes → All IsItem items → Contains items item → IsNumber nodes n a → IsNumber nodes m b → n < m →
    runs_over a b item ≡ true → list_any (is_between a b) nodes ≡ false → IsSegment items nodes (record { lower = n; upper = m; width = item.width })
segment_of items nodes n m a b item order all in' num_a num_b less over clear =
    let parts = and_parts (is_piece item) (is_on item a.layer a.at && is_on item b.layer b.at) over in
    let ends = and_parts (is_on item a.layer a.at) (is_on item b.layer b.at) parts.1 in
    let is = All-contains IsItem items item all in' in
    record {
      item = item;
      drawn = in';
      piece = parts.0;
      width = refl;
      lower = (a, num_a, ends.0);
      upper = (b, num_b, ends.1);
      order = less;
      between = λ k above below on'.
          let c = on'.0 in
          let between = on_between item a b c (flat item (piece_form item is parts.0)) (runs_tell item a ends.0) (runs_tell item b ends.1) (runs_tell item c on'.2)
          (lower_before nodes n k a c order num_a on'.1 above) (lower_before nodes k m c b order on'.1 num_b below) in
          true≢false (sym (list_any-from_Any (is_between a b) nodes (on'.1.0, c, slice_get_within nodes on'.1.0 c on'.1.2, get_or_from_slice_get nodes on'.1.0 c c on'.1.2, between_gives a b c between)) ∙ clear);
    }

-- and the other way round
clear_of : (items : List Item) (nodes : List Node) (w : Wire) → AreInOrder nodes → All IsItem items → (s : IsSegment items nodes w) → list_any (is_between s.lower.0 s.upper.0) nodes ≡ false
clear_of items nodes w order all s =
    let a = s.lower.0 in
    let b = s.upper.0 in
    let on_a = runs_tell s.item a s.lower.2 in
    let on_b = runs_tell s.item b s.upper.2 in
    list_any_none (is_between a b) nodes (λ k d lt. apart_by (is_between a b (get_or nodes k d)) (λ h.
    let c = get_or nodes k d in
    let number : IsNumber nodes (k + 1) c = (k, refl, slice_get-get_or nodes k d lt) in
    let between = between_tells a b c h in
    s.between (k + 1)
    (before_lower nodes w.lower (k + 1) a c order s.lower.1 number (between_after a b c between))
    (before_lower nodes (k + 1) w.upper c b order number s.upper.1 (between_before a b c (sym on_a.layer ∙ on_b.layer) between))
    (c, number, between_on s.item a b c on_a on_b between)))

over_of : (items : List Item) (nodes : List Node) (w : Wire) (s : IsSegment items nodes w) → Contains (pieces_over items s.lower.0 s.upper.0) s.item
over_of items nodes w s =
    filter_has (runs_over s.lower.0 s.upper.0) items s.item s.drawn
    (both (is_piece s.item) (is_on s.item s.lower.0.layer s.lower.0.at && is_on s.item s.upper.0.layer s.upper.0.at) s.piece
    (both (is_on s.item s.lower.0.layer s.lower.0.at) (is_on s.item s.upper.0.layer s.upper.0.at) s.lower.2 s.upper.2))

wide : (items : List Item) (a b : Node) (item : Item) → All IsItem items → Contains (pieces_over items a b) item → pos 1 ≤ℤ item.width
wide items a b item all in' =
    let found = filter_tells (runs_over a b) items item in' in
    (piece_form item (All-contains IsItem items item all found.0) (and_parts (is_piece item) (is_on item a.layer a.at && is_on item b.layer b.at) found.1).0).width

pub wire_tells : (items : List Item) (nodes : List Node) (w : Wire) → AreInOrder nodes → All IsItem items → Contains (wires_of items nodes) w → IsWire items nodes w
unfolding wires_of
wire_tells items nodes w order all h =
    let first = in_flat (wires_from items nodes) (numbered nodes) w h in
    let second = in_flat (wire_between items nodes first.element) (numbered nodes) w first.inside in
    let n = first.element.0 in
    let a = first.element.1 in
    let m = second.element.0 in
    let b = second.element.1 in
    let pieces = pieces_over items a b in
    let over = over_tells nodes first.element second.element pieces w second.inside in
    let num_a = in_number nodes n a first.member in
    let num_b = in_number nodes m b second.member in
    let most = greatest_reached pieces over.piece over.of (wide items a b over.piece all over.of) in
    let found = filter_tells (runs_over a b) items most.item most.member in
    let segment = segment_of items nodes n m a b most.item order all found.0 num_a num_b over.less found.1 over.clear in
    let is : record { lower = n; upper = m; width = most.item.width } ≡ w = (λ i. record { lower = n; upper = m; width = most.is i }) ∙ over.is in
    record {
      segment = subst (IsSegment items nodes) is segment;
      widest = λ other seg ends.
          let same = same_tells other w ends in
          let low : n ≡ other.lower = ap (λ (z : Wire). z.lower) over.is ∙ sym same.0 in
          let high : m ≡ other.upper = ap (λ (z : Wire). z.upper) over.is ∙ sym same.1 in
          let is_a = one_node nodes other.lower seg.lower.0 a seg.lower.1 (subst (λ k. IsNumber nodes k a) low num_a) in
          let is_b = one_node nodes other.upper seg.upper.0 b seg.upper.1 (subst (λ k. IsNumber nodes k b) high num_b) in
          let in' : Contains pieces seg.item = subst (λ (x : Node). Contains (pieces_over items x b) seg.item) is_a (subst (λ (y : Node). Contains (pieces_over items seg.lower.0 y) seg.item) is_b (over_of items nodes other seg)) in
          let low' = greatest_bounds pieces seg.item in' in
          let of_w : greatest_width pieces ≡ w.width = ap (λ (z : Wire). z.width) over.is in
          subst (λ z. z ≤ℤ w.width) (sym seg.width) (subst (λ z. seg.item.width ≤ℤ z) of_w low');
    }

wire_gives : (items : List Item) (nodes : List Node) (w : Wire) → AreInOrder nodes → All IsItem items → IsWire items nodes w → Contains (wires_of items nodes) w
unfolding wires_of
wire_gives items nodes w order all h =
    let s = h.segment in
    let a = s.lower.0 in
    let b = s.upper.0 in
    let pieces = pieces_over items a b in
    let in' = over_of items nodes w s in
    let clear = clear_of items nodes w order all s in
    let most = greatest_reached pieces s.item in' (wide items a b s.item all in') in
    let found = filter_tells (runs_over a b) items most.item most.member in
    let other = segment_of items nodes w.lower w.upper a b most.item order all found.0 s.lower.1 s.upper.1 s.order found.1 clear in
    let low = h.widest (record { lower = w.lower; upper = w.upper; width = most.item.width }) other (same_gives (record { lower = w.lower; upper = w.upper; width = most.item.width }) w refl refl) in
    let high = greatest_bounds pieces s.item in' in
    let at_s = s.width in
    let at_most = most.is in
    let width : greatest_width pieces ≡ w.width = omega (arith, ints) in
    let is : record { lower = w.lower; upper = w.upper; width = greatest_width pieces } ≡ w = λ i. record { lower = w.lower; upper = w.upper; width = width i } in
    flat_has (wires_from items nodes) (numbered nodes) (w.lower, a) w (number_in nodes w.lower a s.lower.1)
    (flat_has (wire_between items nodes (w.lower, a)) (numbered nodes) (w.upper, b) w (number_in nodes w.upper b s.upper.1)
    (subst (Contains (wire_between items nodes (w.lower, a) (w.upper, b))) is (over_gives nodes (w.lower, a) (w.upper, b) pieces s.item in' s.order clear)))

pub wires_are_listed : (items : List Item) (nodes : List Node) (wires : List Wire) → AreInOrder nodes → All IsItem items → AreWires items nodes wires → wires ≡ wires_of items nodes
wires_are_listed items nodes wires order all are =
    same_sorted ends_total wires (wires_of items nodes) are.order (wires_sorted items nodes)
    (λ w in'. wire_gives items nodes w order all ((are.all w).0 in'))
    (λ w in'. (are.all w).1 (wire_tells items nodes w order all in'))
