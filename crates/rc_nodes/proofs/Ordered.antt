-- The taps on the centreline of an item, in order along it.
use Rattle.std.proofs.Common.{◌≡◌, ⊎_elim, ℕ, ℤ, ◌≤ℤ◌, ◌<ℤ◌, Bool, true, false, cond, List, [], ◌∷◌, map, refl, ap, sym, ◌∙◌, subst, arith}
use Rattle.std.specs.Prelude.{Contains, filter, int_le, ◌&&◌, ◌==◌}
use Rattle.std.specs.List.{AllByRecursion}
use Rattle.std.specs.List.Sorted.{IsStrictlySortedBy}
use Rattle.std.specs.declared.cmp.Ordering.{Ordering}
use Rattle.std.specs.declared.cmp.Ordering.TheVariants.{Less}
use Rattle.std.specs.Ordering.{ordering_then, nat_cmp, int_cmp, int_eq, on}
use Rattle.std.proofs.lemmas.Int.{ints}
use Rattle.std.proofs.lemmas.Bool.{true≢false, and_parts, eqb-true}
use Rattle.std.proofs.lemmas.List.Elements.{filter_passes, recursion_from_All}
use Rattle.std.proofs.lemmas.List.Kept.{IsStrictlySortedBy-filter}
use Rattle.std.proofs.lemmas.List.Sorted.{IsPermutation-sym, Contains-permutation}
use Rattle.rc_geom.specs.declared.rect.Pt.{Pt}
use Rattle.rc_geom.specs.Split.{middle}
use Rattle.rc_geom.proofs.Bounds.{le_tells}
use Rattle.rc_layout.specs.declared.item.Item.{Item}
use Rattle.rc_layout.specs.declared.item.ItemKind.{ItemKind}
use Rattle.rc_layout.specs.declared.item.ItemKind.TheVariants.{Piece, Pad, Patch}
use Rattle.rc_layout.specs.Items.{is_level, along, is_on, IsItem, HasForm, IsUprightPiece}
use Rattle.rc_nodes.specs.declared.node.Node.{Node}
use Rattle.rc_nodes.specs.declared.line.Tap.{Tap}
use Rattle.rc_nodes.specs.contracts.line.TapOrd.TheImpl as order
use Rattle.rc_nodes.specs.contracts.line.TapOrd.TheImpl.Laws.{total-law}
use Rattle.rc_nodes.specs.Nodes.{node_cmp, AreInOrder, numbered}
use Rattle.rc_nodes.specs.NetPlane.{nodes_on}
use Rattle.rc_nodes.specs.Lines.{tap_of, AreTaps, across, lies_on}
use Rattle.rc_nodes.specs.Shares.{first_end, last_end}
use Rattle.rc_nodes.proofs.Nearest.{middle_behind, middle_before}
use Rattle.rc_nodes.proofs.Parted.{Parts}
use Rattle.rc_nodes.proofs.Tiled.{InParts, taps_on}
use Rattle.rc_nodes.proofs.Sorted.{then_less, nat_less, int_less, nat_is_equal, int_is_less, int_is_equal, contains_map, image_of, filter_has, filter_tells, same_sorted, sorted_map, sorted_numbered, sorted_from_pairs}

-- ---- the axis of an item

int_eq_tells : (a b : ℤ) → int_eq a b ≡ true → a ≡ b
int_eq_tells a b h = grind (arith, ints)

int_eq_passes : (a b : ℤ) → a ≡ b → int_eq a b ≡ true
int_eq_passes a b h = grind (arith, ints)

-- an item that isn't level is a vertical piece
upright : (item : Item) (kind : ItemKind) → HasForm kind item → is_level item ≡ false → IsUprightPiece item
upright item Piece form level = ⊎_elim
    (λ flat. absurd (true≢false (sym (int_eq_passes item.a.y item.b.y flat.level) ∙ level)))
    (λ up. up)
    form.axis
upright item Pad form level = absurd (true≢false (sym (int_eq_passes item.a.y item.b.y (ap (λ (p : Pt). p.y) form.point)) ∙ level))
upright item Patch form level = absurd (true≢false (sym (int_eq_passes item.a.y item.b.y (ap (λ (p : Pt). p.y) form.point)) ∙ level))

-- ---- nodes on an item as taps

-- the bounds of a place between two ends that are one are a test for it
one_place : (a b y : ℤ) → a ≡ b → (int_le a y && int_le y b) ≡ int_eq y a
one_place a b y h = grind (arith, ints)

eqb_flip : (a b : ℕ) → (a == b) ≡ (b == a)
eqb_flip a b = grind arith

lies_level : (layer n : ℕ) (a b p : Pt) → a.y ≡ b.y →
    ((n == layer) && int_eq p.y a.y && (int_le a.x p.x && int_le p.x b.x)) ≡ ((layer == n) && (int_le a.x p.x && int_le p.x b.x && (int_le a.y p.y && int_le p.y b.y)))
lies_level layer n a b p h =
    ap (λ t. t && int_eq p.y a.y && (int_le a.x p.x && int_le p.x b.x)) (eqb_flip n layer)
    ∙ (regroup (layer == n) (int_eq p.y a.y) (int_le a.x p.x && int_le p.x b.x)
    ∙ ap (λ t. (layer == n) && (int_le a.x p.x && int_le p.x b.x && t)) (sym (one_place a.y b.y p.y h)))
  where
    regroup : (x y z : Bool) → (x && y && z) ≡ (x && (z && y))
    regroup x y z = grind arith

lies_upright : (layer n : ℕ) (a b p : Pt) → a.x ≡ b.x →
    ((n == layer) && int_eq p.x a.x && (int_le a.y p.y && int_le p.y b.y)) ≡ ((layer == n) && (int_le a.x p.x && int_le p.x b.x && (int_le a.y p.y && int_le p.y b.y)))
lies_upright layer n a b p h =
    ap (λ t. t && int_eq p.x a.x && (int_le a.y p.y && int_le p.y b.y)) (eqb_flip n layer)
    ∙ (regroup (layer == n) (int_eq p.x a.x) (int_le a.y p.y && int_le p.y b.y)
    ∙ ap (λ t. (layer == n) && (t && (int_le a.y p.y && int_le p.y b.y))) (sym (one_place a.x b.x p.x h)))
  where
    regroup : (x y z : Bool) → (x && y && z) ≡ (x && (y && z))
    regroup x y z = grind arith

pub lies_is_on : (item : Item) (n : ℕ × Node) → IsItem item → lies_on item (tap_of (is_level item) n) ≡ is_on item n.1.layer n.1.at
lies_is_on item n is = by (is_level item) refl
  where
    by : (b : Bool) → is_level item ≡ b →
        ((n.1.layer == item.layer) && int_eq (cond b n.1.at.y n.1.at.x) (cond b item.a.y item.a.x) && (int_le (cond b item.a.x item.a.y) (cond b n.1.at.x n.1.at.y) && int_le (cond b n.1.at.x n.1.at.y) (cond b item.b.x item.b.y)))
        ≡ is_on item n.1.layer n.1.at
    by true level = lies_level item.layer n.1.layer item.a item.b n.1.at (int_eq_tells item.a.y item.b.y level)
    by false level = lies_upright item.layer n.1.layer item.a item.b n.1.at (upright item item.kind is.form level).upright

-- what a tap on an item tells
pub record Lies (item : Item) (tap : Tap) : Type 0 where
  pub layer : tap.layer ≡ item.layer
  pub line : tap.line ≡ across item item.a
  pub low : along item item.a ≤ℤ tap.along
  pub high : tap.along ≤ℤ along item item.b

pub lies_tells : (item : Item) (tap : Tap) → lies_on item tap ≡ true → Lies item tap
lies_tells item tap h =
    let outer = and_parts ((tap.layer == item.layer) && int_eq tap.line (across item item.a)) (int_le (along item item.a) tap.along && int_le tap.along (along item item.b)) h in
    let front = and_parts (tap.layer == item.layer) (int_eq tap.line (across item item.a)) outer.0 in
    let back = and_parts (int_le (along item item.a) tap.along) (int_le tap.along (along item item.b)) outer.1 in
    record {
      layer = eqb-true tap.layer item.layer front.0;
      line = int_eq_tells tap.line (across item item.a) front.1;
      low = le_tells (along item item.a) tap.along back.0;
      high = le_tells tap.along (along item item.b) back.1;
    }

-- ---- their order

-- two nodes on one line, one before the other, lie so along it
before_along : (level : Bool) (a b : ℕ × Node) → (tap_of level a).layer ≡ (tap_of level b).layer → (tap_of level a).line ≡ (tap_of level b).line → node_cmp a.1 b.1 ≡ Less →
    (tap_of level a).along <ℤ (tap_of level b).along
before_along true a b layer line less = ⊎_elim
    (λ first. ⊎_elim
    (λ l. let lt = nat_less a.1.layer b.1.layer l in absurd (omega arith))
    (λ l. let lt = int_less a.1.at.y b.1.at.y l.1 in absurd (omega (arith, ints)))
    (then_less (nat_cmp a.1.layer b.1.layer) (int_cmp a.1.at.y b.1.at.y) first))
    (λ later. int_less a.1.at.x b.1.at.x later.1)
    (then_less (ordering_then (nat_cmp a.1.layer b.1.layer) (int_cmp a.1.at.y b.1.at.y)) (int_cmp a.1.at.x b.1.at.x) less)
before_along false a b layer line less = ⊎_elim
    (λ first. ⊎_elim
    (λ l. let lt = nat_less a.1.layer b.1.layer l in absurd (omega arith))
    (λ l. int_less a.1.at.y b.1.at.y l.1)
    (then_less (nat_cmp a.1.layer b.1.layer) (int_cmp a.1.at.y b.1.at.y) first))
    (λ later. let lt = int_less a.1.at.x b.1.at.x later.1 in absurd (omega (arith, ints)))
    (then_less (ordering_then (nat_cmp a.1.layer b.1.layer) (int_cmp a.1.at.y b.1.at.y)) (int_cmp a.1.at.x b.1.at.x) less)

-- the order of taps on one line
taps_less : (a b : Tap) → a.layer ≡ b.layer → a.line ≡ b.line → a.along <ℤ b.along → order.ghosts.cmp a b ≡ Less
taps_less a b layer line less =
    ap (λ o. ordering_then o (ordering_then (int_cmp a.line b.line) (ordering_then (int_cmp a.along b.along) (nat_cmp a.node b.node)))) (nat_is_equal a.layer b.layer layer)
    ∙ (ap (λ o. ordering_then o (ordering_then (int_cmp a.along b.along) (nat_cmp a.node b.node))) (int_is_equal a.line b.line line)
    ∙ ap (λ o. ordering_then o (nat_cmp a.node b.node)) (int_is_less a.along b.along less))

-- nodes on an item
abbrev On : Item → ℕ × Node → Type 0
On item n = is_on item n.1.layer n.1.at ≡ true

along_cmp : Tap → Tap → Ordering
along_cmp = on (λ s. s.along) int_cmp

on_before : (item : Item) → IsItem item → (a b : ℕ × Node) → On item a → On item b → node_cmp a.1 b.1 ≡ Less → (tap_of (is_level item) a).along <ℤ (tap_of (is_level item) b).along
on_before item is a b at_a at_b less =
    let la = lies_tells item (tap_of (is_level item) a) (lies_is_on item a is ∙ at_a) in
    let lb = lies_tells item (tap_of (is_level item) b) (lies_is_on item b is ∙ at_b) in
    before_along (is_level item) a b (la.layer ∙ sym lb.layer) (la.line ∙ sym lb.line) less

on_less : (item : Item) → IsItem item → (a b : ℕ × Node) → On item a → On item b → node_cmp a.1 b.1 ≡ Less → order.ghosts.cmp (tap_of (is_level item) a) (tap_of (is_level item) b) ≡ Less
on_less item is a b at_a at_b less =
    let la = lies_tells item (tap_of (is_level item) a) (lies_is_on item a is ∙ at_a) in
    let lb = lies_tells item (tap_of (is_level item) b) (lies_is_on item b is ∙ at_b) in
    taps_less (tap_of (is_level item) a) (tap_of (is_level item) b) (la.layer ∙ sym lb.layer) (la.line ∙ sym lb.line) (on_before item is a b at_a at_b less)

all_on : (nodes : List Node) (item : Item) → AllByRecursion (On item) (nodes_on nodes item)
all_on nodes item =
    let test : ℕ × Node → Bool = λ n. is_on item n.1.layer n.1.at in
    recursion_from_All (On item) (filter test (numbered nodes)) (filter_passes test (numbered nodes))

nodes_sorted : (nodes : List Node) (item : Item) → AreInOrder nodes → IsStrictlySortedBy (on (λ (n : ℕ × Node). n.1) node_cmp) (nodes_on nodes item)
nodes_sorted nodes item h = IsStrictlySortedBy-filter (on (λ (n : ℕ × Node). n.1) node_cmp) (λ n. is_on item n.1.layer n.1.at) (numbered nodes) (sorted_numbered node_cmp 1 nodes (sorted_from_pairs node_cmp nodes h))

pub taps_sorted : (nodes : List Node) (item : Item) → AreInOrder nodes → IsItem item → IsStrictlySortedBy order.ghosts.cmp (taps_on nodes item)
taps_sorted nodes item h is =
    sorted_map (on (λ (n : ℕ × Node). n.1) node_cmp) order.ghosts.cmp (tap_of (is_level item)) (On item) (on_less item is) (nodes_on nodes item) (all_on nodes item) (nodes_sorted nodes item h)

-- ---- the parts of an item

abbrev Rising : List Tap → Type 0
Rising taps = IsStrictlySortedBy (on (λ (s : Tap). s.along) int_cmp) taps

taps_rise : (nodes : List Node) (item : Item) → AreInOrder nodes → IsItem item → Rising (taps_on nodes item)
taps_rise nodes item h is =
    sorted_map (on (λ (n : ℕ × Node). n.1) node_cmp) (on (λ (s : Tap). s.along) int_cmp) (tap_of (is_level item)) (On item)
    (λ a b at_a at_b less. int_is_less (tap_of (is_level item) a).along (tap_of (is_level item) b).along (on_before item is a b at_a at_b less))
    (nodes_on nodes item) (all_on nodes item) (nodes_sorted nodes item h)

all_lie : (item : Item) → IsItem item → (ns : List (ℕ × Node)) → AllByRecursion (On item) ns → AllByRecursion (Lies item) (map (tap_of (is_level item)) ns)
all_lie item is [] h = tt
all_lie item is (n ∷ ns) h = (lies_tells item (tap_of (is_level item) n) (lies_is_on item n is ∙ h.0), all_lie item is ns h.1)

rising_pair : (tap next : Tap) (later : List Tap) → Rising (tap ∷ next ∷ later) → (tap.along <ℤ next.along) × Rising (next ∷ later)
unfolding IsStrictlySortedBy
rising_pair tap next later h = (int_less tap.along next.along h.0.0, h.1)

parts_from : (item : Item) (from end : ℤ) (tap : Tap) (later : List Tap) → from ≤ℤ tap.along → along item item.b ≤ℤ end → AllByRecursion (Lies item) later → Rising (tap ∷ later) → Parts from end tap later
parts_from item from end tap [] low high all rise = tt
parts_from item from end tap (next ∷ later) low high all rise =
    let pair = rising_pair tap next later rise in
    let order = pair.0 in
    let behind = middle_behind tap.along next.along order in
    let before = middle_before tap.along next.along order in
    let within = all.0.high in
    (order, omega (arith, ints), omega (arith, ints), parts_from item (middle tap.along next.along) end next later before high all.1 pair.1)

-- an item with an extent covers its centreline
record Reaches (item : Item) : Type 0 where
  first : first_end item ≤ℤ along item item.a
  last : along item item.b ≤ℤ last_end item

reaches_by : (item : Item) (level : Bool) → is_level item ≡ level → cond level item.rect.x0 item.rect.y0 ≤ℤ cond level item.a.x item.a.y → cond level item.b.x item.b.y ≤ℤ cond level item.rect.x1 item.rect.y1 → Reaches item
reaches_by item level is low high = record {
  first = subst (λ b. cond b item.rect.x0 item.rect.y0 ≤ℤ cond b item.a.x item.a.y) (sym is) low;
  last = subst (λ b. cond b item.b.x item.b.y ≤ℤ cond b item.rect.x1 item.rect.y1) (sym is) high;
}

int_eq_fails : (a b : ℤ) → a <ℤ b → int_eq a b ≡ false
int_eq_fails a b h = grind (arith, ints)

same_ends : (item : Item) → item.a ≡ item.b → along item item.a <ℤ along item item.b → ⊥
same_ends item point less = let same : along item item.a ≡ along item item.b = ap (along item) point in omega (arith, ints)

reaches : (item : Item) (kind : ItemKind) → HasForm kind item → along item item.a <ℤ along item item.b → Reaches item
reaches item Piece form order = ⊎_elim
    (λ flat. reaches_by item true (int_eq_passes item.a.y item.b.y flat.level) flat.left flat.right)
    (λ up. reaches_by item false (int_eq_fails item.a.y item.b.y up.order) up.below up.above)
    form.axis
reaches item Pad form order = absurd (same_ends item form.point order)
reaches item Patch form order = absurd (same_ends item form.point order)

has_extent : (item : Item) → IsItem item → first_end item <ℤ last_end item
has_extent item is = by (is_level item)
  where
    by : (level : Bool) → cond level item.rect.x0 item.rect.y0 <ℤ cond level item.rect.x1 item.rect.y1
    by true = is.shape.wide
    by false = is.shape.high

in_parts_by : (item : Item) (taps : List Tap) → IsItem item → AllByRecursion (Lies item) taps → Rising taps → InParts item taps
in_parts_by item [] is all rise = has_extent item is
in_parts_by item (tap ∷ []) is all rise = tt
in_parts_by item (tap ∷ next ∷ later) is all rise =
    let pair = rising_pair tap next later rise in
    let order = pair.0 in
    let low = all.0.low in
    let high = all.1.0.high in
    let ends = reaches item item.kind is.form (omega (arith, ints)) in
    let first = ends.first in
    parts_from item (first_end item) (last_end item) tap (next ∷ later) (omega (arith, ints)) ends.last all.1 rise

pub in_parts : (nodes : List Node) (item : Item) → AreInOrder nodes → IsItem item → InParts item (taps_on nodes item)
in_parts nodes item h is = in_parts_by item (taps_on nodes item) is (all_lie item is (nodes_on nodes item) (all_on nodes item)) (taps_rise nodes item h is)

-- ---- the taps that are found on a line

pub found_is : (nodes : List Node) (item : Item) (taps : List Tap) → AreInOrder nodes → IsItem item → AreTaps (is_level item) nodes taps → filter (lies_on item) taps ≡ taps_on nodes item
found_is nodes item taps h is are =
    let f : ℕ × Node → Tap = tap_of (is_level item) in
    let test : ℕ × Node → Bool = λ n. is_on item n.1.layer n.1.at in
    same_sorted total-law (filter (lies_on item) taps) (taps_on nodes item)
    (IsStrictlySortedBy-filter order.ghosts.cmp (lies_on item) taps are.order)
    (taps_sorted nodes item h is)
    (λ s in'.
    let found = filter_tells (lies_on item) taps s in' in
    let image = image_of f (numbered nodes) s (Contains-permutation taps (map f (numbered nodes)) s (IsPermutation-sym (map f (numbered nodes)) taps are.moved) found.0) in
    let on' : test image.element ≡ true = sym (lies_is_on item image.element is) ∙ (ap (lies_on item) image.is ∙ found.1) in
    subst (Contains (taps_on nodes item)) image.is (contains_map f (filter test (numbered nodes)) image.element (filter_has test (numbered nodes) image.element image.member on')))
    (λ s in'.
    let image = image_of f (filter test (numbered nodes)) s in' in
    let found = filter_tells test (numbered nodes) image.element image.member in
    let there = Contains-permutation (map f (numbered nodes)) taps (f image.element) are.moved (contains_map f (numbered nodes) image.element found.0) in
    subst (Contains (filter (lies_on item) taps)) image.is (filter_has (lies_on item) taps (f image.element) there (lies_is_on item image.element is ∙ found.1)))
