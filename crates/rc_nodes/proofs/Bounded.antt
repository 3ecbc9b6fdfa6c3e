-- Where the tiles of a net lie, and how many there are.
use Rattle.std.proofs.Common.{◌≡◌, ◌≤◌, ◌+◌, ℕ, suc, ℤ, ◌≤ℤ◌, Bool, true, false, cond, List, [], ◌∷◌, ◌++◌, map, length, get_or, inl, Some, refl, ap, sym, ◌∙◌, subst, arith}
use Rattle.std.specs.Prelude.{All, Contains, int_lt, slice_get}
use Rattle.std.specs.List.{AllByRecursion, enumerate_from, flat_map, sum_by}
use Rattle.std.proofs.lemmas.Int.{ints}
use Rattle.std.proofs.lemmas.List.{length-map, length-append}
use Rattle.std.proofs.lemmas.List.Elements.{All-contains, All-head, All-tail, All-from_recursion, Contains-get_or}
use Rattle.std.proofs.lemmas.Option.{slice_get_within, slice_get-get_or, get_or_from_slice_get}
use Rattle.std.proofs.lemmas.List.Sums.{sum_by-cons}
use Rattle.rc_geom.specs.declared.rect.Rect.{Rect}
use Rattle.rc_geom.specs.declared.tile.Tile.{Tile}
use Rattle.rc_geom.specs.Rects.{IsInside}
use Rattle.rc_geom.proofs.Bounds.{lt_passes}
use Rattle.rc_layout.specs.declared.item.Item.{Item}
use Rattle.rc_layout.specs.declared.item.ItemKind.{ItemKind}
use Rattle.rc_layout.specs.declared.item.ItemKind.TheVariants.{Piece, Pad, Patch}
use Rattle.rc_layout.specs.declared.net.Net.{Net}
use Rattle.rc_layout.specs.Items.{along, is_piece_kind, is_level, is_on, IsItem, IsSpot, HasForm}
use Rattle.rc_layout.specs.Nets.{IsTied}
use Rattle.rc_nodes.specs.declared.node.Node.{Node}
use Rattle.rc_nodes.specs.declared.line.Tap.{Tap}
use Rattle.rc_nodes.specs.Nodes.{AreInOrder, nodes_of, numbered}
use Rattle.rc_nodes.specs.NetPlane.{nodes_on}
use Rattle.rc_nodes.specs.Lines.{tap_of}
use Rattle.rc_nodes.specs.Counts.{item_count, tile_count}
use Rattle.rc_nodes.specs.Shares.{Share, share, share_end, shares, shares_from, first_end, last_end, share_tile, item_tiles, net_tiles, LiesInItem, AreGrounded}
use Rattle.rc_nodes.proofs.Sorted.{contains_none, contains_first, contains_later, contains_map, image_of, filter_has, filter_tells}
use Rattle.rc_nodes.proofs.Tiled.{InParts, taps_on}
use Rattle.rc_nodes.proofs.Ordered.{in_parts, Lies, lies_tells, lies_is_on}
use Rattle.rc_nodes.proofs.Ranked.{IsPart, all_parts}
use Rattle.rc_nodes.proofs.Numbered.{nodes_are}
use Rattle.rc_nodes.proofs.Words.{end_is_on, item_rises, number_in}
use Rattle.rc_nodes.proofs.Wired.{in_flat}
use Rattle.rc_nodes.proofs.Listed.{at_place}

pub all_from : {X : Type 0} (P : X → Type 0) (xs : List X) → ((x : X) → Contains xs x → P x) → All P xs
all_from P xs h = λ k d lt. h (get_or xs k d) (Contains-get_or xs k d lt)

-- ---- each tile lies in its item

inside_by : (level : Bool) (r : Rect) (from to : ℤ) → cond level r.x0 r.y0 ≤ℤ from → to ≤ℤ cond level r.x1 r.y1 →
    IsInside (cond level (record { x0 = from; y0 = r.y0; x1 = to; y1 = r.y1 }) (record { x0 = r.x0; y0 = from; x1 = r.x1; y1 = to })) r
inside_by true r from to low high = record { left = low; right = high; below = omega (arith, ints); above = omega (arith, ints) }
inside_by false r from to low high = record { left = omega (arith, ints); right = omega (arith, ints); below = low; above = high }

tile_lies : (net : ℕ) (nodes : List Node) (items : List Item) (tile : Tile) → AreInOrder nodes → All IsItem items → Contains (flat_map (item_tiles net nodes) (enumerate_from 0 items)) tile → LiesInItem items tile
tile_lies net nodes items tile order all h =
    let found = in_flat (item_tiles net nodes) (enumerate_from 0 items) tile h in
    let rank = found.element.0 in
    let item = found.element.1 in
    let place = at_place items rank item found.member in
    let is : IsItem item = item_of items rank item all place in
    let parts = shares (first_end item) (last_end item) (taps_on nodes item) in
    let image = image_of (share_tile net rank item) parts tile found.inside in
    let part = image.element in
    let ends = All-contains (IsPart (first_end item) (last_end item)) parts part (All-from_recursion (IsPart (first_end item) (last_end item)) parts (all_parts item (taps_on nodes item) (in_parts nodes item order is))) image.member in
    subst (LiesInItem items) image.is (record { item = item; place = place; layer = refl; inside = inside_by (is_level item) item.rect part.from part.to ends.low ends.high })
  where
    item_of : (items : List Item) (k : ℕ) (item : Item) → All IsItem items → slice_get items k ≡ Some item → IsItem item
    item_of items k item all at = All-contains IsItem items item all (k, slice_get_within items k item at, get_or_from_slice_get items k item item at)

pub tiles_lie : (net : ℕ) (nodes : List Node) (items : List Item) → AreInOrder nodes → All IsItem items → All (LiesInItem items) (net_tiles net nodes items)
unfolding net_tiles
tiles_lie net nodes items order all = all_from (LiesInItem items) (net_tiles net nodes items) (λ tile h. tile_lies net nodes items tile order all h)

-- ---- without nodes

one_tile : (net rank : ℕ) (item : Item) → IsItem item → item_tiles net [] (rank, item) ≡ share_tile net rank item (record { node = 0; from = first_end item; to = last_end item }) ∷ []
one_tile net rank item is =
    let order : InParts item [] = in_parts [] item (λ i j d less within. absurd (omega (arith, within))) is in
    ap (λ b. map (share_tile net rank item) (cond b (record { node = 0; from = first_end item; to = last_end item } ∷ []) [])) (lt_passes (first_end item) (last_end item) order)

grounded_from : (net rank : ℕ) (items : List Item) → All IsItem items → (length (flat_map (item_tiles net []) (enumerate_from rank items)) ≡ length items) × AllByRecursion (λ (t : Tile). t.node ≡ 0) (flat_map (item_tiles net []) (enumerate_from rank items))
grounded_from net rank [] all = (refl, tt)
grounded_from net rank (item ∷ items) all =
    let one = one_tile net rank item (All-head IsItem item items all) in
    let rest = grounded_from net (rank + 1) items (All-tail IsItem item items all) in
    let later = flat_map (item_tiles net []) (enumerate_from (rank + 1) items) in
    subst (λ (l : List Tile). (length (l ++ later) ≡ suc (length items)) × AllByRecursion (λ (t : Tile). t.node ≡ 0) (l ++ later)) (sym one) (ap suc rest.0, (refl, rest.1))

pub tiles_grounded : (net : ℕ) (nodes : List Node) (items : List Item) → All IsItem items → nodes ≡ [] → AreGrounded items (net_tiles net nodes items)
unfolding net_tiles
tiles_grounded net nodes items all none =
    let both = grounded_from net 0 items all in
    subst (λ (ns : List Node). AreGrounded items (flat_map (item_tiles net ns) (enumerate_from 0 items))) (sym none)
    (record { one = both.0; node = All-from_recursion (λ (t : Tile). t.node ≡ 0) (flat_map (item_tiles net []) (enumerate_from 0 items)) both.1 })

-- ---- with the ends of all items among the nodes

share_few : (node : ℕ) (from to : ℤ) → length (share node from to) ≤ 1
share_few node from to = by (int_lt from to)
  where
    by : (b : Bool) → length {A = Share} (cond b (record { node = node; from = from; to = to } ∷ []) []) ≤ 1
    by true = omega arith
    by false = omega arith

shares_few : (from end : ℤ) (taps : List Tap) → length (shares_from from end taps) ≤ length taps
shares_few from end [] = omega arith
shares_few from end (tap ∷ later) =
    let to = share_end end tap later in
    let one = share_few tap.node from to in
    let rest = shares_few to end later in
    let all = length-append (share tap.node from to) (shares_from to end later) in
    omega (arith, one, rest, all)

-- some tap stands there
abbrev HasTap : List Tap → Type 0
HasTap [] = ⊥
HasTap (tap ∷ later) = Unit {0}

has_tap : (taps : List Tap) (tap : Tap) → Contains taps tap → HasTap taps
has_tap [] tap h = absurd (contains_none tap h)
has_tap (first ∷ later) tap h = tt

item_few : (item : Item) (taps : List Tap) → HasTap taps → length (shares (first_end item) (last_end item) taps) ≤ length taps
item_few item [] some = absurd some
item_few item (tap ∷ later) some = shares_few (first_end item) (last_end item) (tap ∷ later)

-- the taps on a pad or a patch lie in its point
tap_on : (nodes : List Node) (item : Item) (tap : Tap) → IsItem item → Contains (taps_on nodes item) tap → Lies item tap
tap_on nodes item tap is h =
    let image = image_of (tap_of (is_level item)) (nodes_on nodes item) tap h in
    let on' = (filter_tells (λ (n : ℕ × Node). is_on item n.1.layer n.1.at) (numbered nodes) image.element image.member).1 in
    subst (Lies item) image.is (lies_tells item (tap_of (is_level item) image.element) (lies_is_on item image.element is ∙ on'))

point_has_one : (item : Item) (taps : List Tap) → item.a ≡ item.b → InParts item taps → ((tap : Tap) → Contains taps tap → Lies item tap) → length taps ≤ 1
point_has_one item [] point parts lie = omega arith
point_has_one item (tap ∷ []) point parts lie = omega arith
point_has_one item (tap ∷ next ∷ later) point parts lie =
    let a = lie tap (contains_first tap (next ∷ later) tap refl) in
    let b = lie next (contains_later tap (next ∷ later) next (contains_first next later next refl)) in
    let low = a.low in
    let high = b.high in
    let rises = parts.0 in
    let same : along item item.a ≡ along item item.b = ap (along item) point in
    absurd (omega (arith, ints))

-- the lower end of the item is a node
abbrev pub HasEnd : List Node → Item → Type 0
HasEnd nodes item = Contains nodes (record { layer = item.layer; at = item.a })

ends_tap : (nodes : List Node) (item : Item) → IsItem item → HasEnd nodes item → HasTap (taps_on nodes item)
ends_tap nodes item is there =
    let node : Node = record { layer = item.layer; at = item.a } in
    let rises = item_rises item item.kind is.form in
    let on' = end_is_on item rises.0 rises.1 in
    let k = there.0 in
    let number : Contains (numbered nodes) (k + 1, node) = number_in nodes (k + 1) node (k, refl, slice_get-get_or nodes k node there.1 ∙ ap Some there.2) in
    let member = filter_has (λ (n : ℕ × Node). is_on item n.1.layer n.1.at) (numbered nodes) (k + 1, node) number on' in
    has_tap (taps_on nodes item) (tap_of (is_level item) (k + 1, node)) (contains_map (tap_of (is_level item)) (nodes_on nodes item) (k + 1, node) member)

tiles_of_item : (net rank : ℕ) (nodes : List Node) (item : Item) → AreInOrder nodes → IsItem item → HasEnd nodes item → length (item_tiles net nodes (rank, item)) ≤ item_count nodes item
tiles_of_item net rank nodes item order is there =
    let taps = taps_on nodes item in
    let parts = shares (first_end item) (last_end item) taps in
    let mapped : length (item_tiles net nodes (rank, item)) ≡ length parts = length-map parts (share_tile net rank item) in
    let few = item_few item taps (ends_tap nodes item is there) in
    let counted : length taps ≡ length (nodes_on nodes item) = length-map (nodes_on nodes item) (tap_of (is_level item)) in
    by item.kind is.form refl mapped few counted
  where
    spot : IsSpot item → length (taps_on nodes item) ≤ 1
    spot form = point_has_one item (taps_on nodes item) form.point (in_parts nodes item order is) (λ tap h. tap_on nodes item tap is h)

    by : (kind : ItemKind) → HasForm kind item → item.kind ≡ kind → length (item_tiles net nodes (rank, item)) ≡ length (shares (first_end item) (last_end item) (taps_on nodes item)) →
        length (shares (first_end item) (last_end item) (taps_on nodes item)) ≤ length (taps_on nodes item) → length (taps_on nodes item) ≡ length (nodes_on nodes item) →
        length (item_tiles net nodes (rank, item)) ≤ item_count nodes item
    by Piece form same mapped few counted =
        subst (λ n. length (item_tiles net nodes (rank, item)) ≤ n) (sym (ap (λ k. cond (is_piece_kind k) (length (nodes_on nodes item)) 1) same)) (omega (arith, mapped, few, counted))
    by Pad form same mapped few counted = let one = spot form in
        subst (λ n. length (item_tiles net nodes (rank, item)) ≤ n) (sym (ap (λ k. cond (is_piece_kind k) (length (nodes_on nodes item)) 1) same)) (omega (arith, mapped, few, one))
    by Patch form same mapped few counted = let one = spot form in
        subst (λ n. length (item_tiles net nodes (rank, item)) ≤ n) (sym (ap (λ k. cond (is_piece_kind k) (length (nodes_on nodes item)) 1) same)) (omega (arith, mapped, few, one))

few_from : (net rank : ℕ) (nodes : List Node) (items : List Item) → AreInOrder nodes → All IsItem items → All (HasEnd nodes) items → length (flat_map (item_tiles net nodes) (enumerate_from rank items)) ≤ sum_by (item_count nodes) items
few_from net rank nodes [] order all ends = omega arith
few_from net rank nodes (item ∷ items) order all ends =
    let one = tiles_of_item net rank nodes item order (All-head IsItem item items all) (All-head (HasEnd nodes) item items ends) in
    let rest = few_from net (rank + 1) nodes items order (All-tail IsItem item items all) (All-tail (HasEnd nodes) item items ends) in
    let joined = length-append (item_tiles net nodes (rank, item)) (flat_map (item_tiles net nodes) (enumerate_from (rank + 1) items)) in
    let sum = sum_by-cons (item_count nodes) item items in
    omega (arith, one, rest, joined, sum)

pub tiles_few : (number : ℕ) (net : Net) (nodes : List Node) → AreInOrder nodes → All IsItem net.items → IsTied net → nodes ≡ nodes_of net → length (net_tiles number nodes net.items) ≤ tile_count nodes net.items
unfolding net_tiles
tiles_few number net nodes order all tied is = by nodes order (λ k d lt. subst (λ (ns : List Node). HasEnd ns (get_or net.items k d)) (sym is) (end_node (get_or net.items k d) (tied.ends k d lt).0))
  where
    end_node : (item : Item) → Contains net.points (item.layer, item.a) → HasEnd (nodes_of net) item
    end_node item point = ((nodes_are net all).all (record { layer = item.layer; at = item.a })).1 (inl point)

    none : (items : List Item) → All (HasEnd []) items → length (flat_map (item_tiles number []) (enumerate_from 0 items)) ≤ length items
    none [] ends = omega arith
    none (item ∷ items) ends = absurd (contains_none (record { layer = item.layer; at = item.a }) (All-head (HasEnd []) item items ends))

    by : (nodes : List Node) → AreInOrder nodes → All (HasEnd nodes) net.items → length (flat_map (item_tiles number nodes) (enumerate_from 0 net.items)) ≤ tile_count nodes net.items
    by [] order ends = none net.items ends
    by (node ∷ nodes) order ends = few_from number 0 (node ∷ nodes) net.items order all ends
