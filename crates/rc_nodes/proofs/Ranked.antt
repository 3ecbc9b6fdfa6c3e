-- The form of a net's tiles, and that those which overlap differ in rank.
use Rattle.std.proofs.Common.{◌≡◌, ◌≢◌, ◌≤◌, ◌+◌, ℕ, ℤ, ◌≤ℤ◌, ◌<ℤ◌, Bool, true, false, cond, List, [], ◌∷◌, ◌++◌, map, refl, sym, ◌∙◌, subst, arith}
use Rattle.std.specs.Prelude.{int_lt, int_le, All, AllPairs}
use Rattle.std.specs.List.{AllByRecursion, flat_map, enumerate_from}
use Rattle.std.proofs.lemmas.Int.{ints, by_lt_z}
use Rattle.std.proofs.lemmas.Bool.{and_parts}
use Rattle.std.proofs.lemmas.List.Elements.{All-from_recursion, recursion_from_All}
use Rattle.std.proofs.lemmas.List.Kept.{AllPairs-cons}
use Rattle.rc_geom.specs.declared.rect.Rect.{Rect}
use Rattle.rc_geom.specs.declared.tile.Tile.{Tile}
use Rattle.rc_geom.specs.Rects.{IsNearRect}
use Rattle.rc_geom.specs.Plane.{Overlaps, RanksDiffer}
use Rattle.rc_geom.proofs.Bounds.{lt_passes, lt_fails, lt_tells, le_tells}
use Rattle.rc_layout.specs.declared.item.Item.{Item}
use Rattle.rc_layout.specs.Items.{is_level, along, IsItem, IsShape}
use Rattle.rc_nodes.specs.declared.node.Node.{Node}
use Rattle.rc_nodes.specs.declared.line.Tap.{Tap}
use Rattle.rc_nodes.specs.Nodes.{AreInOrder}
use Rattle.rc_nodes.specs.Shares.{Share, share, share_end, shares, shares_from, first_end, last_end, share_tile, item_tiles, net_tiles, IsTileOf}
use Rattle.rc_nodes.proofs.Parted.{within, Parts}
use Rattle.rc_nodes.proofs.Tiled.{spans, covers_share, InParts, AllInParts, taps_on}
use Rattle.rc_nodes.proofs.Ordered.{in_parts}

-- ---- lists

-- each element and all later ones
abbrev Pairs : {X : Type 0} → (X → X → Type 0) → List X → Type 0
Pairs R [] = Unit {0}
Pairs R (x ∷ xs) = AllByRecursion (R x) xs × Pairs R xs

pairs_all : {X : Type 0} (R : X → X → Type 0) (xs : List X) → Pairs R xs → AllPairs R xs
pairs_all R [] h = λ i j d less within. absurd (omega arith)
pairs_all R (x ∷ xs) h = AllPairs-cons R x xs (All-from_recursion (R x) xs h.0) (pairs_all R xs h.1)

all_append : {X : Type 0} (P : X → Type 0) (xs ys : List X) → AllByRecursion P xs → AllByRecursion P ys → AllByRecursion P (xs ++ ys)
all_append P [] ys h k = k
all_append P (x ∷ xs) ys h k = (h.0, all_append P xs ys h.1 k)

all_weaker : {X : Type 0} (P Q : X → Type 0) → ((x : X) → P x → Q x) → (xs : List X) → AllByRecursion P xs → AllByRecursion Q xs
all_weaker P Q gives [] h = tt
all_weaker P Q gives (x ∷ xs) h = (gives x h.0, all_weaker P Q gives xs h.1)

all_mapped : {X Y : Type 0} (P : X → Type 0) (Q : Y → Type 0) (f : X → Y) → ((x : X) → P x → Q (f x)) → (xs : List X) → AllByRecursion P xs → AllByRecursion Q (map f xs)
all_mapped P Q f gives [] h = tt
all_mapped P Q f gives (x ∷ xs) h = (gives x h.0, all_mapped P Q f gives xs h.1)

pairs_append : {X : Type 0} (R : X → X → Type 0) (xs ys : List X) → Pairs R xs → Pairs R ys → AllByRecursion (λ x. AllByRecursion (R x) ys) xs → Pairs R (xs ++ ys)
pairs_append R [] ys h k cross = k
pairs_append R (x ∷ xs) ys h k cross = (all_append (R x) xs ys h.0 cross.0, pairs_append R xs ys h.1 k cross.1)

pairs_mapped : {X Y : Type 0} (R : X → X → Type 0) (S : Y → Y → Type 0) (f : X → Y) → ((x y : X) → R x y → S (f x) (f y)) → (xs : List X) → Pairs R xs → Pairs S (map f xs)
pairs_mapped R S f gives [] h = tt
pairs_mapped R S f gives (x ∷ xs) h = (all_mapped (R x) (S (f x)) f (gives x) xs h.0, pairs_mapped R S f gives xs h.1)

-- ---- the shares of an item

-- a share has places, all between two ends
pub record IsPart (from end : ℤ) (part : Share) : Type 0 where
  pub low : from ≤ℤ part.from
  pub order : part.from <ℤ part.to
  pub high : part.to ≤ℤ end

-- a share ends before another begins
abbrev Before : Share → Share → Type 0
Before a b = a.to ≤ℤ b.from

part_later : (from mid end : ℤ) → from ≤ℤ mid → (part : Share) → IsPart mid end part → IsPart from end part
part_later from mid end order part h = let low = h.low in record { low = omega (arith, ints); order = h.order; high = h.high }

one_part : (node : ℕ) (from to end : ℤ) → to ≤ℤ end → AllByRecursion (IsPart from end) (share node from to)
one_part node from to end high = by_lt_z from to
    (λ order. let from_itself : from ≤ℤ from = omega (arith, ints) in
    subst (λ b. AllByRecursion (IsPart from end) (cond b (record { node = node; from = from; to = to } ∷ []) [])) (sym (lt_passes from to order)) (record { low = from_itself; order = order; high = high }, tt))
    (λ none. subst (λ b. AllByRecursion (IsPart from end) (cond b (record { node = node; from = from; to = to } ∷ []) [])) (sym (lt_fails from to none)) tt)

parts_from : (from end : ℤ) (tap : Tap) (later : List Tap) → Parts from end tap later → AllByRecursion (IsPart from end) (shares_from from end (tap ∷ later))
parts_from from end tap [] h = all_append (IsPart from end) (share tap.node from end) [] (one_part tap.node from end end (omega (arith, ints))) tt
parts_from from end tap (next ∷ later) h =
    let mid = share_end end tap (next ∷ later) in
    all_append (IsPart from end) (share tap.node from mid) (shares_from mid end (next ∷ later)) (one_part tap.node from mid end h.2)
    (all_weaker (IsPart mid end) (IsPart from end) (part_later from mid end h.1) (shares_from mid end (next ∷ later)) (parts_from mid end next later h.3))

single_pairs : (node : ℕ) (from to : ℤ) (later : List Share) → AllByRecursion (λ part. to ≤ℤ part.from) later → Pairs Before later → Pairs Before (share node from to ++ later)
single_pairs node from to later behind h = by (int_lt from to)
  where
    by : (b : Bool) → Pairs Before (cond b (record { node = node; from = from; to = to } ∷ []) [] ++ later)
    by true = (behind, h)
    by false = h

parts_apart : (from end : ℤ) (tap : Tap) (later : List Tap) → Parts from end tap later → Pairs Before (shares_from from end (tap ∷ later))
parts_apart from end tap [] h = single_pairs tap.node from end [] tt tt
parts_apart from end tap (next ∷ later) h =
    let mid = share_end end tap (next ∷ later) in
    single_pairs tap.node from mid (shares_from mid end (next ∷ later))
    (all_weaker (IsPart mid end) (λ part. mid ≤ℤ part.from) (λ part is. is.low) (shares_from mid end (next ∷ later)) (parts_from mid end next later h.3))
    (parts_apart mid end next later h.3)

pub all_parts : (item : Item) (taps : List Tap) → InParts item taps → AllByRecursion (IsPart (first_end item) (last_end item)) (shares (first_end item) (last_end item) taps)
all_parts item [] h = one_part 0 (first_end item) (last_end item) (last_end item) (omega (arith, ints))
all_parts item (tap ∷ later) h = parts_from (first_end item) (last_end item) tap later h

all_apart : (item : Item) (taps : List Tap) → InParts item taps → Pairs Before (shares (first_end item) (last_end item) taps)
all_apart item [] h = by (int_lt (first_end item) (last_end item))
  where
    by : (b : Bool) → Pairs Before (cond b (record { node = 0; from = first_end item; to = last_end item } ∷ []) [])
    by true = (tt, tt)
    by false = tt
all_apart item (tap ∷ later) h = parts_apart (first_end item) (last_end item) tap later h

-- ---- the tiles of an item

abbrev Differ : Tile → Tile → Type 0
Differ a b = a.net ≡ b.net → Overlaps a b → a.rank ≢ b.rank

no_overlap : (net rank : ℕ) (item : Item) (a b : Share) → Before a b → Differ (share_tile net rank item a) (share_tile net rank item b)
no_overlap net rank item a b before one over same =
    let p = over.1.0 in
    let s = along item p in
    let in_a = and_parts (within a.from a.to s) (spans item p) (sym (covers_share item a.from a.to p) ∙ over.1.1) in
    let in_b = and_parts (within b.from b.to s) (spans item p) (sym (covers_share item b.from b.to p) ∙ over.1.2) in
    let below = lt_tells s a.to (and_parts (int_le a.from s) (int_lt s a.to) in_a.0).1 in
    let above = le_tells b.from s (and_parts (int_le b.from s) (int_lt s b.to) in_b.0).0 in
    omega (arith, ints)

near_by : (level : Bool) (r : Rect) (from to : ℤ) → IsShape r → cond level r.x0 r.y0 ≤ℤ from → from <ℤ to → to ≤ℤ cond level r.x1 r.y1 →
    IsNearRect (cond level (record { x0 = from; y0 = r.y0; x1 = to; y1 = r.y1 }) (record { x0 = r.x0; y0 = from; x1 = r.x1; y1 = to }))
near_by true r from to shape low order high =
    let left = shape.left.low in let right = shape.right.high in let below = shape.below.low in let above = shape.above.high in
    record { left = omega (arith, ints); wide = order; right = omega (arith, ints); below = omega (arith, ints); high = shape.high; above = omega (arith, ints) }
near_by false r from to shape low order high =
    let left = shape.left.low in let right = shape.right.high in let below = shape.below.low in let above = shape.above.high in
    record { left = omega (arith, ints); wide = shape.wide; right = omega (arith, ints); below = omega (arith, ints); high = order; above = omega (arith, ints) }

-- a tile of a net, of an item at this place or a later one
record IsRanked (number least : ℕ) (tile : Tile) : Type 0 where
  form : IsTileOf number tile
  rank : least ≤ tile.rank

share_form : (net rank : ℕ) (item : Item) → IsItem item → (part : Share) → IsPart (first_end item) (last_end item) part → IsTileOf net (share_tile net rank item part)
share_form net rank item is part h = record { net = refl; layer = is.layer; near = near_by (is_level item) item.rect part.from part.to is.shape h.low h.order h.high }

-- ---- and of a net

item_ranked : (net rank : ℕ) (nodes : List Node) (item : Item) → AreInOrder nodes → IsItem item → AllByRecursion (λ t. IsTileOf net t × (t.rank ≡ rank)) (item_tiles net nodes (rank, item))
item_ranked net rank nodes item order is =
    let parts = shares (first_end item) (last_end item) (taps_on nodes item) in
    all_mapped (IsPart (first_end item) (last_end item)) (λ (t : Tile). IsTileOf net t × (t.rank ≡ rank)) (share_tile net rank item) (λ part h. (share_form net rank item is part h, refl)) parts
    (all_parts item (taps_on nodes item) (in_parts nodes item order is))

net_ranked : (net : ℕ) (nodes : List Node) (rank : ℕ) (items : List Item) → AreInOrder nodes → AllByRecursion IsItem items → AllByRecursion (IsRanked net rank) (flat_map (item_tiles net nodes) (enumerate_from rank items))
net_ranked net nodes rank [] order all = tt
net_ranked net nodes rank (item ∷ items) order all =
    let later = flat_map (item_tiles net nodes) (enumerate_from (rank + 1) items) in
    all_append (IsRanked net rank) (item_tiles net nodes (rank, item)) later
    (all_weaker (λ (t : Tile). IsTileOf net t × (t.rank ≡ rank)) (IsRanked net rank) (λ t h. let r = h.1 in record { form = h.0; rank = omega (arith, r) }) (item_tiles net nodes (rank, item)) (item_ranked net rank nodes item order all.0))
    (all_weaker (IsRanked net (rank + 1)) (IsRanked net rank) (λ t h. record { form = h.form; rank = omega (arith, h.rank) }) later (net_ranked net nodes (rank + 1) items order all.1))

net_differ : (net : ℕ) (nodes : List Node) (rank : ℕ) (items : List Item) → AreInOrder nodes → AllByRecursion IsItem items → Pairs Differ (flat_map (item_tiles net nodes) (enumerate_from rank items))
net_differ net nodes rank [] order all = tt
net_differ net nodes rank (item ∷ items) order all =
    let later = flat_map (item_tiles net nodes) (enumerate_from (rank + 1) items) in
    let parts = shares (first_end item) (last_end item) (taps_on nodes item) in
    pairs_append Differ (item_tiles net nodes (rank, item)) later
    (pairs_mapped Before Differ (share_tile net rank item) (no_overlap net rank item) parts (all_apart item (taps_on nodes item) (in_parts nodes item order all.0)))
    (net_differ net nodes (rank + 1) items order all.1)
    (all_weaker (λ (t : Tile). IsTileOf net t × (t.rank ≡ rank)) (λ (t : Tile). AllByRecursion (Differ t) later)
    (λ t h. all_weaker (IsRanked net (rank + 1)) (Differ t) (λ u k one over same. let r = h.1 in let s = k.rank in omega (arith, r, s, same)) later (net_ranked net nodes (rank + 1) items order all.1))
    (item_tiles net nodes (rank, item)) (item_ranked net rank nodes item order all.0))

pub ranks_differ : (net : ℕ) (nodes : List Node) (items : List Item) → AreInOrder nodes → All IsItem items → RanksDiffer (net_tiles net nodes items)
unfolding net_tiles
ranks_differ net nodes items order all = pairs_all Differ (net_tiles net nodes items) (net_differ net nodes 0 items order (recursion_from_All IsItem items all))

pub tiles_form : (net : ℕ) (nodes : List Node) (items : List Item) → AreInOrder nodes → All IsItem items → All (IsTileOf net) (net_tiles net nodes items)
unfolding net_tiles
tiles_form net nodes items order all =
    All-from_recursion (IsTileOf net) (net_tiles net nodes items)
    (all_weaker (IsRanked net 0) (IsTileOf net) (λ t h. h.form) (net_tiles net nodes items) (net_ranked net nodes 0 items order (recursion_from_All IsItem items all)))

all_in_parts : (nodes : List Node) (items : List Item) → AreInOrder nodes → AllByRecursion IsItem items → AllInParts nodes items
all_in_parts nodes [] order all = tt
all_in_parts nodes (item ∷ items) order all = (in_parts nodes item order all.0, all_in_parts nodes items order all.1)

pub items_in_parts : (nodes : List Node) (items : List Item) → AreInOrder nodes → All IsItem items → AllInParts nodes items
items_in_parts nodes items order all = all_in_parts nodes items order (recursion_from_All IsItem items all)
