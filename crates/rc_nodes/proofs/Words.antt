-- The definitions in other words.
use Rattle.std.proofs.Common.{◌≡◌, ◌≤◌, ◌<◌, ◌+◌, ◌⊎◌, inl, inr, ⊎_elim, ℕ, zero, suc, ◌≤ℤ◌, Bool, true, false, cond, List, [], ◌∷◌, length, get_or, Option, Some, None, refl, ap, sym, ◌∙◌, subst, arith}
use Rattle.std.specs.Prelude.{All, Contains, slice_get, MatchOption, nat_lt, IsTrue, ◌==◌, ◌&&◌, option_map}
use Rattle.std.specs.Option.{option_map_or}
use Rattle.std.specs.List.{AllByRecursion, best_of, enumerate_from}
use Rattle.std.specs.List.Sorted.{IsStrictlySortedBy}
use Rattle.std.specs.declared.cmp.Ordering.TheVariants.{Less, Equal}
use Rattle.std.specs.Ordering.{nat_cmp, on}
use Rattle.std.proofs.lemmas.Int.{ints}
use Rattle.std.proofs.lemmas.Bool.{true≢false, cases_order, and_parts, eqb-true}
use Rattle.std.proofs.lemmas.Bool.Decides.{nat_tests}
use Rattle.std.proofs.lemmas.List.Elements.{All-contains, All-cons}
use Rattle.std.proofs.lemmas.List.{get_or_default}
use Rattle.std.proofs.lemmas.Cmp.{tied_itself}
use Rattle.std.proofs.lemmas.List.Kept.{IsStrictlySortedBy-filter}
use Rattle.std.proofs.lemmas.List.MinMax.{IsStrictWeakOrder-by_number, IsFirstBest-from_best_of}
use Rattle.rc_geom.specs.Plane.{Metal}
use Rattle.std.proofs.lemmas.Map.Keys.{Less-from_sorted}
use Rattle.std.proofs.lemmas.Option.{same_Some, slice_get_within, slice_get-get_or, get_or_from_slice_get}
use Rattle.rc_geom.specs.declared.rect.Pt.{Pt}
use Rattle.rc_geom.specs.Rects.{touches}
use Rattle.rc_geom.proofs.Bounds.{touched, touches_from}
use Rattle.rc_layout.specs.declared.item.Item.{Item}
use Rattle.rc_layout.specs.declared.item.ItemKind.{ItemKind}
use Rattle.rc_layout.specs.declared.item.ItemKind.TheVariants.{Piece, Pad, Patch}
use Rattle.rc_layout.specs.Items.{centreline, is_on, IsItem, HasForm}
use Rattle.rc_nodes.specs.declared.node.Node.{Node}
use Rattle.rc_nodes.specs.Nodes.{node_cmp, AreInOrder, AreNodes, IsNumber, numbered, nodes_of}
use Rattle.rc_nodes.specs.NetPlane.{nodes_on, distance, is_nearer, nearest, node_at, is_over, first_over, net_plane}
use Rattle.rc_nodes.specs.Laws.{NodesAreListed, IsNearest, NodesAreNearest, SpotsHaveTheirNode, TiedNetsHaveNodes, GroundedNets, IsFirstOver, FirstItemsOwn}
use Rattle.rc_nodes.proofs.Sorted.{nat_less, nat_is_less, contains_none, contains_cases, contains_first, contains_later, filter_has, filter_tells}
use Rattle.rc_nodes.proofs.Numbered.{nodes_are, nodes_unique, node_total}

pub nodes_are_listed : NodesAreListed
nodes_are_listed net nodes formed = (
  λ is. subst (AreNodes net) (sym is) (nodes_are net formed.items),
  λ are. nodes_unique net nodes (nodes_of net) are (nodes_are net formed.items),
)

-- ---- numbers

-- a numbered node from a place on
abbrev IsNumberFrom : ℕ → List Node → ℕ → Node → Type 0
IsNumberFrom m nodes n node = (k : ℕ) × (n ≡ k + m) × (slice_get nodes k ≡ Some node)

numbered_tells : (m : ℕ) (nodes : List Node) (n : ℕ) (node : Node) → Contains (enumerate_from m nodes) (n, node) → IsNumberFrom m nodes n node
numbered_tells m [] n node h = absurd (contains_none (n, node) h)
numbered_tells m (first ∷ rest) n node h = ⊎_elim
    (λ here. let same : m ≡ n = ap (λ (x : ℕ × Node). x.0) here in (0, omega arith, ap (λ (x : ℕ × Node). Some x.1) here))
    (λ there. let found = numbered_tells (m + 1) rest n node there in let is = found.1 in (suc found.0, omega (arith, is), found.2))
    (contains_cases (m, first) (enumerate_from (m + 1) rest) (n, node) h)

numbered_gives : (m : ℕ) (nodes : List Node) (k : ℕ) (node : Node) → slice_get nodes k ≡ Some node → Contains (enumerate_from m nodes) (k + m, node)
numbered_gives m [] k node h = cc
numbered_gives m (first ∷ rest) zero node h = contains_first (m, first) (enumerate_from (m + 1) rest) (0 + m, node) (let same : m ≡ 0 + m = omega arith in λ i. (same i, same_Some first node h i))
numbered_gives m (first ∷ rest) (suc k) node h =
    let same : k + (m + 1) ≡ suc k + m = omega arith in
    contains_later (m, first) (enumerate_from (m + 1) rest) (suc k + m, node) (subst (λ n. Contains (enumerate_from (m + 1) rest) (n, node)) same (numbered_gives (m + 1) rest k node h))

pub number_in : (nodes : List Node) (n : ℕ) (node : Node) → IsNumber nodes n node → Contains (numbered nodes) (n, node)
number_in nodes n node h = subst (λ m. Contains (numbered nodes) (m, node)) (sym h.1) (numbered_gives 1 nodes h.0 node h.2)

pub in_number : (nodes : List Node) (n : ℕ) (node : Node) → Contains (numbered nodes) (n, node) → IsNumber nodes n node
in_number nodes n node h = numbered_tells 1 nodes n node h

-- numbers rise
all_higher : (n m : ℕ) (nodes : List Node) (first : Node) → n < m → AllByRecursion (λ (y : ℕ × Node). nat_cmp n y.0 ≡ Less) (enumerate_from m nodes)
all_higher n m [] first less = tt
all_higher n m (node ∷ nodes) first less = (nat_is_less n m less, all_higher n (m + 1) nodes first (omega (arith, less)))

numbers_rise : (m : ℕ) (nodes : List Node) → IsStrictlySortedBy (on (λ (x : ℕ × Node). x.0) nat_cmp) (enumerate_from m nodes)
unfolding IsStrictlySortedBy
numbers_rise m [] = tt
numbers_rise m (node ∷ nodes) = (all_higher m (m + 1) nodes node (omega arith), numbers_rise (m + 1) nodes)

-- ---- the nearest

abbrev On : Item → ℕ × Node → Bool
On item n = is_on item n.1.layer n.1.at

pub on_rise : (nodes : List Node) (item : Item) → IsStrictlySortedBy (on (λ (x : ℕ × Node). x.0) nat_cmp) (nodes_on nodes item)
on_rise nodes item = IsStrictlySortedBy-filter (on (λ (x : ℕ × Node). x.0) nat_cmp) (On item) (numbered nodes) (numbers_rise 1 nodes)

not_less : (a b : ℕ) → nat_lt a b ≡ false → b ≤ a
not_less a b h = grind (arith, nat_tests)

less : (a b : ℕ) → nat_lt a b ≡ true → a < b
less a b h = grind (arith, nat_tests)

to_true : (b : Bool) → b ≡ true → IsTrue b
to_true b h = h

from_true : (b : Bool) → IsTrue b → b ≡ true
from_true b h = h

-- the best of the nodes on an item is nearest
best_is_nearest : (nodes : List Node) (item : Item) (p : Pt) (first : ℕ × Node) (others : List (ℕ × Node)) → nodes_on nodes item ≡ first ∷ others → IsNearest nodes item p (best_of (is_nearer item p) first others).0
best_is_nearest nodes item p first others is =
    let xs = first ∷ others in
    let best = best_of (is_nearer item p) first others in
    let found = IsFirstBest-from_best_of (IsStrictWeakOrder-by_number (distance item p)) first others in
    let b = found.0 in
    let best_at : get_or xs b first ≡ best = found.2 in
    let rise : IsStrictlySortedBy (on (λ (x : ℕ × Node). x.0) nat_cmp) xs = subst (IsStrictlySortedBy (on (λ (x : ℕ × Node). x.0) nat_cmp)) is (on_rise nodes item) in
    let member : Contains xs best = (b, found.1.0, get_or_default xs b best first found.1.0 ∙ best_at) in
    let kept = filter_tells (On item) (numbered nodes) best (subst (λ (l : List (ℕ × Node)). Contains l best) (sym is) member) in
    let place = λ (m : ℕ) (other : Node) (number : IsNumber nodes m other) (on' : IsTrue (is_on item other.layer other.at)).
    subst (λ (l : List (ℕ × Node)). Contains l (m, other)) is (filter_has (On item) (numbered nodes) (m, other) (number_in nodes m other number) (from_true (is_on item other.layer other.at) on')) in
    record {
      node = best.1;
      number = in_number nodes best.0 best.1 kept.0;
      on = to_true (is_on item best.1.layer best.1.at) kept.1;
      nearest = λ m other number on'.
          let at = place m other number on' in
          let test : is_nearer item p (m, other) best ≡ false = ap (λ (x : ℕ × Node). is_nearer item p x best) (sym at.2) ∙ (ap (is_nearer item p (get_or xs at.0 (m, other))) (sym (get_or_default xs b (m, other) first found.1.0 ∙ best_at)) ∙ found.1.1 at.0 (m, other) at.1) in
          not_less (distance item p (m, other)) (distance item p best) test;
      lowest = λ m other number on' lower.
          let at = place m other number on' in
          let best_here : get_or xs b (m, other) ≡ best = get_or_default xs b (m, other) first found.1.0 ∙ best_at in
          ⊎_elim
          (λ same.
          let number_is : m ≡ best.0 = ap (λ (x : ℕ × Node). x.0) (sym at.2 ∙ (ap (λ k. get_or xs k (m, other)) same ∙ best_here)) in
          absurd (omega (arith, number_is, lower)))
          (⊎_elim
          (λ before. less (distance item p best) (distance item p (m, other)) (ap (λ (x : ℕ × Node). is_nearer item p best x) (sym at.2) ∙ (ap (λ (x : ℕ × Node). is_nearer item p x (get_or xs at.0 (m, other))) (sym best_here) ∙ found.1.2 at.0 (m, other) before)))
          (λ after.
          let rises : nat_cmp (get_or xs b (m, other)).0 (get_or xs at.0 (m, other)).0 ≡ Less = Less-from_sorted (on (λ (x : ℕ × Node). x.0) nat_cmp) xs b at.0 (m, other) rise after at.1 in
          let higher : (get_or xs b (m, other)).0 < (get_or xs at.0 (m, other)).0 = nat_less (get_or xs b (m, other)).0 (get_or xs at.0 (m, other)).0 rises in
          let left : (get_or xs b (m, other)).0 ≡ best.0 = ap (λ (x : ℕ × Node). x.0) best_here in
          let right : (get_or xs at.0 (m, other)).0 ≡ m = ap (λ (x : ℕ × Node). x.0) at.2 in
          absurd (omega (arith, higher, left, right, lower))))
          (cases_order at.0 b);
    }

none_on : (nodes : List Node) (item : Item) → nodes_on nodes item ≡ [] → All (λ node. ¬ IsTrue (is_on item node.layer node.at)) nodes
none_on nodes item none k d lt on' =
    let node = get_or nodes k d in
    let number : IsNumber nodes (k + 1) node = (k, refl, slice_get-get_or nodes k d lt) in
    contains_none (k + 1, node) (subst (λ (l : List (ℕ × Node)). Contains l (k + 1, node)) none (filter_has (On item) (numbered nodes) (k + 1, node) (number_in nodes (k + 1) node number) (from_true (is_on item node.layer node.at) on')))

pub nodes_are_nearest : NodesAreNearest
nodes_are_nearest nodes item p = by (nodes_on nodes item) refl
  where
    by : (found : List (ℕ × Node)) → nodes_on nodes item ≡ found →
        IsNearest nodes item p (option_map_or (λ numbered. numbered.0) (nearest item p found) 0)
        ⊎ ((option_map_or (λ numbered. numbered.0) (nearest item p found) 0 ≡ 0) × All (λ node. ¬ IsTrue (is_on item node.layer node.at)) nodes)
    by [] is = inr (refl, none_on nodes item is)
    by (first ∷ others) is = inl (best_is_nearest nodes item p first others is)

pub grounded_nets : GroundedNets
grounded_nets item p = refl

-- a square has a node where one is on the centreline
has_nearest : (nodes : List Node) (item : Item) (p : Pt) (node : Node) → Contains nodes node → is_on item node.layer node.at ≡ true → IsNearest nodes item p (node_at nodes item p)
has_nearest nodes item p node there on' = ⊎_elim (λ near. near)
    (λ none. absurd (All-contains (λ (node : Node). ¬ IsTrue (is_on item node.layer node.at)) nodes node none.1 there (to_true (is_on item node.layer node.at) on')))
    (nodes_are_nearest nodes item p)

-- the lower end of an item is on its centreline
pub end_is_on : (item : Item) → item.a.x ≤ℤ item.b.x → item.a.y ≤ℤ item.b.y → is_on item item.layer item.a ≡ true
end_is_on item x y =
    ap (λ b. b && touches (centreline item) item.a) (itself item.layer) ∙ touches_from (centreline item) item.a (record { left = omega (arith, ints); right = x; below = omega (arith, ints); above = y })
  where
    itself : (n : ℕ) → (n == n) ≡ true
    itself n = grind arith

-- the only node on a point is the one at it
only_there : (item : Item) (node : Node) → item.a ≡ item.b → is_on item node.layer node.at ≡ true → node ≡ record { layer = item.layer; at = item.a }
only_there item node point on' =
    let parts = and_parts (item.layer == node.layer) (touches (centreline item) node.at) on' in
    let t = touched (centreline item) node.at parts.1 in
    let left = t.left in let right = t.right in let below = t.below in let above = t.above in
    let px : item.a.x ≡ item.b.x = ap (λ (p : Pt). p.x) point in
    let py : item.a.y ≡ item.b.y = ap (λ (p : Pt). p.y) point in
    let x : node.at.x ≡ item.a.x = omega (arith, ints) in
    let y : node.at.y ≡ item.a.y = omega (arith, ints) in
    let layer : node.layer ≡ item.layer = sym (eqb-true item.layer node.layer parts.0) in
    λ i. record { layer = layer i; at = record { x = x i; y = y i } }

-- in order, a node has one number
pub one_number : (nodes : List Node) (n m : ℕ) (node : Node) → AreInOrder nodes → IsNumber nodes n node → IsNumber nodes m node → n ≡ m
one_number nodes n m node order h k =
    let i = h.0 in
    let j = k.0 in
    let at_i : get_or nodes i node ≡ node = get_or_from_slice_get nodes i node node h.2 in
    let at_j : get_or nodes j node ≡ node = get_or_from_slice_get nodes j node node k.2 in
    let in_i : i < length nodes = slice_get_within nodes i node h.2 in
    let in_j : j < length nodes = slice_get_within nodes j node k.2 in
    let n_is = h.1 in
    let m_is = k.1 in
    ⊎_elim
    (λ (same : i ≡ j). omega (arith, n_is, m_is, same))
    (⊎_elim
    (λ (less : i < j). absurd (itself (subst (λ (x : Node). node_cmp x node ≡ Less) at_i (subst (λ (y : Node). node_cmp (get_or nodes i node) y ≡ Less) at_j (order i j node less in_j)))))
    (λ (more : j < i). absurd (itself (subst (λ (x : Node). node_cmp x node ≡ Less) at_j (subst (λ (y : Node). node_cmp (get_or nodes j node) y ≡ Less) at_i (order j i node more in_i))))))
    (cases_order i j)
  where
    itself : node_cmp node node ≡ Less → ⊥
    itself is = let tie : node_cmp node node ≡ Equal = tied_itself node_total node in cc

pub spots_have_their_node : SpotsHaveTheirNode
spots_have_their_node nodes item p n order spot number =
    let node : Node = record { layer = item.layer; at = item.a } in
    let x : item.a.x ≤ℤ item.b.x = let same : item.a.x ≡ item.b.x = ap (λ (p : Pt). p.x) spot.point in omega (arith, ints) in
    let y : item.a.y ≤ℤ item.b.y = let same : item.a.y ≡ item.b.y = ap (λ (p : Pt). p.y) spot.point in omega (arith, ints) in
    let there : Contains nodes node = (number.0, slice_get_within nodes number.0 node number.2, get_or_from_slice_get nodes number.0 node node number.2) in
    let near = has_nearest nodes item p node there (end_is_on item x y) in
    let same = only_there item near.node spot.point (from_true (is_on item near.node.layer near.node.at) near.on) in
    one_number nodes (node_at nodes item p) n node order (subst (IsNumber nodes (node_at nodes item p)) same near.number) number

spot_rises : (item : Item) → item.a ≡ item.b → (item.a.x ≤ℤ item.b.x) × (item.a.y ≤ℤ item.b.y)
spot_rises item point =
    let px : item.a.x ≡ item.b.x = ap (λ (p : Pt). p.x) point in
    let py : item.a.y ≡ item.b.y = ap (λ (p : Pt). p.y) point in
    (omega (arith, ints), omega (arith, ints))

pub item_rises : (item : Item) (kind : ItemKind) → HasForm kind item → (item.a.x ≤ℤ item.b.x) × (item.a.y ≤ℤ item.b.y)
item_rises item Piece form = ⊎_elim
    (λ flat. let level = flat.level in let order = flat.order in (omega (arith, ints), omega (arith, ints)))
    (λ up. let upright = up.upright in let order = up.order in (omega (arith, ints), omega (arith, ints)))
    form.axis
item_rises item Pad form = spot_rises item form.point
item_rises item Patch form = spot_rises item form.point

pub tied_nets_have_nodes : TiedNetsHaveNodes
tied_nets_have_nodes net item p tied in' =
    let of = All-contains IsItem net.items item tied.formed.items in' in
    let ends = All-contains (λ (item : Item). Contains net.points (item.layer, item.a) × Contains net.points (item.layer, item.b)) net.items item tied.ends in' in
    let node : Node = record { layer = item.layer; at = item.a } in
    let there : Contains (nodes_of net) node = ((nodes_are net tied.formed.items).all node).1 (inl ends.0) in
    let rise = item_rises item item.kind of.form in
    has_nearest (nodes_of net) item p node there (end_is_on item rise.0 rise.1)

-- ---- the first item over a square

abbrev Owned : ℕ → List Node → List Item → ℕ → Pt → Option Metal → Type 0
Owned net nodes items layer p o = MatchOption o (All (λ item. ¬ IsTrue (is_over layer p item)) items) (λ metal. (item : Item) × IsFirstOver items layer p item × (metal ≡ (net, node_at nodes item p)))

none_more : (layer : ℕ) (p : Pt) (item : Item) (items : List Item) → is_over layer p item ≡ false → All (λ item. ¬ IsTrue (is_over layer p item)) items → All (λ item. ¬ IsTrue (is_over layer p item)) (item ∷ items)
none_more layer p item items misses all = All-cons (λ (item : Item). ¬ IsTrue (is_over layer p item)) item items (λ over. true≢false (sym (from_true (is_over layer p item) over) ∙ misses)) all

later_first : (layer : ℕ) (p : Pt) (item : Item) (items : List Item) (found : Item) → is_over layer p item ≡ false → IsFirstOver items layer p found → IsFirstOver (item ∷ items) layer p found
later_first layer p item items found misses h = record {
  place = suc h.place;
  stands = h.stands;
  over = h.over;
  earlier = λ k other less at. by k other less at;
}
  where
    by : (k : ℕ) (other : Item) → k < suc h.place → slice_get (item ∷ items) k ≡ Some other → ¬ IsTrue (is_over layer p other)
    by zero other less at = λ over. true≢false (sym (from_true (is_over layer p other) over) ∙ (ap (is_over layer p) (sym (same_Some item other at)) ∙ misses))
    by (suc k) other less at = h.earlier k other (omega (arith, less)) at

first_by : (net : ℕ) (nodes : List Node) (items : List Item) (layer : ℕ) (p : Pt) → Owned net nodes items layer p (option_map (λ item. (net, node_at nodes item p)) (first_over items layer p))
first_by net nodes [] layer p = λ k d lt. absurd (omega (arith, lt))
first_by net nodes (item ∷ items) layer p = by (is_over layer p item) refl (first_over items layer p) (first_by net nodes items layer p)
  where
    by : (b : Bool) → is_over layer p item ≡ b → (o : Option Item) → Owned net nodes items layer p (option_map (λ item. (net, node_at nodes item p)) o) →
        Owned net nodes (item ∷ items) layer p (option_map (λ item. (net, node_at nodes item p)) (cond b (Some item) o))
    by true is o h = (item, record { place = 0; stands = refl; over = to_true (is_over layer p item) is; earlier = λ k other less at. absurd (omega (arith, less)) }, refl)
    by false is None h = none_more layer p item items is h
    by false is (Some found) h = (h.0, later_first layer p item items h.0 is h.1, h.2)

pub first_items_own : FirstItemsOwn
unfolding net_plane
first_items_own net nodes items layer p = first_by net nodes items layer p
