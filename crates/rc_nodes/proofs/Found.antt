-- The taps of all nodes, sorted, and those that lie on the centreline of an item.
use Rattle.std.proofs.Common.{◌≡◌, ◌≤◌, ◌<◌, ◌+◌, ⊎_elim, ℕ, zero, suc, ℤ, pos, ◌≤ℤ◌, ◌<ℤ◌, Bool, true, false, cond, List, [], ◌∷◌, ◌++◌, map, take, length, get_or, refl, ap, sym, ◌∙◌, subst, arith}
use Rattle.std.specs.Prelude.{All, filter, int_le, ◌&&◌, ◌==◌}
use Rattle.std.specs.List.{AllByRecursion, IsDistinct, enumerate_from, flat_map}
use Rattle.std.specs.List.Sorted.{IsPermutation, IsSorted, IsPartitionedBy, IsPartitionPoint}
use Rattle.std.specs.declared.cmp.Ordering.{Ordering}
use Rattle.std.specs.declared.cmp.Ordering.TheVariants.{Less, Equal, Greater}
use Rattle.std.specs.Ordering.{ordering_then, ordering_reverse, nat_cmp, int_cmp, int_eq, is_lt, is_eq, eq_by_cmp}
use Rattle.std.proofs.lemmas.Int.{ints, by_lt_z}
use Rattle.std.proofs.lemmas.Bool.{true≢false, cases_lt}
use Rattle.std.proofs.lemmas.List.{get_or_default, take_all, take_more, append-nil}
use Rattle.std.proofs.lemmas.List.Concat.{flat_map-append}
use Rattle.std.proofs.lemmas.List.FromFn.{length-enumerate_from, get_or-enumerate_from}
use Rattle.std.proofs.lemmas.List.Elements.{All-weaker, filter_more, filter_passes}
use Rattle.std.proofs.lemmas.Map.Keys.{IsDistinct-IsPermutation, apart_from_distinct, sorted_from_all_adjacent, Less-from_sorted}
use Rattle.rc_geom.specs.declared.rect.Pt.{Pt}
use Rattle.rc_geom.specs.declared.tile.Tile.{Tile}
use Rattle.rc_geom.specs.Split.{IsCoordinate}
use Rattle.rc_geom.proofs.Bounds.{le_passes}
use Rattle.rc_layout.specs.declared.item.Item.{Item}
use Rattle.rc_layout.specs.declared.item.ItemKind.TheVariants.{Piece}
use Rattle.rc_layout.specs.Items.{is_level, along, IsItem, IsPoint}
use Rattle.rc_nodes.specs.declared.node.Node.{Node}
use Rattle.rc_nodes.specs.declared.line.Tap.{Tap}
use Rattle.rc_nodes.specs.contracts.line.TapOrd.TheImpl as order
use Rattle.rc_nodes.specs.contracts.line.TapOrd.TheImpl.Laws.{total-law}
use Rattle.rc_nodes.specs.Nodes.{numbered, AreInOrder}
use Rattle.rc_nodes.specs.Shares.{tap_tiles, item_tiles, net_tiles}
use Rattle.rc_nodes.proofs.Tiled.{taps_on}
use Rattle.rc_nodes.specs.Lines.{tap_of, AreTaps, InLine, across, lies_on, starts_before}
use Rattle.rc_nodes.proofs.Sorted.{then_less, nat_less, nat_equal, int_less, int_equal, nat_is_less, nat_is_equal, int_is_less, int_is_equal}
use Rattle.rc_nodes.proofs.Ordered.{Lies, lies_tells, found_is}

-- ---- the taps of nodes, one after another

taps_next : {Y : Type 0} (f : ℕ × Node → Y) (m : ℕ) (nodes : List Node) (k : ℕ) (node : Node) → k < length nodes → node ≡ get_or nodes k node →
    take (suc k) (map f (enumerate_from m nodes)) ≡ take k (map f (enumerate_from m nodes)) ++ f (m + k, node) ∷ []
taps_next f m [] k node lt read = absurd (omega arith)
taps_next f m (first ∷ rest) zero node lt read = let same : m ≡ m + 0 = omega arith in ap (λ n. f (n, first) ∷ []) same ∙ ap (λ (x : Node). f (m + 0, x) ∷ []) (sym read)
taps_next f m (first ∷ rest) (suc k) node lt read =
    let same : m + 1 + k ≡ m + suc k = omega arith in
    ap (λ l. f (m, first) ∷ l) (taps_next f (m + 1) rest k node (omega (arith, lt)) read ∙ ap (λ n. take k (map f (enumerate_from (m + 1) rest)) ++ f (n, node) ∷ []) same)

pub taps_more : {Y : Type 0} (f : ℕ × Node → Y) (m : ℕ) (nodes : List Node) (k : ℕ) (node : Node) → k < length nodes → node ≡ get_or nodes k node →
    take (k + 1) (map f (enumerate_from m nodes)) ≡ take k (map f (enumerate_from m nodes)) ++ f (m + k, node) ∷ []
taps_more f m nodes k node lt read =
    let same : k + 1 ≡ suc k = omega arith in
    ap (λ n. take n (map f (enumerate_from m nodes))) same ∙ taps_next f m nodes k node lt read

abbrev pub no_node : Node
no_node = record { layer = 0; at = record { x = pos 0; y = pos 0 } }

pub pushed : {Y : Type 0} (f : ℕ × Node → Y) (nodes : List Node) (k : ℕ) (y : Y) (items more : List Y) → k < length nodes → y ≡ f (k + 1, get_or nodes k no_node) →
    items ≡ take k (map f (numbered nodes)) → more ≡ items ++ y ∷ [] → more ≡ take (k + 1) (map f (numbered nodes))
pushed f nodes k y items more lt is so_far grown =
    let node = get_or nodes k no_node in
    let same : 1 + k ≡ k + 1 = omega arith in
    grown
    ∙ (ap (λ l. l ++ y ∷ []) so_far
    ∙ (ap (λ z. take k (map f (numbered nodes)) ++ z ∷ []) (is ∙ ap (λ n. f (n, node)) (sym same))
    ∙ sym (taps_more f 1 nodes k node lt (get_or_default nodes k no_node node lt))))

pub length_taps : {Y : Type 0} (f : ℕ × Node → Y) (m : ℕ) (nodes : List Node) → length (map f (enumerate_from m nodes)) ≡ length nodes
length_taps f m [] = refl
length_taps f m (first ∷ rest) = ap (λ n. suc n) (length_taps f (m + 1) rest)

pub taps_all : {Y : Type 0} (f : ℕ × Node → Y) (m : ℕ) (nodes : List Node) (k : ℕ) → length nodes ≤ k → take k (map f (enumerate_from m nodes)) ≡ map f (enumerate_from m nodes)
taps_all f m nodes k le = take_all k (map f (enumerate_from m nodes)) (omega (arith, length_taps f m nodes))

-- ---- sorted, they are strictly sorted, since their numbers differ

then_apart : (o q : Ordering) → is_eq q ≡ false → is_eq (ordering_then o q) ≡ false
then_apart Less q h = refl
then_apart Equal q h = h
then_apart Greater q h = refl

apart_taps : (a b : Tap) → a.node < b.node → eq_by_cmp order.ghosts.cmp a b ≡ false
apart_taps a b less =
    then_apart (nat_cmp a.layer b.layer) (ordering_then (int_cmp a.line b.line) (ordering_then (int_cmp a.along b.along) (nat_cmp a.node b.node)))
    (then_apart (int_cmp a.line b.line) (ordering_then (int_cmp a.along b.along) (nat_cmp a.node b.node))
    (then_apart (int_cmp a.along b.along) (nat_cmp a.node b.node) (ap is_eq (nat_is_less a.node b.node less))))

all_later : (level : Bool) (n : ℕ × Node) (m : ℕ) (nodes : List Node) → n.0 < m → AllByRecursion (λ y. eq_by_cmp order.ghosts.cmp (tap_of level n) y ≡ false) (map (tap_of level) (enumerate_from m nodes))
all_later level n m [] less = tt
all_later level n m (node ∷ nodes) less = (apart_taps (tap_of level n) (tap_of level (m, node)) less, all_later level n (m + 1) nodes (omega (arith, less)))

distinct : (level : Bool) (m : ℕ) (nodes : List Node) → IsDistinct (eq_by_cmp order.ghosts.cmp) (map (tap_of level) (enumerate_from m nodes))
unfolding IsDistinct
distinct level m [] = tt
distinct level m (node ∷ nodes) = (all_later level (m, node) (m + 1) nodes (omega arith), distinct level (m + 1) nodes)

flip_eq : (x y : Tap) → eq_by_cmp order.ghosts.cmp x y ≡ eq_by_cmp order.ghosts.cmp y x
flip_eq x y = ap is_eq (total-law.antisymm x y) ∙ same (order.ghosts.cmp y x)
  where
    same : (o : Ordering) → is_eq (ordering_reverse o) ≡ is_eq o
    same Less = refl
    same Equal = refl
    same Greater = refl

neither : (o q : Ordering) → o ≡ ordering_reverse q → is_lt q ≡ false → is_eq o ≡ false → o ≡ Less
neither Less q flip h k = refl
neither Equal q flip h k = cc
neither Greater Less flip h k = cc
neither Greater Equal flip h k = cc
neither Greater Greater flip h k = cc

abbrev pub no_tap : Tap
no_tap = record { layer = 0; line = pos 0; along = pos 0; node = 0 }

pub sorted_taps : (level : Bool) (nodes : List Node) (taps : List Tap) → IsPermutation (map (tap_of level) (numbered nodes)) taps → IsSorted order.ghosts.cmp taps → AreTaps level nodes taps
sorted_taps level nodes taps moved sorted =
    let apart = IsDistinct-IsPermutation (eq_by_cmp order.ghosts.cmp) flip_eq (map (tap_of level) (numbered nodes)) taps moved (distinct level 1 nodes) in
    record {
      moved = moved;
      order = sorted_from_all_adjacent total-law taps no_tap (λ k less.
          let x = get_or taps k no_tap in
          let y = get_or taps (k + 1) no_tap in
          neither (order.ghosts.cmp x y) (order.ghosts.cmp y x) (total-law.antisymm x y) (sorted k no_tap (omega arith) less)
          (apart_from_distinct (eq_by_cmp order.ghosts.cmp) taps k (k + 1) no_tap apart (omega arith) less));
    }

-- ---- before, on and behind a centreline

abbrev first_of : Item → Tap
first_of item = record { layer = item.layer; line = across item item.a; along = along item item.a; node = 0 }

less_tells : (o : Ordering) → is_lt o ≡ true → o ≡ Less
less_tells Less h = refl
less_tells Equal h = cc
less_tells Greater h = cc

-- what it is for a tap to come before another
pub data IsBefore (a b : Tap) : Type 0 where
  by_layer : a.layer < b.layer → IsBefore a b
  by_line : a.layer ≡ b.layer → a.line <ℤ b.line → IsBefore a b
  by_place : a.layer ≡ b.layer → a.line ≡ b.line → a.along <ℤ b.along → IsBefore a b
  by_number : a.layer ≡ b.layer → a.line ≡ b.line → a.along ≡ b.along → a.node < b.node → IsBefore a b

before_tells : (a b : Tap) → order.ghosts.cmp a b ≡ Less → IsBefore a b
before_tells a b h = ⊎_elim
    (λ l. by_layer (nat_less a.layer b.layer l))
    (λ rest. let layer = nat_equal a.layer b.layer rest.0 in ⊎_elim
    (λ l. by_line layer (int_less a.line b.line l))
    (λ rest. let line = int_equal a.line b.line rest.0 in ⊎_elim
    (λ l. by_place layer line (int_less a.along b.along l))
    (λ rest. by_number layer line (int_equal a.along b.along rest.0) (nat_less a.node b.node rest.1))
    (then_less (int_cmp a.along b.along) (nat_cmp a.node b.node) rest.1))
    (then_less (int_cmp a.line b.line) (ordering_then (int_cmp a.along b.along) (nat_cmp a.node b.node)) rest.1))
    (then_less (nat_cmp a.layer b.layer) (ordering_then (int_cmp a.line b.line) (ordering_then (int_cmp a.along b.along) (nat_cmp a.node b.node))) h)

before_gives : (a b : Tap) → IsBefore a b → order.ghosts.cmp a b ≡ Less
before_gives a b (by_layer l) = ap (λ o. ordering_then o (ordering_then (int_cmp a.line b.line) (ordering_then (int_cmp a.along b.along) (nat_cmp a.node b.node)))) (nat_is_less a.layer b.layer l)
before_gives a b (by_line e l) =
    ap (λ o. ordering_then o (ordering_then (int_cmp a.line b.line) (ordering_then (int_cmp a.along b.along) (nat_cmp a.node b.node)))) (nat_is_equal a.layer b.layer e)
    ∙ ap (λ o. ordering_then o (ordering_then (int_cmp a.along b.along) (nat_cmp a.node b.node))) (int_is_less a.line b.line l)
before_gives a b (by_place e f l) =
    ap (λ o. ordering_then o (ordering_then (int_cmp a.line b.line) (ordering_then (int_cmp a.along b.along) (nat_cmp a.node b.node)))) (nat_is_equal a.layer b.layer e)
    ∙ (ap (λ o. ordering_then o (ordering_then (int_cmp a.along b.along) (nat_cmp a.node b.node))) (int_is_equal a.line b.line f)
    ∙ ap (λ o. ordering_then o (nat_cmp a.node b.node)) (int_is_less a.along b.along l))
before_gives a b (by_number e f g l) =
    ap (λ o. ordering_then o (ordering_then (int_cmp a.line b.line) (ordering_then (int_cmp a.along b.along) (nat_cmp a.node b.node)))) (nat_is_equal a.layer b.layer e)
    ∙ (ap (λ o. ordering_then o (ordering_then (int_cmp a.along b.along) (nat_cmp a.node b.node))) (int_is_equal a.line b.line f)
    ∙ (ap (λ o. ordering_then o (nat_cmp a.node b.node)) (int_is_equal a.along b.along g) ∙ nat_is_less a.node b.node l))

bool_by : (b : Bool) → (b ≡ true → ⊥) → b ≡ false
bool_by true h = absurd (h refl)
bool_by false h = refl

-- what lies before all on the centreline isn't on it
not_on : (item : Item) (tap : Tap) → IsBefore tap (first_of item) → Lies item tap → ⊥
not_on item tap (by_layer l) on = let layer = on.layer in omega (arith, l)
not_on item tap (by_line e l) on = let line = on.line in omega (arith, ints)
not_on item tap (by_place e f l) on = let low = on.low in omega (arith, ints)
not_on item tap (by_number e f g l) on = omega (arith, l)

pub before_is_off : (item : Item) (tap : Tap) → starts_before item tap ≡ true → lies_on item tap ≡ false
before_is_off item tap h = bool_by (lies_on item tap) (λ on. not_on item tap (before_tells tap (first_of item) (less_tells (order.ghosts.cmp tap (first_of item)) h)) (lies_tells item tap on))

-- a tap isn't before the centreline, one behind it is on it: so it is on it too
pub lies_gives : (item : Item) (tap : Tap) → Lies item tap → lies_on item tap ≡ true
lies_gives item tap on =
    all_true (tap.layer == item.layer) (int_eq tap.line (across item item.a)) (int_le (along item item.a) tap.along) (int_le tap.along (along item item.b))
    (eq_passes tap.layer item.layer on.layer) (int_eq_passes tap.line (across item item.a) on.line) (le_passes (along item item.a) tap.along on.low) (le_passes tap.along (along item item.b) on.high)
  where
    all_true : (a b c d : Bool) → a ≡ true → b ≡ true → c ≡ true → d ≡ true → (a && b && (c && d)) ≡ true
    all_true a b c d h i j k = grind arith

    eq_passes : (a b : ℕ) → a ≡ b → (a == b) ≡ true
    eq_passes a b h = grind arith

    int_eq_passes : (a b : ℤ) → a ≡ b → int_eq a b ≡ true
    int_eq_passes a b h = grind (arith, ints)

still_on : (item : Item) (a b : Tap) → (IsBefore a (first_of item) → ⊥) → IsBefore a b → Lies item b → Lies item a
still_on item a b not (by_layer l) on = let layer = on.layer in absurd (not (by_layer (omega (arith, l))))
still_on item a b not (by_line e l) on = let line = on.line in let layer = on.layer in absurd (not (by_line (omega (arith, e)) (omega (arith, ints))))
still_on item a b not (by_place e f l) on =
    let high = on.high in
    let layer = on.layer in
    let line = on.line in
    let same : a.layer ≡ item.layer = omega (arith, e) in
    by_lt_z a.along (along item item.a)
    (λ low. absurd (not (by_place same (f ∙ line) low)))
    (λ low. record { layer = same; line = f ∙ line; low = low; high = omega (arith, ints) })
still_on item a b not (by_number e f g l) on =
    record { layer = e ∙ on.layer; line = f ∙ on.line; low = subst (λ z. along item item.a ≤ℤ z) (sym g) on.low; high = subst (λ z. z ≤ℤ along item item.b) (sym g) on.high }

-- in order, once a tap is past the centreline all later ones are
pub past_is_off : (item : Item) (a b : Tap) → starts_before item a ≡ false → lies_on item a ≡ false → order.ghosts.cmp a b ≡ Less → lies_on item b ≡ false
past_is_off item a b before off less = bool_by (lies_on item b) (λ on.
    true≢false (sym (lies_gives item a (still_on item a b
    (λ is. true≢false (sym (ap is_lt (before_gives a (first_of item) is)) ∙ before))
    (before_tells a b less) (lies_tells item b on))) ∙ off))

-- ---- the taps on a centreline are those between two places of the list

pub parted_by_start : (item : Item) (taps : List Tap) → InLine taps → IsPartitionedBy (starts_before item) taps
parted_by_start item taps order' i j d le less h =
    ⊎_elim
    (λ lt. let below = Less-from_sorted order.ghosts.cmp taps i j d order' lt less in
    ap is_lt (total-law.trans (get_or taps i d) (get_or taps j d) (first_of item) below (less_tells (order.ghosts.cmp (get_or taps j d) (first_of item)) h)))
    (λ not. let same : i ≡ j = omega arith in ap (λ k. starts_before item (get_or taps k d)) same ∙ h)
    (cases_lt i j)

pub filter_none_before : {X : Type 0} (p : X → Bool) (xs : List X) (k : ℕ) → ((j : ℕ) (d : X) → j < k → j < length xs → p (get_or xs j d) ≡ false) → filter p (take k xs) ≡ []
filter_none_before p xs zero h = refl
filter_none_before p [] (suc k) h = refl
filter_none_before p (x ∷ xs) (suc k) h =
    ap (λ b. cond b (x ∷ filter p (take k xs)) (filter p (take k xs))) (h 0 x (omega arith) (omega arith)) ∙ filter_none_before p xs k (λ j d lt within. h (suc j) d (omega (arith, lt)) (omega (arith, within)))

filter_none : {X : Type 0} (p : X → Bool) (xs : List X) → ((j : ℕ) (d : X) → j < length xs → p (get_or xs j d) ≡ false) → filter p xs ≡ []
filter_none p [] h = refl
filter_none p (x ∷ xs) h = ap (λ b. cond b (x ∷ filter p xs) (filter p xs)) (h 0 x (omega arith)) ∙ filter_none p xs (λ j d within. h (suc j) d (omega (arith, within)))

pub filter_front : {X : Type 0} (p : X → Bool) (xs : List X) (k : ℕ) → ((j : ℕ) (d : X) → k ≤ j → j < length xs → p (get_or xs j d) ≡ false) → filter p (take k xs) ≡ filter p xs
filter_front p [] zero h = refl
filter_front p [] (suc k) h = refl
filter_front p (x ∷ xs) zero h = sym (filter_none p (x ∷ xs) (λ j d within. h j d (omega arith) within))
filter_front p (x ∷ xs) (suc k) h = ap (λ l. cond (p x) (x ∷ l) l) (filter_front p xs k (λ j d le within. h (suc j) d (omega (arith, le)) (omega (arith, within))))

-- so far the filtered list is that of the front, and the loop begins at the first that isn't before
pub none_yet : (item : Item) (taps : List Tap) (k : ℕ) → IsPartitionPoint (λ (s : Tap). starts_before item s ≡ true) (λ (s : Tap). starts_before item s ≡ false) taps k → [] ≡ filter (lies_on item) (take k taps)
none_yet item taps k parted = sym (filter_none_before (lies_on item) taps k (λ j d lt within. before_is_off item (get_or taps j d) (parted.0 j d (omega arith) lt)))

pub one_more : (item : Item) (taps on : List Tap) (k : ℕ) (tap : Tap) → k < length taps → tap ≡ get_or taps k tap → lies_on item tap ≡ true → on ≡ filter (lies_on item) (take k taps) → on ++ tap ∷ [] ≡ filter (lies_on item) (take (k + 1) taps)
one_more item taps on k tap lt read is so_far =
    sym (filter_more (lies_on item) taps k tap lt
    ∙ ap (λ s. filter (lies_on item) (take k taps) ++ cond (lies_on item s) (s ∷ []) []) (sym read)
    ∙ ap (λ b. filter (lies_on item) (take k taps) ++ cond b (tap ∷ []) []) is
    ∙ ap (λ l. l ++ tap ∷ []) (sym so_far))

pub all_found : (item : Item) (taps on : List Tap) (k : ℕ) (tap : Tap) → InLine taps → k < length taps → tap ≡ get_or taps k tap → starts_before item tap ≡ false → lies_on item tap ≡ false →
    on ≡ filter (lies_on item) (take k taps) → on ≡ filter (lies_on item) taps
all_found item taps on k tap order' lt read before off so_far =
    so_far ∙ filter_front (lies_on item) taps k (λ j d le within.
    ⊎_elim
    (λ less.
    let at : get_or taps k d ≡ tap = get_or_default taps k d tap lt ∙ sym read in
    past_is_off item tap (get_or taps j d) before off (subst (λ (s : Tap). order.ghosts.cmp s (get_or taps j d) ≡ Less) at (Less-from_sorted order.ghosts.cmp taps k j d order' less within)))
    (λ not.
    let same : j ≡ k = omega arith in
    let at : get_or taps j d ≡ tap = ap (λ n. get_or taps n d) same ∙ (get_or_default taps k d tap lt ∙ sym read) in
    ap (lies_on item) at ∙ off)
    (cases_lt k j))

pub all_done : (item : Item) (taps on : List Tap) (k : ℕ) → length taps ≤ k → on ≡ filter (lies_on item) (take k taps) → on ≡ filter (lies_on item) taps
all_done item taps on k le so_far = so_far ∙ ap (filter (lies_on item)) (take_all k taps le)

-- ---- where the taps on an item lie

pub coordinates : (item : Item) (taps : List Tap) → IsItem item → All (λ tap. IsCoordinate tap.along) (filter (lies_on item) taps)
coordinates item taps is =
    All-weaker (λ tap. lies_on item tap ≡ true) (λ tap. IsCoordinate tap.along)
    (λ tap on. between (along item item.a) (along item item.b) tap.along (coordinate_of (is_level item) item.a is.lower) (coordinate_of (is_level item) item.b is.upper) (lies_tells item tap on).low (lies_tells item tap on).high)
    (filter (lies_on item) taps) (filter_passes (lies_on item) taps)
  where
    coordinate_of : (level : Bool) (p : Pt) → IsPoint p → IsCoordinate (cond level p.x p.y)
    coordinate_of true p h = h.x
    coordinate_of false p h = h.y

    between : (a b z : ℤ) → IsCoordinate a → IsCoordinate b → a ≤ℤ z → z ≤ℤ b → IsCoordinate z
    between a b z h k low high = let l = h.low in let m = k.high in record { low = omega (arith, ints); high = omega (arith, ints) }

-- ---- the tiles of one item more

pub tiles_more : (net : ℕ) (nodes : List Node) (items : List Item) (rank : ℕ) (item : Item) (rows columns : List Tap) (tiles more : List Tile) → AreInOrder nodes → All IsItem items →
    AreTaps true nodes rows → AreTaps false nodes columns → rank < length items → item ≡ get_or items rank item →
    tiles ≡ flat_map (item_tiles net nodes) (take rank (enumerate_from 0 items)) →
    more ≡ tiles ++ tap_tiles net rank item (filter (lies_on item) (cond (is_level item) rows columns)) →
    more ≡ flat_map (item_tiles net nodes) (take (rank + 1) (enumerate_from 0 items))
tiles_more net nodes items rank item rows columns tiles more order' all by_rows by_columns lt read so_far is =
    let whole : IsItem item = subst IsItem (sym read) (all rank item lt) in
    let found : filter (lies_on item) (cond (is_level item) rows columns) ≡ taps_on nodes item = found_is nodes item (cond (is_level item) rows columns) order' whole (chosen (is_level item)) in
    let long : rank < length (enumerate_from 0 items) = omega (arith, length-enumerate_from 0 items, lt) in
    let front : take (rank + 1) (enumerate_from 0 items) ≡ take rank (enumerate_from 0 items) ++ (rank, item) ∷ [] =
    take_more (enumerate_from 0 items) rank (rank, item) long
    ∙ ap (λ (x : ℕ × Item). take rank (enumerate_from 0 items) ++ x ∷ []) (get_or-enumerate_from 0 items rank (rank, item) lt ∙ ap (λ (i : Item). (0 + rank, i)) (sym read) ∙ (let same : 0 + rank ≡ rank = omega arith in ap (λ n. (n, item)) same)) in
    is
    ∙ ap (λ taps. tiles ++ tap_tiles net rank item taps) found
    ∙ ap (λ l. l ++ item_tiles net nodes (rank, item)) so_far
    ∙ ap (λ l. flat_map (item_tiles net nodes) (take rank (enumerate_from 0 items)) ++ l) (sym (append-nil (item_tiles net nodes (rank, item))))
    ∙ sym (flat_map-append (item_tiles net nodes) (take rank (enumerate_from 0 items)) ((rank, item) ∷ []))
    ∙ ap (flat_map (item_tiles net nodes)) (sym front)
  where
    chosen : (b : Bool) → AreTaps b nodes (cond b rows columns)
    chosen true = by_rows
    chosen false = by_columns

pub tiles_are : (net : ℕ) (nodes : List Node) (items : List Item) (rank : ℕ) (tiles : List Tile) → length items ≤ rank → tiles ≡ flat_map (item_tiles net nodes) (take rank (enumerate_from 0 items)) → tiles ≡ net_tiles net nodes items
unfolding net_tiles
tiles_are net nodes items rank tiles le so_far = so_far ∙ ap (flat_map (item_tiles net nodes)) (take_all rank (enumerate_from 0 items) (omega (arith, length-enumerate_from 0 items, le)))

abbrev pub no_item : Item
no_item = record {
  kind = Piece;
  layer = 0;
  rect = record { x0 = pos 0; y0 = pos 0; x1 = pos 0; y1 = pos 0 };
  a = record { x = pos 0; y = pos 0 };
  b = record { x = pos 0; y = pos 0 };
  width = pos 0;
}

-- a turn of the loop over the items, which are read through a list of them
pub tiles_turn : (net : ℕ) (nodes : List Node) (items read : List Item) (rank : ℕ) (rows columns : List Tap) (tiles more : List Tile) → AreInOrder nodes → All IsItem items →
    AreTaps true nodes rows → AreTaps false nodes columns → read ≡ items → rank < length read →
    tiles ≡ flat_map (item_tiles net nodes) (take rank (enumerate_from 0 items)) →
    more ≡ tiles ++ tap_tiles net rank (get_or read rank no_item) (filter (lies_on (get_or read rank no_item)) (cond (is_level (get_or read rank no_item)) rows columns)) →
    more ≡ flat_map (item_tiles net nodes) (take (rank + 1) (enumerate_from 0 items))
tiles_turn net nodes items read rank rows columns tiles more order' all by_rows by_columns same lt so_far is =
    let item = get_or read rank no_item in
    let within : rank < length items = subst (λ (l : List Item). rank < length l) same lt in
    tiles_more net nodes items rank item rows columns tiles more order' all by_rows by_columns within
    (ap (λ (l : List Item). get_or l rank no_item) same ∙ get_or_default items rank no_item item within) so_far is
