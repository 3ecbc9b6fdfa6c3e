-- Nodes put in order, each once.
use Rattle.std.proofs.Common.{◌≡◌, ◌⊎◌, inl, inr, ⊎_elim, Bool, true, false, cond, List, [], ◌∷◌, ◌++◌, Option, Some, None, refl, ap, sym, ◌∙◌, subst, arith}
use Rattle.std.specs.Prelude.{All, Contains, ◌↔◌, ◌&&◌, not, fold}
use Rattle.std.specs.List.{AllByRecursion, flat_map, filter_map, cons_option, dedup}
use Rattle.std.specs.List.Sorted.{IsStrictlySortedBy, IsSorted, IsPermutation}
use Rattle.std.specs.Cmp.{IsTotalOrder}
use Rattle.std.specs.declared.cmp.Ordering.{Ordering}
use Rattle.std.specs.declared.cmp.Ordering.TheVariants.{Less, Equal, Greater}
use Rattle.std.specs.Ordering.{ordering_then, ordering_reverse, nat_cmp, int_cmp, is_eq, eq_by_cmp}
use Rattle.std.proofs.lemmas.Bool.{and_parts}
use Rattle.std.proofs.lemmas.Option.{cond_some}
use Rattle.std.proofs.lemmas.Cmp.{then_total, on_total, nat_cmp_total, int_cmp_total, eq_by_cmp_equiv}
use Rattle.std.proofs.lemmas.List.Kept.{IsStrictlySortedBy-dedup, Contains-dedup, Contains-from_dedup}
use Rattle.std.proofs.lemmas.List.Sorted.{IsPermutation-sym, Contains-permutation}
use Rattle.std.proofs.lemmas.List.Elements.{All-contains, Contains-append_left, Contains-append_right, Contains-append_cases}
use Rattle.rc_layout.specs.declared.net.Net.{Net}
use Rattle.rc_layout.specs.declared.item.Item.{Item}
use Rattle.rc_layout.specs.Items.{is_piece, is_level, is_on, IsItem}
use Rattle.rc_nodes.specs.declared.node.Node.{Node}
use Rattle.rc_nodes.specs.Nodes.{node_cmp, AreNodes, IsNode, IsCrossing, is_level_piece, is_upright_piece, crossing, crossing_at, crossings, point_node, point_nodes, nodes_of, put, put_by, in_order}
use Rattle.rc_nodes.specs.Lines.{tap_of}
use Rattle.rc_nodes.proofs.Ordered.{lies_tells, lies_is_on}
use Rattle.rc_nodes.proofs.Sorted.{nat_equal, int_equal, contains_none, contains_cases, contains_first, contains_later, contains_map, image_of, same_sorted, pairs_from_sorted, sorted_from_pairs}

pub node_total : IsTotalOrder node_cmp
node_total = then_total (then_total (on_total (λ (n : Node). n.layer) nat_cmp_total) (on_total (λ (n : Node). n.at.y) int_cmp_total)) (on_total (λ (n : Node). n.at.x) int_cmp_total)

then_equal : (o q : Ordering) → ordering_then o q ≡ Equal → (o ≡ Equal) × (q ≡ Equal)
then_equal Less q h = cc
then_equal Equal q h = (refl, h)
then_equal Greater q h = cc

-- nodes that stand at one place of the order are one
pub node_equal : (a b : Node) → node_cmp a b ≡ Equal → a ≡ b
node_equal a b h =
    let last = then_equal (ordering_then (nat_cmp a.layer b.layer) (int_cmp a.at.y b.at.y)) (int_cmp a.at.x b.at.x) h in
    let first = then_equal (nat_cmp a.layer b.layer) (int_cmp a.at.y b.at.y) last.0 in
    let layer = nat_equal a.layer b.layer first.0 in
    let y = int_equal a.at.y b.at.y first.1 in
    let x = int_equal a.at.x b.at.x last.1 in
    λ i. record { layer = layer i; at = record { x = x i; y = y i } }

-- ---- a node put among others

all_put : (P : Node → Type 0) (n : Node) (ns : List Node) → P n → AllByRecursion P ns → AllByRecursion P (put n ns)
all_put P n [] p all = (p, tt)
all_put P n (m ∷ ms) p all = by (node_cmp n m) (all_put P n ms p all.1)
  where
    by : (o : Ordering) → AllByRecursion P (put n ms) → AllByRecursion P (put_by o n m ms (put n ms))
    by Less later = (p, (all.0, all.1))
    by Equal later = (all.0, all.1)
    by Greater later = (all.0, later)

less_later : (n m : Node) → node_cmp n m ≡ Less → (ms : List Node) → AllByRecursion (λ y. node_cmp m y ≡ Less) ms → AllByRecursion (λ y. node_cmp n y ≡ Less) ms
less_later n m less [] all = tt
less_later n m less (y ∷ ys) all = (node_total.trans n m y less all.0, less_later n m less ys all.1)

abbrev Rising : List Node → Type 0
Rising ns = IsStrictlySortedBy node_cmp ns

put_sorted : (n : Node) (ns : List Node) → Rising ns → Rising (put n ns)
unfolding IsStrictlySortedBy
put_sorted n [] h = (tt, tt)
put_sorted n (m ∷ ms) h = by (node_cmp n m) refl (put_sorted n ms h.1)
  where
    flip : node_cmp n m ≡ Greater → node_cmp m n ≡ Less
    flip is = node_total.antisymm m n ∙ ap ordering_reverse is

    by : (o : Ordering) → node_cmp n m ≡ o → IsStrictlySortedBy node_cmp (put n ms) → IsStrictlySortedBy node_cmp (put_by o n m ms (put n ms))
    by Less is later = ((is, less_later n m is ms h.0), h)
    by Equal is later = h
    by Greater is later = (all_put (λ y. node_cmp m y ≡ Less) n ms (flip is) h.0, later)

put_has : (n : Node) (ns : List Node) → Contains (put n ns) n
put_has n [] = contains_first n [] n refl
put_has n (m ∷ ms) = by (node_cmp n m) refl (put_has n ms)
  where
    by : (o : Ordering) → node_cmp n m ≡ o → Contains (put n ms) n → Contains (put_by o n m ms (put n ms)) n
    by Less is later = contains_first n (m ∷ ms) n refl
    by Equal is later = contains_first m ms n (sym (node_equal n m is))
    by Greater is later = contains_later m (put n ms) n later

put_keeps : (n : Node) (ns : List Node) (x : Node) → Contains ns x → Contains (put n ns) x
put_keeps n [] x h = absurd (contains_none x h)
put_keeps n (m ∷ ms) x h = by (node_cmp n m) (λ there. put_keeps n ms x there)
  where
    by : (o : Ordering) → (Contains ms x → Contains (put n ms) x) → Contains (put_by o n m ms (put n ms)) x
    by Less later = contains_later n (m ∷ ms) x h
    by Equal later = h
    by Greater later = ⊎_elim (λ here. contains_first m (put n ms) x here) (λ there. contains_later m (put n ms) x (later there)) (contains_cases m ms x h)

put_tells : (n : Node) (ns : List Node) (x : Node) → Contains (put n ns) x → (n ≡ x) ⊎ Contains ns x
put_tells n [] x h = ⊎_elim (λ here. inl here) (λ there. absurd (contains_none x there)) (contains_cases n [] x h)
put_tells n (m ∷ ms) x h = by (node_cmp n m) (λ there. put_tells n ms x there) h
  where
    by : (o : Ordering) → (Contains (put n ms) x → (n ≡ x) ⊎ Contains ms x) → Contains (put_by o n m ms (put n ms)) x → (n ≡ x) ⊎ Contains (m ∷ ms) x
    by Less later h = contains_cases n (m ∷ ms) x h
    by Equal later h = inr h
    by Greater later h = ⊎_elim (λ here. inr (contains_first m ms x here)) (λ there. ⊎_elim (λ here. inl here) (λ old. inr (contains_later m ms x old)) (later there)) (contains_cases m (put n ms) x h)

-- ---- all of them

fold_sorted : (done ns : List Node) → Rising done → Rising (fold (λ done n. put n done) done ns)
fold_sorted done [] h = h
fold_sorted done (n ∷ ns) h = fold_sorted (put n done) ns (put_sorted n done h)

fold_keeps : (done ns : List Node) (x : Node) → Contains done x ⊎ Contains ns x → Contains (fold (λ done n. put n done) done ns) x
fold_keeps done [] x h = ⊎_elim (λ old. old) (λ none. absurd (contains_none x none)) h
fold_keeps done (n ∷ ns) x h = fold_keeps (put n done) ns x (⊎_elim
    (λ old. inl (put_keeps n done x old))
    (λ new. ⊎_elim (λ here. inl (subst (Contains (put n done)) here (put_has n done))) (λ later. inr later) (contains_cases n ns x new))
    h)

fold_tells : (done ns : List Node) (x : Node) → Contains (fold (λ done n. put n done) done ns) x → Contains done x ⊎ Contains ns x
fold_tells done [] x h = inl h
fold_tells done (n ∷ ns) x h = ⊎_elim
    (λ old. ⊎_elim (λ here. inr (contains_first n ns x here)) (λ older. inl older) (put_tells n done x old))
    (λ later. inr (contains_later n ns x later))
    (fold_tells (put n done) ns x h)

empty_sorted : Rising []
unfolding IsStrictlySortedBy
empty_sorted = tt

pub in_order_sorted : (ns : List Node) → Rising (in_order ns)
in_order_sorted ns = fold_sorted [] ns empty_sorted

pub in_order_has : (ns : List Node) (x : Node) → Contains (in_order ns) x ↔ Contains ns x
in_order_has ns x = (λ h. ⊎_elim (λ none. absurd (contains_none x none)) (λ there. there) (fold_tells [] ns x h), λ h. fold_keeps [] ns x (inr h))

-- there is one list of a net's nodes
pub nodes_unique : (net : Net) (xs ys : List Node) → AreNodes net xs → AreNodes net ys → xs ≡ ys
nodes_unique net xs ys h k = same_sorted node_total xs ys (sorted_from_pairs node_cmp xs h.order) (sorted_from_pairs node_cmp ys k.order) (λ x in'. (k.all x).1 ((h.all x).0 in')) (λ x in'. (h.all x).1 ((k.all x).0 in'))

-- ---- the nodes of a net

-- the listed crossings are those that there are
crossing_member : (items : List Item) (level upright : Item) (node : Node) → Contains items level → Contains items upright → crossing level upright ≡ Some node → IsCrossing items node
crossing_member items level upright node in_l in_u h =
    let at = crossing_at level upright in
    let found = cond_some (is_level_piece level && is_upright_piece upright && (is_on level at.layer at.at && is_on upright at.layer at.at)) at node h in
    let parts = and_parts (is_level_piece level && is_upright_piece upright) (is_on level at.layer at.at && is_on upright at.layer at.at) found.0 in
    let kinds = and_parts (is_level_piece level) (is_upright_piece upright) parts.0 in
    let places = and_parts (is_on level at.layer at.at) (is_on upright at.layer at.at) parts.1 in
    subst (IsCrossing items) found.1 (record { level = level; upright = upright; level_drawn = in_l; upright_drawn = in_u; is_level = kinds.0; is_upright = kinds.1; on_level = places.0; on_upright = places.1 })

-- a member of what a list gives, each element at most one
record IsGiven {X Y : Type 0} (give : X → Option Y) (xs : List X) (y : Y) : Type 0 where
  element : X
  member : Contains xs element
  is : give element ≡ Some y

given_of : {X Y : Type 0} (give : X → Option Y) (xs : List X) (y : Y) → Contains (filter_map give xs) y → IsGiven give xs y
given_of {Y = Y} give [] y h = absurd (contains_none y h)
given_of {Y = Y} give (x ∷ xs) y h = by (give x) refl (λ there. given_of give xs y there) h
  where
    later : (Contains (filter_map give xs) y → IsGiven give xs y) → Contains (filter_map give xs) y → IsGiven give (x ∷ xs) y
    later again there = let found = again there in record { element = found.element; member = contains_later x xs found.element found.member; is = found.is }

    by : (o : Option Y) → give x ≡ o → (Contains (filter_map give xs) y → IsGiven give xs y) → Contains (cons_option o (filter_map give xs)) y → IsGiven give (x ∷ xs) y
    by None is again h = later again h
    by (Some z) is again h = ⊎_elim
        (λ here. record { element = x; member = contains_first x xs x refl; is = is ∙ ap Some here })
        (λ there. later again there)
        (contains_cases z (filter_map give xs) y h)

gives : {X Y : Type 0} (give : X → Option Y) (xs : List X) (x : X) (y : Y) → Contains xs x → give x ≡ Some y → Contains (filter_map give xs) y
gives {Y = Y} give [] x y h is = absurd (contains_none x h)
gives {Y = Y} give (z ∷ zs) x y h is = ⊎_elim
    (λ here. subst (λ o. Contains (cons_option o (filter_map give zs)) y) (sym (ap give here ∙ is)) (contains_first y (filter_map give zs) y refl))
    (λ there. by (give z) (gives give zs x y there is))
    (contains_cases z zs x h)
  where
    by : (o : Option Y) → Contains (filter_map give zs) y → Contains (cons_option o (filter_map give zs)) y
    by None there = there
    by (Some first) there = contains_later first (filter_map give zs) y there

listed_tells : (all levels : List Item) (node : Node) → ((item : Item) → Contains levels item → Contains all item) → Contains (flat_map (λ level. filter_map (λ upright. crossing level upright) all) levels) node → IsCrossing all node
listed_tells all [] node inside h = absurd (contains_none node h)
listed_tells all (level ∷ levels) node inside h = ⊎_elim
    (λ here. let found = given_of (λ upright. crossing level upright) all node here in crossing_member all level found.element node (inside level (contains_first level levels level refl)) found.member found.is)
    (λ there. listed_tells all levels node (λ item in'. inside item (contains_later level levels item in')) there)
    (Contains-append_cases (filter_map (λ upright. crossing level upright) all) (flat_map (λ level. filter_map (λ upright. crossing level upright) all) levels) node h)

listed_gives : (all levels : List Item) (level upright : Item) (node : Node) → Contains levels level → Contains all upright → crossing level upright ≡ Some node → Contains (flat_map (λ level. filter_map (λ upright. crossing level upright) all) levels) node
listed_gives all [] level upright node in_l in_u is = absurd (contains_none level in_l)
listed_gives all (first ∷ levels) level upright node in_l in_u is =
    let here' = filter_map (λ upright. crossing first upright) all in
    let later = flat_map (λ level. filter_map (λ upright. crossing level upright) all) levels in
    ⊎_elim
    (λ here. Contains-append_left here' later node (gives (λ upright. crossing first upright) all upright node in_u (ap (λ (item : Item). crossing item upright) here ∙ is)))
    (λ there. Contains-append_right here' later node (listed_gives all levels level upright node there in_u is))
    (contains_cases first levels level in_l)

-- a crossing is where its two centrelines stand
crossing_is : (level upright : Item) (node : Node) → IsItem level → IsItem upright → is_level_piece level ≡ true → is_upright_piece upright ≡ true → is_on level node.layer node.at ≡ true → is_on upright node.layer node.at ≡ true → crossing level upright ≡ Some node
crossing_is level upright node of_l of_u is_l is_u on_l on_u =
    let flat : is_level level ≡ true = (and_parts (is_piece level) (is_level level) is_l).1 in
    let steep : is_level upright ≡ false = flip (is_level upright) (and_parts (is_piece upright) (not (is_level upright)) is_u).1 in
    let l = lies_tells level (tap_of (is_level level) (0, node)) (lies_is_on level (0, node) of_l ∙ on_l) in
    let u = lies_tells upright (tap_of (is_level upright) (0, node)) (lies_is_on upright (0, node) of_u ∙ on_u) in
    let y : node.at.y ≡ level.a.y = sym (ap (λ b. cond b node.at.y node.at.x) flat) ∙ (l.line ∙ ap (λ b. cond b level.a.y level.a.x) flat) in
    let x : node.at.x ≡ upright.a.x = sym (ap (λ b. cond b node.at.y node.at.x) steep) ∙ (u.line ∙ ap (λ b. cond b upright.a.y upright.a.x) steep) in
    let same : crossing_at level upright ≡ node = λ i. record { layer = sym l.layer i; at = record { x = sym x i; y = sym y i } } in
    let on_both : (is_on level (crossing_at level upright).layer (crossing_at level upright).at && is_on upright (crossing_at level upright).layer (crossing_at level upright).at) ≡ true =
    ap (λ (n : Node). is_on level n.layer n.at && is_on upright n.layer n.at) same ∙ all_true (is_on level node.layer node.at) (is_on upright node.layer node.at) on_l on_u in
    ap (λ b. cond b (Some (crossing_at level upright)) None) (all_true (is_level_piece level && is_upright_piece upright) (is_on level (crossing_at level upright).layer (crossing_at level upright).at && is_on upright (crossing_at level upright).layer (crossing_at level upright).at) (all_true (is_level_piece level) (is_upright_piece upright) is_l is_u) on_both)
    ∙ ap Some same
  where
    flip : (b : Bool) → not b ≡ true → b ≡ false
    flip true h = sym h
    flip false h = refl

    all_true : (a b : Bool) → a ≡ true → b ≡ true → (a && b) ≡ true
    all_true a b h k = grind arith

crossings_have : (items : List Item) (node : Node) → All IsItem items → Contains (crossings items) node ↔ IsCrossing items node
crossings_have items node all = (
  λ h. listed_tells items items node (λ item in'. in') h,
  λ h. listed_gives items items h.level h.upright node h.level_drawn h.upright_drawn
      (crossing_is h.level h.upright node (All-contains IsItem items h.level all h.level_drawn) (All-contains IsItem items h.upright all h.upright_drawn) h.is_level h.is_upright h.on_level h.on_upright),
)

pub points_have : (net : Net) (node : Node) → Contains (point_nodes net) node ↔ Contains net.points (node.layer, node.at)
points_have net node = (
  λ h. let image = image_of point_node net.points node h in subst (λ (n : Node). Contains net.points (n.layer, n.at)) image.is image.member,
  λ h. contains_map point_node net.points (node.layer, node.at) h,
)

-- a node is a point or a crossing, in any list that has just these
pub node_has : (net : Net) (places : List Node) (node : Node) → (Contains places node ↔ (Contains (point_nodes net) node ⊎ IsCrossing net.items node)) → Contains places node ↔ IsNode net node
node_has net places node h = (
  λ in'. ⊎_elim (λ point. inl ((points_have net node).0 point)) (λ cross. inr cross) (h.0 in'),
  λ is. h.1 (⊎_elim (λ point. inl ((points_have net node).1 point)) (λ cross. inr cross) is),
)

pub nodes_are : (net : Net) → All IsItem net.items → AreNodes net (nodes_of net)
unfolding nodes_of
nodes_are net all =
    let places = point_nodes net ++ crossings net.items in
    record {
      order = pairs_from_sorted node_cmp (in_order places) (in_order_sorted places);
      all = λ node.
          let has = node_has net places node (
            λ h. ⊎_elim (λ p. inl p) (λ c. inr ((crossings_have net.items node all).0 c)) (Contains-append_cases (point_nodes net) (crossings net.items) node h),
            λ h. ⊎_elim (λ p. Contains-append_left (point_nodes net) (crossings net.items) node p) (λ c. Contains-append_right (point_nodes net) (crossings net.items) node ((crossings_have net.items node all).1 c)) h,
          ) in
          let listed = in_order_has places node in
          (λ h. has.0 (listed.0 h), λ h. listed.1 (has.1 h));
    }

-- sorted, each once
pub sorted_nodes : (net : Net) (points places sorted kept : List Node) → All IsItem net.items → points ≡ point_nodes net → ((node : Node) → Contains places node ↔ (Contains points node ⊎ IsCrossing net.items node)) →
    IsPermutation places sorted → IsSorted node_cmp sorted → kept ≡ dedup (eq_by_cmp node_cmp) sorted → kept ≡ nodes_of net
sorted_nodes net points places sorted kept all are has moved order kept_is =
    let same_places : (node : Node) → Contains places node ↔ IsNode net node = λ node. node_has net places node (subst (λ l. Contains places node ↔ (Contains l node ⊎ IsCrossing net.items node)) are (has node)) in
    let one : (x y : Node) → eq_by_cmp node_cmp x y ≡ true → x ≡ y = λ x y h. node_equal x y (equal_tells (node_cmp x y) h) in
    kept_is ∙ nodes_unique net (dedup (eq_by_cmp node_cmp) sorted) (nodes_of net) (record {
      order = pairs_from_sorted node_cmp (dedup (eq_by_cmp node_cmp) sorted) (IsStrictlySortedBy-dedup node_total (λ x y. refl) sorted order);
      all = λ node. (
        λ h. (same_places node).0 (Contains-permutation sorted places node (IsPermutation-sym places sorted moved) (Contains-from_dedup (eq_by_cmp node_cmp) sorted node h)),
        λ h. Contains-dedup (eq_by_cmp_equiv node_total) one sorted node (Contains-permutation places sorted node moved ((same_places node).1 h)),
      );
    }) (nodes_are net all)
  where
    equal_tells : (o : Ordering) → is_eq o ≡ true → o ≡ Equal
    equal_tells Less h = cc
    equal_tells Equal h = refl
    equal_tells Greater h = cc
