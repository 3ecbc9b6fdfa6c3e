-- The nodes in a rectangle are a run of those in its rows.
use Rattle.std.proofs.Common.{◌≡◌, ◌≤◌, ◌<◌, ◌+◌, ◌⊎◌, inl, inr, ⊎_elim, ℕ, zero, suc, ◌≤ℤ◌, Bool, true, false, cond, List, [], ◌∷◌, ◌++◌, map, take, length, get_or, Some, refl, ap, sym, ◌∙◌, subst, arith}
use Rattle.std.specs.Prelude.{Contains, slice_get, filter}
use Rattle.std.specs.List.{enumerate_from, flat_map, dedup}
use Rattle.std.specs.Cmp.{IsTotalOrder}
use Rattle.std.specs.List.Sorted.{IsPartitionedBy, IsPartitionPoint, IsPermutation, IsSorted}
use Rattle.std.specs.declared.cmp.Ordering.{Ordering}
use Rattle.std.specs.declared.cmp.Ordering.TheVariants.{Less, Equal, Greater}
use Rattle.std.specs.Ordering.{ordering_then, nat_cmp, int_cmp, is_eq, eq_by_cmp}
use Rattle.std.proofs.lemmas.Cmp.{then_total, on_total, nat_cmp_total, eq_by_cmp_equiv}
use Rattle.std.proofs.lemmas.Option.{same_Some}
use Rattle.std.proofs.lemmas.List.Concat.{flat_map-append}
use Rattle.std.proofs.lemmas.List.Kept.{IsStrictlySortedBy-dedup, Contains-dedup, Contains-from_dedup}
use Rattle.std.proofs.lemmas.List.Sorted.{IsPermutation-sym, Contains-permutation}
use Rattle.std.proofs.lemmas.Int.{ints}
use Rattle.std.proofs.lemmas.Bool.{cases_lt}
use Rattle.std.proofs.lemmas.Bool.Decides.{nat_tests}
use Rattle.std.proofs.lemmas.List.{length-map, append-nil, append_assoc, map-append, take_all, take_more, get_or_default}
use Rattle.std.proofs.lemmas.List.Elements.{filter_more}
use Rattle.std.proofs.lemmas.List.FromFn.{length-enumerate_from, get_or-enumerate_from}
use Rattle.rc_geom.specs.declared.rect.Rect.{Rect}
use Rattle.rc_nodes.specs.declared.node.Node.{Node}
use Rattle.rc_nodes.specs.declared.contact.Contact.{Contact}
use Rattle.rc_nodes.specs.Nodes.{node_cmp, AreInOrder, numbered}
use Rattle.rc_nodes.specs.Contacts.{is_in, is_below, is_above, hits, pin_hits, IsContact, contact_cmp, AreContacts}
use Rattle.rc_nodes.proofs.Sorted.{then_less, nat_less, nat_equal, int_less, int_equal, contains_none, contains_cases, contains_first, contains_later, contains_map, image_of, filter_has, filter_tells, pairs_from_sorted}
use Rattle.rc_nodes.proofs.Words.{number_in, in_number}
use Rattle.rc_nodes.proofs.Wired.{in_flat, flat_has}
use Rattle.rc_nodes.proofs.Found.{no_node, filter_none_before, filter_front}

abbrev pub contact_of : ℕ → ℕ × Node → Contact
contact_of conn n = record { conn = conn; node = n.0 }

-- nodes in order lie in rows
abbrev IsRowLe : Node → Node → Type 0
IsRowLe a b = (a.layer < b.layer) ⊎ ((a.layer ≡ b.layer) × (a.at.y ≤ℤ b.at.y))

row_le : (a b : Node) → node_cmp a b ≡ Less → IsRowLe a b
row_le a b less = ⊎_elim
    (λ first. ⊎_elim
    (λ l. inl (nat_less a.layer b.layer l))
    (λ l. let y = int_less a.at.y b.at.y l.1 in inr (nat_equal a.layer b.layer l.0, omega (arith, ints)))
    (then_less (nat_cmp a.layer b.layer) (int_cmp a.at.y b.at.y) first))
    (λ last. row_same (nat_cmp a.layer b.layer) refl last.0)
    (then_less (ordering_then (nat_cmp a.layer b.layer) (int_cmp a.at.y b.at.y)) (int_cmp a.at.x b.at.x) less)
  where
    row_same : (o : Ordering) → nat_cmp a.layer b.layer ≡ o → ordering_then o (int_cmp a.at.y b.at.y) ≡ Equal → IsRowLe a b
    row_same Less is h = cc
    row_same Equal is h = let y = int_equal a.at.y b.at.y h in inr (nat_equal a.layer b.layer is, omega (arith, ints))
    row_same Greater is h = cc

row_far : (nodes : List Node) → AreInOrder nodes → (i j : ℕ) (d : Node) → i ≤ j → j < length nodes → IsRowLe (get_or nodes i d) (get_or nodes j d)
row_far nodes order i j d le lt = ⊎_elim
    (λ less. row_le (get_or nodes i d) (get_or nodes j d) (order i j d less lt))
    (λ not.
    let same : i ≡ j = omega arith in
    let node : get_or nodes i d ≡ get_or nodes j d = ap (λ k. get_or nodes k d) same in
    inr (ap (λ (n : Node). n.layer) node, let y : (get_or nodes i d).at.y ≡ (get_or nodes j d).at.y = ap (λ (n : Node). n.at.y) node in omega (arith, ints)))
    (cases_lt i j)

below_lower : (layer : ℕ) (rect : Rect) (a b : Node) → IsRowLe a b → is_below layer rect b ≡ true → is_below layer rect a ≡ true
below_lower layer rect a b le h = grind (arith, ints, nat_tests)

below_out : (layer : ℕ) (rect : Rect) (node : Node) → is_below layer rect node ≡ true → is_in layer rect node ≡ false
below_out layer rect node h = grind (arith, ints, nat_tests)

above_out : (layer : ℕ) (rect : Rect) (a b : Node) → IsRowLe a b → is_above layer rect a ≡ true → is_in layer rect b ≡ false
above_out layer rect a b le h = grind (arith, ints, nat_tests)

pub parted_below : (layer : ℕ) (rect : Rect) (nodes : List Node) → AreInOrder nodes → IsPartitionedBy (is_below layer rect) nodes
parted_below layer rect nodes order i j d le lt h = below_lower layer rect (get_or nodes i d) (get_or nodes j d) (row_far nodes order i j d le lt) h

-- ---- the loop over them

abbrev pub in_test : ℕ → Rect → ℕ × Node → Bool
in_test layer rect n = is_in layer rect n.1

length_numbered : (nodes : List Node) → length (numbered nodes) ≡ length nodes
length_numbered nodes = length-enumerate_from 1 nodes

at_numbered : (nodes : List Node) (j : ℕ) (d : ℕ × Node) → j < length (numbered nodes) → (get_or (numbered nodes) j d).1 ≡ get_or nodes j d.1
at_numbered nodes j d lt = ap (λ (n : ℕ × Node). n.1) (get_or-enumerate_from 1 nodes j d (omega (arith, length_numbered nodes)))

pub none_in : (layer : ℕ) (rect : Rect) (conn : ℕ) (nodes : List Node) (k : ℕ) (old : List Contact) → IsPartitionPoint (λ (n : Node). is_below layer rect n ≡ true) (λ (n : Node). is_below layer rect n ≡ false) nodes k →
    old ≡ old ++ map (contact_of conn) (filter (in_test layer rect) (take k (numbered nodes)))
none_in layer rect conn nodes k old parted =
    sym (ap (λ l. old ++ map (contact_of conn) l) (filter_none_before (in_test layer rect) (numbered nodes) k (λ j d lt within.
    ap (is_in layer rect) (at_numbered nodes j d within) ∙ below_out layer rect (get_or nodes j d.1) (parted.0 j d.1 (omega arith) lt))) ∙ append-nil old)

step_is : (layer : ℕ) (rect : Rect) (nodes : List Node) (k : ℕ) → k < length nodes → (b : Bool) → is_in layer rect (get_or nodes k no_node) ≡ b →
    filter (in_test layer rect) (take (k + 1) (numbered nodes)) ≡ filter (in_test layer rect) (take k (numbered nodes)) ++ cond b ((1 + k, get_or nodes k no_node) ∷ []) []
step_is layer rect nodes k lt b is =
    let within : k < length (numbered nodes) = omega (arith, length_numbered nodes, lt) in
    let at : get_or (numbered nodes) k (0, no_node) ≡ (1 + k, get_or nodes k no_node) = get_or-enumerate_from 1 nodes k (0, no_node) lt in
    filter_more (in_test layer rect) (numbered nodes) k (0, no_node) within
    ∙ (ap (λ (n : ℕ × Node). filter (in_test layer rect) (take k (numbered nodes)) ++ cond (is_in layer rect n.1) (n ∷ []) []) at
    ∙ ap (λ b. filter (in_test layer rect) (take k (numbered nodes)) ++ cond b ((1 + k, get_or nodes k no_node) ∷ []) []) is)

pub in_more : (layer : ℕ) (rect : Rect) (conn : ℕ) (nodes : List Node) (k : ℕ) (old items more : List Contact) → k < length nodes → is_in layer rect (get_or nodes k no_node) ≡ true →
    items ≡ old ++ map (contact_of conn) (filter (in_test layer rect) (take k (numbered nodes))) → more ≡ items ++ record { conn = conn; node = k + 1 } ∷ [] →
    more ≡ old ++ map (contact_of conn) (filter (in_test layer rect) (take (k + 1) (numbered nodes)))
in_more layer rect conn nodes k old items more lt is so_far grown =
    let front = filter (in_test layer rect) (take k (numbered nodes)) in
    let one : k + 1 ≡ 1 + k = omega arith in
    grown
    ∙ (ap (λ l. l ++ record { conn = conn; node = k + 1 } ∷ []) so_far
    ∙ (ap (λ n. (old ++ map (contact_of conn) front) ++ record { conn = conn; node = n } ∷ []) one
    ∙ (append_assoc old (map (contact_of conn) front) (record { conn = conn; node = 1 + k } ∷ [])
    ∙ (ap (λ l. old ++ l) (sym (map-append (contact_of conn) front ((1 + k, get_or nodes k no_node) ∷ [])))
    ∙ ap (λ l. old ++ map (contact_of conn) l) (sym (step_is layer rect nodes k lt true is))))))

pub in_same : (layer : ℕ) (rect : Rect) (conn : ℕ) (nodes : List Node) (k : ℕ) (old items : List Contact) → k < length nodes → is_in layer rect (get_or nodes k no_node) ≡ false →
    items ≡ old ++ map (contact_of conn) (filter (in_test layer rect) (take k (numbered nodes))) → items ≡ old ++ map (contact_of conn) (filter (in_test layer rect) (take (k + 1) (numbered nodes)))
in_same layer rect conn nodes k old items lt is so_far =
    let front = filter (in_test layer rect) (take k (numbered nodes)) in
    so_far ∙ ap (λ l. old ++ map (contact_of conn) l) (sym (step_is layer rect nodes k lt false is ∙ append-nil front))

pub in_all : (layer : ℕ) (rect : Rect) (conn : ℕ) (nodes : List Node) (k : ℕ) (old items : List Contact) → AreInOrder nodes → k < length nodes → is_above layer rect (get_or nodes k no_node) ≡ true →
    items ≡ old ++ map (contact_of conn) (filter (in_test layer rect) (take k (numbered nodes))) → items ≡ old ++ hits nodes conn (layer, rect)
in_all layer rect conn nodes k old items order lt past so_far =
    so_far ∙ ap (λ l. old ++ map (contact_of conn) l) (filter_front (in_test layer rect) (numbered nodes) k (λ j d le within.
    let same : get_or nodes k d.1 ≡ get_or nodes k no_node = get_or_default nodes k d.1 no_node lt in
    ap (is_in layer rect) (at_numbered nodes j d within)
    ∙ above_out layer rect (get_or nodes k d.1) (get_or nodes j d.1) (row_far nodes order k j d.1 le (omega (arith, length_numbered nodes, within))) (ap (is_above layer rect) same ∙ past)))

pub in_done : (layer : ℕ) (rect : Rect) (conn : ℕ) (nodes : List Node) (k : ℕ) (old items : List Contact) → length nodes ≤ k →
    items ≡ old ++ map (contact_of conn) (filter (in_test layer rect) (take k (numbered nodes))) → items ≡ old ++ hits nodes conn (layer, rect)
in_done layer rect conn nodes k old items le so_far =
    so_far ∙ ap (λ l. old ++ map (contact_of conn) (filter (in_test layer rect) l)) (take_all k (numbered nodes) (omega (arith, length_numbered nodes, le)))

-- ---- all pins

pub enumerated_tells : {X : Type 0} (m : ℕ) (xs : List X) (n : ℕ) (x : X) → Contains (enumerate_from m xs) (n, x) → (k : ℕ) × (n ≡ k + m) × (slice_get xs k ≡ Some x)
enumerated_tells m [] n x h = absurd (contains_none (n, x) h)
enumerated_tells {X} m (first ∷ rest) n x h = ⊎_elim
    (λ here. let same : m ≡ n = ap (λ (z : ℕ × X). z.0) here in (0, omega arith, ap (λ (z : ℕ × X). Some z.1) here))
    (λ there. let found = enumerated_tells (m + 1) rest n x there in let is = found.1 in (suc found.0, omega (arith, is), found.2))
    (contains_cases (m, first) (enumerate_from (m + 1) rest) (n, x) h)

pub enumerated_gives : {X : Type 0} (m : ℕ) (xs : List X) (k : ℕ) (x : X) → slice_get xs k ≡ Some x → Contains (enumerate_from m xs) (k + m, x)
enumerated_gives m [] k x h = cc
enumerated_gives m (first ∷ rest) zero x h = contains_first (m, first) (enumerate_from (m + 1) rest) (0 + m, x) (let same : m ≡ 0 + m = omega arith in λ i. (same i, same_Some first x h i))
enumerated_gives m (first ∷ rest) (suc k) x h =
    let same : k + (m + 1) ≡ suc k + m = omega arith in
    contains_later (m, first) (enumerate_from (m + 1) rest) (suc k + m, x) (subst (λ n. Contains (enumerate_from (m + 1) rest) (n, x)) same (enumerated_gives (m + 1) rest k x h))

pin_at : (pins : List (List (ℕ × Rect))) (n : ℕ) (rects : List (ℕ × Rect)) → Contains (enumerate_from 0 pins) (n, rects) → slice_get pins n ≡ Some rects
pin_at pins n rects h =
    let found = enumerated_tells 0 pins n rects h in
    let is = found.1 in
    let same : n ≡ found.0 = omega (arith, is) in
    ap (slice_get pins) same ∙ found.2

at_pin : (pins : List (List (ℕ × Rect))) (n : ℕ) (rects : List (ℕ × Rect)) → slice_get pins n ≡ Some rects → Contains (enumerate_from 0 pins) (n, rects)
at_pin pins n rects h = let same : n + 0 ≡ n = omega arith in subst (λ k. Contains (enumerate_from 0 pins) (k, rects)) same (enumerated_gives 0 pins n rects h)

contact_tells : (nodes : List Node) (pins : List (List (ℕ × Rect))) (c : Contact) → Contains (flat_map (pin_hits nodes) (enumerate_from 0 pins)) c → IsContact nodes pins c
contact_tells nodes pins c h =
    let pin = in_flat (pin_hits nodes) (enumerate_from 0 pins) c h in
    let rect = in_flat (hits nodes pin.element.0) pin.element.1 c pin.inside in
    let image = image_of (contact_of pin.element.0) (filter (in_test rect.element.0 rect.element.1) (numbered nodes)) c rect.inside in
    let found = filter_tells (in_test rect.element.0 rect.element.1) (numbered nodes) image.element image.member in
    subst (IsContact nodes pins) image.is (record {
      rects = pin.element.1;
      pin = pin_at pins pin.element.0 pin.element.1 pin.member;
      placed = rect.element;
      of = rect.member;
      node = image.element.1;
      number = in_number nodes image.element.0 image.element.1 found.0;
      inside = found.1;
    })

contact_gives : (nodes : List Node) (pins : List (List (ℕ × Rect))) (c : Contact) → IsContact nodes pins c → Contains (flat_map (pin_hits nodes) (enumerate_from 0 pins)) c
contact_gives nodes pins c h =
    flat_has (pin_hits nodes) (enumerate_from 0 pins) (c.conn, h.rects) c (at_pin pins c.conn h.rects h.pin)
    (flat_has (hits nodes c.conn) h.rects h.placed c h.of
    (contains_map (contact_of c.conn) (filter (in_test h.placed.0 h.placed.1) (numbered nodes)) (c.node, h.node) (filter_has (in_test h.placed.0 h.placed.1) (numbered nodes) (c.node, h.node) (number_in nodes c.node h.node h.number) h.inside)))

pub pins_more : (nodes : List Node) (pins : List (List (ℕ × Rect))) (k : ℕ) (rects read : List (ℕ × Rect)) (items more : List Contact) → k < length pins → rects ≡ get_or pins k rects → read ≡ rects →
    items ≡ flat_map (pin_hits nodes) (take k (enumerate_from 0 pins)) → more ≡ items ++ pin_hits nodes (k, read) → more ≡ flat_map (pin_hits nodes) (take (k + 1) (enumerate_from 0 pins))
pins_more nodes pins k rects read items more lt is same so_far grown =
    let long : k < length (enumerate_from 0 pins) = omega (arith, length-enumerate_from 0 pins, lt) in
    let zero' : 0 + k ≡ k = omega arith in
    let front : take (k + 1) (enumerate_from 0 pins) ≡ take k (enumerate_from 0 pins) ++ (k, rects) ∷ [] =
    take_more (enumerate_from 0 pins) k (k, rects) long
    ∙ (ap (λ (x : ℕ × List (ℕ × Rect)). take k (enumerate_from 0 pins) ++ x ∷ []) (get_or-enumerate_from 0 pins k (k, rects) lt)
    ∙ (ap (λ (x : List (ℕ × Rect)). take k (enumerate_from 0 pins) ++ (0 + k, x) ∷ []) (sym is) ∙ ap (λ n. take k (enumerate_from 0 pins) ++ (n, rects) ∷ []) zero')) in
    grown
    ∙ (ap (λ l. items ++ pin_hits nodes (k, l)) same
    ∙ (ap (λ l. l ++ pin_hits nodes (k, rects)) so_far
    ∙ (ap (λ l. flat_map (pin_hits nodes) (take k (enumerate_from 0 pins)) ++ l) (sym (append-nil (pin_hits nodes (k, rects))))
    ∙ (sym (flat_map-append (pin_hits nodes) (take k (enumerate_from 0 pins)) ((k, rects) ∷ []))
    ∙ ap (flat_map (pin_hits nodes)) (sym front)))))

-- a pin without rectangles
pub none_hit : (nodes : List Node) (conn : ℕ) (old : List Contact) (rects : List (ℕ × Rect)) → rects ≡ [] → old ≡ old ++ pin_hits nodes (conn, rects)
none_hit nodes conn old rects none = sym (ap (λ l. old ++ pin_hits nodes (conn, l)) none ∙ append-nil old)

-- the rectangles of each connection
pub conns_more : {C : Type 0} (nodes : List Node) (rects_of : C → List (ℕ × Rect)) (conns : List C) (k : ℕ) (d : C) (items more : List Contact) → k < length conns →
    items ≡ flat_map (pin_hits nodes) (take k (enumerate_from 0 (map rects_of conns))) → more ≡ items ++ pin_hits nodes (k, rects_of (get_or conns k d)) → more ≡ flat_map (pin_hits nodes) (take (k + 1) (enumerate_from 0 (map rects_of conns)))
conns_more {C} nodes rects_of conns k d items more lt so_far grown =
    let conn = get_or conns k d in
    let long : k < length (map rects_of conns) = let same = length-map conns rects_of in omega (arith, same, lt) in
    let at : rects_of conn ≡ get_or (map rects_of conns) k (rects_of conn) = ap rects_of (sym (get_or_default conns k conn d lt)) ∙ sym (get_or-map rects_of conns k conn) in
    pins_more nodes (map rects_of conns) k (rects_of conn) (rects_of conn) items more long at refl so_far grown
  where
    get_or-map : (f : C → List (ℕ × Rect)) (xs : List C) (k : ℕ) (d : C) → get_or (map f xs) k (f d) ≡ f (get_or xs k d)
    get_or-map f [] k d = refl
    get_or-map f (x ∷ xs) zero d = refl
    get_or-map f (x ∷ xs) (suc k) d = get_or-map f xs k d

pub pins_done : (nodes : List Node) (pins : List (List (ℕ × Rect))) (k : ℕ) (items : List Contact) → length pins ≤ k → items ≡ flat_map (pin_hits nodes) (take k (enumerate_from 0 pins)) → items ≡ flat_map (pin_hits nodes) (enumerate_from 0 pins)
pins_done nodes pins k items le so_far = so_far ∙ ap (flat_map (pin_hits nodes)) (take_all k (enumerate_from 0 pins) (omega (arith, length-enumerate_from 0 pins, le)))

-- ---- in order, each once

pub contact_total : IsTotalOrder contact_cmp
contact_total = then_total (on_total (λ (c : Contact). c.conn) nat_cmp_total) (on_total (λ (c : Contact). c.node) nat_cmp_total)

contact_equal : (a b : Contact) → contact_cmp a b ≡ Equal → a ≡ b
contact_equal a b h = by (nat_cmp a.conn b.conn) refl h
  where
    by : (o : Ordering) → nat_cmp a.conn b.conn ≡ o → ordering_then o (nat_cmp a.node b.node) ≡ Equal → a ≡ b
    by Less is h = cc
    by Equal is h = let conn = nat_equal a.conn b.conn is in let node = nat_equal a.node b.node h in λ i. record { conn = conn i; node = node i }
    by Greater is h = cc

equal_tells : (o : Ordering) → is_eq o ≡ true → o ≡ Equal
equal_tells Less h = cc
equal_tells Equal h = refl
equal_tells Greater h = cc

pub contacts_are : (nodes : List Node) (pins : List (List (ℕ × Rect))) (found sorted kept : List Contact) → found ≡ flat_map (pin_hits nodes) (enumerate_from 0 pins) → IsPermutation found sorted → IsSorted contact_cmp sorted →
    kept ≡ dedup (eq_by_cmp contact_cmp) sorted → AreContacts nodes pins kept
contacts_are nodes pins found sorted kept are moved order kept_is =
    subst (AreContacts nodes pins) (sym kept_is) (record {
      order = pairs_from_sorted contact_cmp (dedup (eq_by_cmp contact_cmp) sorted) (IsStrictlySortedBy-dedup contact_total (λ x y. refl) sorted order);
      all = λ c. (
        λ h. contact_tells nodes pins c (subst (λ l. Contains l c) are (Contains-permutation sorted found c (IsPermutation-sym found sorted moved) (Contains-from_dedup (eq_by_cmp contact_cmp) sorted c h))),
        λ h. Contains-dedup (eq_by_cmp_equiv contact_total) (λ x y h. contact_equal x y (equal_tells (contact_cmp x y) h)) sorted c (Contains-permutation found sorted c moved (subst (λ l. Contains l c) (sym are) (contact_gives nodes pins c h))),
      );
    })
