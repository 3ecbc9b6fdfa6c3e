-- The wires of a net are what joins neighbouring nodes, each as wide as the widest piece.
use Rattle.std.proofs.Common.{◌≡◌, ◌≤◌, ◌<◌, ◌+◌, ◌⊎◌, inl, inr, ⊎_elim, ℕ, suc, ℤ, pos, ◌≤ℤ◌, ◌<ℤ◌, Bool, true, false, cond, List, [], ◌∷◌, ◌++◌, drop, length, get_or, refl, ap, sym, ◌∙◌, subst, arith}
use Rattle.std.specs.Prelude.{All, Contains, filter, not, ◌==◌, ◌&&◌}
use Rattle.std.specs.List.{AllByRecursion, flat_map}
use Rattle.std.specs.List.Sorted.{IsStrictlySortedBy, IsSorted, IsPermutation}
use Rattle.std.specs.Cmp.{IsTotalOrder}
use Rattle.std.specs.declared.cmp.Ordering.TheVariants.{Less, Equal}
use Rattle.std.specs.Ordering.{ordering_then, nat_cmp, int_cmp, is_lt, on}
use Rattle.std.proofs.lemmas.Int.{ints, by_lt_z}
use Rattle.std.proofs.lemmas.Cmp.{then_total, on_total, nat_cmp_total}
use Rattle.std.proofs.lemmas.Bool.{true≢false, cases_order, and_parts, eqb-true}
use Rattle.std.proofs.lemmas.List.Elements.{All-contains, All-from_recursion, recursion_from_All, Contains-append_left, Contains-append_right, Contains-append_cases}
use Rattle.std.proofs.lemmas.List.{append_assoc, drop_more}
use Rattle.std.proofs.lemmas.List.Sorted.{sorted_far, ranks_by, IsPermutation-sym, Contains-permutation}
use Rattle.rc_layout.specs.declared.item.Item.{Item}
use Rattle.rc_layout.specs.Items.{is_piece, is_level, is_on, IsItem}
use Rattle.rc_nodes.specs.declared.node.Node.{Node}
use Rattle.rc_nodes.specs.declared.line.Tap.{Tap}
use Rattle.rc_nodes.specs.declared.wire.Wire.{Wire}
use Rattle.rc_nodes.specs.contracts.wire.WireOrd.TheImpl as order
use Rattle.rc_nodes.specs.contracts.wire.WireOrd.TheImpl.Laws.{total-law}
use Rattle.rc_nodes.specs.Nodes.{AreInOrder, numbered}
use Rattle.rc_nodes.specs.NetPlane.{nodes_on}
use Rattle.rc_nodes.specs.Lines.{tap_of, lies_on, AreTaps}
use Rattle.rc_nodes.specs.Wires.{IsOn, IsSegment, same_ends, ends_cmp, AreWires, segment_to, segments, item_segments, is_end, widest}
use Rattle.rc_nodes.proofs.Sorted.{nat_less, nat_is_less, nat_is_equal, int_is_less, contains_none, contains_cases, contains_first, contains_later, contains_map, image_of, filter_has, filter_tells, head_below, tail_sorted, sorted_map}
use Rattle.rc_nodes.proofs.Tiled.{taps_on}
use Rattle.rc_nodes.proofs.Ordered.{found_is}
use Rattle.rc_nodes.proofs.Words.{number_in, in_number, on_rise}

-- ---- from one tap to the next

abbrev Rises : List Tap → Type 0
Rises taps = IsStrictlySortedBy (on (λ (s : Tap). s.node) nat_cmp) taps

higher : (s : Tap) (taps : List Tap) (t : Tap) → Rises (s ∷ taps) → Contains taps t → s.node < t.node
higher s taps t rise there = nat_less s.node t.node (head_below (on (λ (s : Tap). s.node) nat_cmp) s taps t rise there)

later_rise : (s : Tap) (taps : List Tap) → Rises (s ∷ taps) → Rises taps
later_rise s taps rise = tail_sorted (on (λ (s : Tap). s.node) nat_cmp) s taps rise

record IsJoined (taps : List Tap) (w : Wire) : Type 0 where
  from : Tap
  to : Tap
  of_from : Contains taps from
  of_to : Contains taps to
  lower : from.node ≡ w.lower
  upper : to.node ≡ w.upper
  order : w.lower < w.upper
  between : (s : Tap) → Contains taps s → w.lower < s.node → s.node < w.upper → ⊥

segments_tell : (width : ℤ) (taps : List Tap) (w : Wire) → Rises taps → Contains (segments width taps) w → IsJoined taps w × (w.width ≡ width)
segments_tell width [] w rise h = absurd (contains_none w h)
segments_tell width (s ∷ []) w rise h = absurd (contains_none w h)
segments_tell width (s ∷ t ∷ rest) w rise h = ⊎_elim
    (λ here.
    let lower : s.node ≡ w.lower = ap (λ (w : Wire). w.lower) here in
    let upper : t.node ≡ w.upper = ap (λ (w : Wire). w.upper) here in
    let less = higher s (t ∷ rest) t rise (contains_first t rest t refl) in (
      record {
        from = s;
        to = t;
        of_from = contains_first s (t ∷ rest) s refl;
        of_to = contains_later s (t ∷ rest) t (contains_first t rest t refl);
        lower = lower;
        upper = upper;
        order = omega (arith, lower, upper, less);
        between = λ u in' above below. ⊎_elim
            (λ is_s. let same : s.node ≡ u.node = ap (λ (x : Tap). x.node) is_s in omega (arith, same, lower, above))
            (λ later. ⊎_elim
            (λ is_t. let same : t.node ≡ u.node = ap (λ (x : Tap). x.node) is_t in omega (arith, same, upper, below))
            (λ last. let past = higher t rest u (later_rise s (t ∷ rest) rise) last in omega (arith, past, upper, below))
            (contains_cases t rest u later))
            (contains_cases s (t ∷ rest) u in');
      },
      sym (ap (λ (w : Wire). w.width) here),
    ))
    (λ there.
    let found = segments_tell width (t ∷ rest) w (later_rise s (t ∷ rest) rise) there in
    let j = found.0 in (
      record {
        from = j.from;
        to = j.to;
        of_from = contains_later s (t ∷ rest) j.from j.of_from;
        of_to = contains_later s (t ∷ rest) j.to j.of_to;
        lower = j.lower;
        upper = j.upper;
        order = j.order;
        between = λ u in' above below. ⊎_elim
            (λ is_s.
            let same : s.node ≡ u.node = ap (λ (x : Tap). x.node) is_s in
            let less = higher s (t ∷ rest) j.from rise j.of_from in
            let lower = j.lower in
            omega (arith, same, less, lower, above))
            (λ later. j.between u later above below)
            (contains_cases s (t ∷ rest) u in');
      },
      found.1,
    ))
    (contains_cases (record { lower = s.node; upper = t.node; width = width }) (segments width (t ∷ rest)) w h)

segments_give : (width : ℤ) (taps : List Tap) (from to : Tap) → Rises taps → Contains taps from → Contains taps to → from.node < to.node → ((s : Tap) → Contains taps s → from.node < s.node → s.node < to.node → ⊥) →
    Contains (segments width taps) (record { lower = from.node; upper = to.node; width = width })
segments_give width [] from to rise in_from in_to less between = absurd (contains_none from in_from)
segments_give width (s ∷ []) from to rise in_from in_to less between =
    let a = ⊎_elim (λ here. here) (λ none. absurd (contains_none from none)) (contains_cases s [] from in_from) in
    let b = ⊎_elim (λ here. here) (λ none. absurd (contains_none to none)) (contains_cases s [] to in_to) in
    let one : s.node ≡ from.node = ap (λ (x : Tap). x.node) a in
    let two : s.node ≡ to.node = ap (λ (x : Tap). x.node) b in
    absurd (omega (arith, one, two, less))
segments_give width (s ∷ t ∷ rest) from to rise in_from in_to less between =
    let w : Wire = record { lower = from.node; upper = to.node; width = width } in
    let first : Wire = record { lower = s.node; upper = t.node; width = width } in
    let tail = later_rise s (t ∷ rest) rise in
    ⊎_elim
    (λ is_s.
    let same : s.node ≡ from.node = ap (λ (x : Tap). x.node) is_s in
    ⊎_elim
    (λ to_s. let again : s.node ≡ to.node = ap (λ (x : Tap). x.node) to_s in absurd (omega (arith, same, again, less)))
    (λ later. ⊎_elim
    (λ is_t. contains_first first (segments width (t ∷ rest)) w (let at : t.node ≡ to.node = ap (λ (x : Tap). x.node) is_t in λ i. record { lower = same i; upper = at i; width = width }))
    (λ last.
    let up = higher s (t ∷ rest) t rise (contains_first t rest t refl) in
    let past = higher t rest to tail last in
    absurd (between t (contains_later s (t ∷ rest) t (contains_first t rest t refl)) (omega (arith, same, up)) past))
    (contains_cases t rest to later))
    (contains_cases s (t ∷ rest) to in_to))
    (λ from_later. ⊎_elim
    (λ to_s.
    let again : s.node ≡ to.node = ap (λ (x : Tap). x.node) to_s in
    let up = higher s (t ∷ rest) from rise from_later in
    absurd (omega (arith, again, up, less)))
    (λ to_later. contains_later first (segments width (t ∷ rest)) w (segments_give width (t ∷ rest) from to tail from_later to_later less (λ u in' above below. between u (contains_later s (t ∷ rest) u in') above below)))
    (contains_cases s (t ∷ rest) to in_to))
    (contains_cases s (t ∷ rest) from in_from)

-- ---- the taps of an item by number

all_unit : (ns : List (ℕ × Node)) → AllByRecursion (λ (n : ℕ × Node). Unit {0}) ns
all_unit [] = tt
all_unit (n ∷ ns) = (tt, all_unit ns)

taps_rise : (nodes : List Node) (item : Item) → Rises (taps_on nodes item)
taps_rise nodes item =
    sorted_map (on (λ (n : ℕ × Node). n.0) nat_cmp) (on (λ (s : Tap). s.node) nat_cmp) (tap_of (is_level item)) (λ n. Unit {0}) (λ x y p q h. h) (nodes_on nodes item) (all_unit (nodes_on nodes item)) (on_rise nodes item)

tap_is_on : (nodes : List Node) (item : Item) (s : Tap) → Contains (taps_on nodes item) s → IsOn nodes item s.node
tap_is_on nodes item s h =
    let image = image_of (tap_of (is_level item)) (nodes_on nodes item) s h in
    let found = filter_tells (λ (n : ℕ × Node). is_on item n.1.layer n.1.at) (numbered nodes) image.element image.member in
    let number = in_number nodes image.element.0 image.element.1 found.0 in
    subst (IsOn nodes item) (ap (λ (x : Tap). x.node) image.is) (image.element.1, number, found.1)

record HasTap (nodes : List Node) (item : Item) (n : ℕ) : Type 0 where
  tap : Tap
  member : Contains (taps_on nodes item) tap
  number : tap.node ≡ n

on_has_tap : (nodes : List Node) (item : Item) (n : ℕ) → IsOn nodes item n → HasTap nodes item n
on_has_tap nodes item n h = record {
  tap = tap_of (is_level item) (n, h.0);
  member = contains_map (tap_of (is_level item)) (nodes_on nodes item) (n, h.0) (filter_has (λ (n : ℕ × Node). is_on item n.1.layer n.1.at) (numbered nodes) (n, h.0) (number_in nodes n h.0 h.1) h.2);
  number = refl;
}

-- ---- the wires of all pieces

pub record IsIn {X A : Type 0} (f : X → List A) (xs : List X) (y : A) : Type 0 where
  pub element : X
  pub member : Contains xs element
  pub inside : Contains (f element) y

pub in_flat : {X A : Type 0} (f : X → List A) (xs : List X) (y : A) → Contains (flat_map f xs) y → IsIn f xs y
in_flat f [] y h = absurd (contains_none y h)
in_flat f (x ∷ xs) y h = ⊎_elim
    (λ here. record { element = x; member = contains_first x xs x refl; inside = here })
    (λ there. let found = in_flat f xs y there in record { element = found.element; member = contains_later x xs found.element found.member; inside = found.inside })
    (Contains-append_cases (f x) (flat_map f xs) y h)

pub flat_has : {X A : Type 0} (f : X → List A) (xs : List X) (x : X) (y : A) → Contains xs x → Contains (f x) y → Contains (flat_map f xs) y
flat_has f [] x y h k = absurd (contains_none x h)
flat_has {A = A} f (z ∷ zs) x y h k = ⊎_elim
    (λ here. Contains-append_left (f z) (flat_map f zs) y (subst (λ l. Contains {X = A} l y) (sym (ap f here)) k))
    (λ there. Contains-append_right (f z) (flat_map f zs) y (flat_has f zs x y there k))
    (contains_cases z zs x h)

-- what the taps of rows and columns come to on an item
pub found_taps : (nodes : List Node) (item : Item) (rows columns : List Tap) → AreInOrder nodes → IsItem item → AreTaps true nodes rows → AreTaps false nodes columns → filter (lies_on item) (cond (is_level item) rows columns) ≡ taps_on nodes item
found_taps nodes item rows columns order' is by_rows by_columns = found_is nodes item (cond (is_level item) rows columns) order' is (chosen (is_level item))
  where
    chosen : (b : Bool) → AreTaps b nodes (cond b rows columns)
    chosen true = by_rows
    chosen false = by_columns

segment_tells : (nodes : List Node) (items : List Item) (rows columns : List Tap) (w : Wire) → AreInOrder nodes → All IsItem items → AreTaps true nodes rows → AreTaps false nodes columns →
    Contains (flat_map (item_segments rows columns) items) w → IsSegment items nodes w
segment_tells nodes items rows columns w order' all by_rows by_columns h =
    let found = in_flat (item_segments rows columns) items w h in
    let item = found.element in
    by item found.member (found_taps nodes item rows columns order' (All-contains IsItem items item all found.member) by_rows by_columns) (is_piece item) refl found.inside
  where
    by : (item : Item) → Contains items item → filter (lies_on item) (cond (is_level item) rows columns) ≡ taps_on nodes item → (b : Bool) → is_piece item ≡ b →
        Contains (cond b (segments item.width (filter (lies_on item) (cond (is_level item) rows columns))) []) w → IsSegment items nodes w
    by item member same false is inside = absurd (contains_none w inside)
    by item member same true is inside =
        let told = segments_tell item.width (taps_on nodes item) w (taps_rise nodes item) (subst (λ l. Contains (segments item.width l) w) same inside) in
        let j = told.0 in
        record {
          item = item;
          drawn = member;
          piece = is;
          width = told.1;
          lower = subst (IsOn nodes item) j.lower (tap_is_on nodes item j.from j.of_from);
          upper = subst (IsOn nodes item) j.upper (tap_is_on nodes item j.to j.of_to);
          order = j.order;
          between = λ n above below on'.
              let s = on_has_tap nodes item n on' in
              let number = s.number in
              j.between s.tap s.member (omega (arith, number, above)) (omega (arith, number, below));
        }

segment_gives : (nodes : List Node) (items : List Item) (rows columns : List Tap) (w : Wire) → AreInOrder nodes → All IsItem items → AreTaps true nodes rows → AreTaps false nodes columns →
    IsSegment items nodes w → Contains (flat_map (item_segments rows columns) items) w
segment_gives nodes items rows columns w order' all by_rows by_columns h =
    let item = h.item in
    let same = found_taps nodes item rows columns order' (All-contains IsItem items item all h.drawn) by_rows by_columns in
    let from = on_has_tap nodes item w.lower h.lower in
    let to = on_has_tap nodes item w.upper h.upper in
    let low = from.number in
    let high = to.number in
    let less = h.order in
    let given = segments_give item.width (taps_on nodes item) from.tap to.tap (taps_rise nodes item) from.member to.member (omega (arith, low, high, less))
    (λ s in' above below. h.between s.node (omega (arith, low, above)) (omega (arith, high, below)) (tap_is_on nodes item s in')) in
    let is : record { lower = from.tap.node; upper = to.tap.node; width = item.width } ≡ w = λ i. record { lower = low i; upper = high i; width = sym h.width i } in
    let inside : Contains (segments item.width (filter (lies_on item) (cond (is_level item) rows columns))) w =
    subst (λ l. Contains (segments item.width l) w) (sym same) (subst (Contains (segments item.width (taps_on nodes item))) is given) in
    flat_has (item_segments rows columns) items item w h.drawn (subst (λ b. Contains (cond b (segments item.width (filter (lies_on item) (cond (is_level item) rows columns))) []) w) (sym h.piece) inside)

-- ---- the widest between each two nodes

pub ends_total : IsTotalOrder ends_cmp
ends_total = then_total (on_total (λ (w : Wire). w.lower) nat_cmp_total) (on_total (λ (w : Wire). w.upper) nat_cmp_total)

-- a wire isn't below another: its ends are lower, or they are the same and it isn't wider
abbrev IsLe : Wire → Wire → Type 0
IsLe a b = (ends_cmp a b ≡ Less) ⊎ ((a.lower ≡ b.lower) × (a.upper ≡ b.upper) × (a.width ≤ℤ b.width))

pub ends_less : (a b : Wire) → (a.lower < b.lower) ⊎ ((a.lower ≡ b.lower) × (a.upper < b.upper)) → ends_cmp a b ≡ Less
ends_less a b h = ⊎_elim
    (λ l. ap (λ o. ordering_then o (nat_cmp a.upper b.upper)) (nat_is_less a.lower b.lower l))
    (λ l. ap (λ o. ordering_then o (nat_cmp a.upper b.upper)) (nat_is_equal a.lower b.lower l.0) ∙ nat_is_less a.upper b.upper l.1)
    h

le_tells : (a b : Wire) → is_lt (order.ghosts.cmp b a) ≡ false → IsLe a b
le_tells a b h = ⊎_elim
    (λ lower. ⊎_elim
    (λ upper. by_lt_z b.width a.width (λ less. absurd (true≢false (sym (ap is_lt (width_less lower upper less)) ∙ h))) (λ le. inr (lower, upper, le)))
    (⊎_elim
    (λ less. inl (ends_less a b (inr (lower, less))))
    (λ more. absurd (true≢false (sym (ap is_lt (upper_less lower more)) ∙ h))))
    (cases_order a.upper b.upper))
    (⊎_elim
    (λ less. inl (ends_less a b (inl less)))
    (λ more. absurd (true≢false (sym (ap is_lt (ap (λ o. ordering_then o (ordering_then (nat_cmp b.upper a.upper) (int_cmp b.width a.width))) (nat_is_less b.lower a.lower more))) ∙ h))))
    (cases_order a.lower b.lower)
  where
    upper_less : a.lower ≡ b.lower → b.upper < a.upper → order.ghosts.cmp b a ≡ Less
    upper_less same less =
        ap (λ o. ordering_then o (ordering_then (nat_cmp b.upper a.upper) (int_cmp b.width a.width))) (nat_is_equal b.lower a.lower (sym same))
        ∙ ap (λ o. ordering_then o (int_cmp b.width a.width)) (nat_is_less b.upper a.upper less)

    width_less : a.lower ≡ b.lower → a.upper ≡ b.upper → b.width <ℤ a.width → order.ghosts.cmp b a ≡ Less
    width_less lower upper less =
        ap (λ o. ordering_then o (ordering_then (nat_cmp b.upper a.upper) (int_cmp b.width a.width))) (nat_is_equal b.lower a.lower (sym lower))
        ∙ (ap (λ o. ordering_then o (int_cmp b.width a.width)) (nat_is_equal b.upper a.upper (sym upper)) ∙ int_is_less b.width a.width less)

-- each wire and all later ones
abbrev Rising : List Wire → Type 0
Rising [] = Unit {0}
Rising (w ∷ later) = AllByRecursion (IsLe w) later × Rising later

rising_from : (ws : List Wire) → ((i j : ℕ) (d : Wire) → i ≤ j → j < length ws → is_lt (order.ghosts.cmp (get_or ws j d) (get_or ws i d)) ≡ false) → Rising ws
rising_from [] h = tt
rising_from (w ∷ later) h = (
  recursion_from_All (IsLe w) later (λ k d lt. le_tells w (get_or later k d) (h 0 (suc k) d (omega arith) (omega (arith, lt)))),
  rising_from later (λ i j d le lt. h (suc i) (suc j) d (omega (arith, le)) (omega (arith, lt))),
)

sorted_rising : (ws : List Wire) → IsSorted order.ghosts.cmp ws → Rising ws
sorted_rising ws sorted = rising_from ws (λ i j d le lt. sorted_far (λ x y. is_lt (order.ghosts.cmp x y)) (ranks_by total-law (λ (w : Wire). w)) ws sorted i j d le lt)

pub same_tells : (a b : Wire) → same_ends a b ≡ true → (a.lower ≡ b.lower) × (a.upper ≡ b.upper)
same_tells a b h = let parts = and_parts (a.lower == b.lower) (a.upper == b.upper) h in (eqb-true a.lower b.lower parts.0, eqb-true a.upper b.upper parts.1)

pub same_gives : (a b : Wire) → a.lower ≡ b.lower → a.upper ≡ b.upper → same_ends a b ≡ true
same_gives a b h k = both (a.lower == b.lower) (a.upper == b.upper) (passes a.lower b.lower h) (passes a.upper b.upper k)
  where
    passes : (x y : ℕ) → x ≡ y → (x == y) ≡ true
    passes x y h = grind arith

    both : (x y : Bool) → x ≡ true → y ≡ true → (x && y) ≡ true
    both x y h k = grind arith

less_apart : (a b : Wire) → ends_cmp a b ≡ Less → same_ends a b ≡ false
less_apart a b h = by (same_ends a b) refl
  where
    by : (s : Bool) → same_ends a b ≡ s → s ≡ false
    by false is = refl
    by true is =
        let same = same_tells a b is in
        let tie : ends_cmp a b ≡ Equal = ap (λ o. ordering_then o (nat_cmp a.upper b.upper)) (nat_is_equal a.lower b.lower same.0) ∙ nat_is_equal a.upper b.upper same.1 in
        cc

less_then : (a b c : Wire) → ends_cmp a b ≡ Less → IsLe b c → ends_cmp a c ≡ Less
less_then a b c less le = ⊎_elim
    (λ next. ends_total.trans a b c less next)
    (λ same. subst (λ n. ordering_then (nat_cmp a.lower n) (nat_cmp a.upper c.upper) ≡ Less) same.0 (subst (λ n. ordering_then (nat_cmp a.lower b.lower) (nat_cmp a.upper n) ≡ Less) same.1 less))
    le

all_then : (w next : Wire) → ends_cmp w next ≡ Less → (vs : List Wire) → AllByRecursion (IsLe next) vs → AllByRecursion (λ v. ends_cmp w v ≡ Less) vs
all_then w next less [] le = tt
all_then w next less (v ∷ vs) le = (less_then w next v less le.0, all_then w next less vs le.1)

-- a wire that ends a group is below all later ones
all_past : (w : Wire) (later : List Wire) → Rising (w ∷ later) → is_end w later ≡ true → AllByRecursion (λ v. ends_cmp w v ≡ Less) later
all_past w [] rise ends = tt
all_past w (next ∷ later) rise ends =
    let less : ends_cmp w next ≡ Less = ⊎_elim (λ l. l) (λ same. absurd (true≢false (sym ends ∙ ap not (same_gives w next same.0 same.1)))) rise.0.0 in
    (less, all_then w next less later rise.1.0)

all_widest : (P : Wire → Type 0) (ws : List Wire) → AllByRecursion P ws → AllByRecursion P (widest ws)
all_widest P [] all = tt
all_widest P (w ∷ later) all = by (is_end w later) (all_widest P later all.1)
  where
    by : (b : Bool) → AllByRecursion P (widest later) → AllByRecursion P (cond b (w ∷ widest later) (widest later))
    by true rest = (all.0, rest)
    by false rest = rest

widest_sorted : (ws : List Wire) → Rising ws → IsStrictlySortedBy ends_cmp (widest ws)
unfolding IsStrictlySortedBy
widest_sorted [] rise = tt
widest_sorted (w ∷ later) rise = by (is_end w later) refl (widest_sorted later rise.1)
  where
    by : (b : Bool) → is_end w later ≡ b → IsStrictlySortedBy ends_cmp (widest later) → IsStrictlySortedBy ends_cmp (cond b (w ∷ widest later) (widest later))
    by true is rest = (all_widest (λ v. ends_cmp w v ≡ Less) later (all_past w later rise is), rest)
    by false is rest = rest

-- none with the same ends is wider
abbrev IsWidest : List Wire → Wire → Type 0
IsWidest ws w = (v : Wire) → Contains ws v → same_ends v w ≡ true → v.width ≤ℤ w.width

in_all : (P : Wire → Type 0) (ws : List Wire) (w : Wire) → AllByRecursion P ws → Contains ws w → P w
in_all P ws w all there = All-contains P ws w (All-from_recursion P ws all) there

itself : (z : ℤ) → z ≤ℤ z
itself z = omega (arith, ints)

widest_tells : (ws : List Wire) (w : Wire) → Rising ws → Contains (widest ws) w → Contains ws w × IsWidest ws w
widest_tells [] w rise h = absurd (contains_none w h)
widest_tells (x ∷ later) w rise h = by (is_end x later) refl (λ there. widest_tells later w rise.1 there) h
  where
    by : (b : Bool) → is_end x later ≡ b → (Contains (widest later) w → Contains later w × IsWidest later w) → Contains (cond b (x ∷ widest later) (widest later)) w → Contains (x ∷ later) w × IsWidest (x ∷ later) w
    by true is again h = ⊎_elim
        (λ here. (
          contains_first x later w here,
          λ v in' same. ⊎_elim
              (λ is_x. subst (λ (z : Wire). v.width ≤ℤ z.width) here (subst (λ (z : Wire). z.width ≤ℤ x.width) is_x (itself x.width)))
              (λ later'.
              let less = in_all (λ v. ends_cmp x v ≡ Less) later v (all_past x later rise is) later' in
              let apart = less_apart x v less in
              let ends = same_tells v w same in
              let lower : x.lower ≡ v.lower = ap (λ (z : Wire). z.lower) here ∙ sym ends.0 in
              let upper : x.upper ≡ v.upper = ap (λ (z : Wire). z.upper) here ∙ sym ends.1 in
              absurd (true≢false (sym (same_gives x v lower upper) ∙ apart)))
              (contains_cases x later v in'),
        ))
        (λ there.
        let found = again there in (
          contains_later x later w found.0,
          λ v in' same. ⊎_elim
              (λ is_x.
              let less = in_all (λ v. ends_cmp x v ≡ Less) later w (all_past x later rise is) found.0 in
              let ends = same_tells v w same in
              let lower : x.lower ≡ w.lower = ap (λ (z : Wire). z.lower) is_x ∙ ends.0 in
              let upper : x.upper ≡ w.upper = ap (λ (z : Wire). z.upper) is_x ∙ ends.1 in
              absurd (true≢false (sym (same_gives x w lower upper) ∙ less_apart x w less)))
              (λ later'. found.1 v later' same)
              (contains_cases x later v in'),
        ))
        (contains_cases x (widest later) w h)
    by false is again h =
        let found = again h in (
          contains_later x later w found.0,
          λ v in' same. ⊎_elim
              (λ is_x. ⊎_elim
              (λ less.
              let ends = same_tells v w same in
              let lower : x.lower ≡ w.lower = ap (λ (z : Wire). z.lower) is_x ∙ ends.0 in
              let upper : x.upper ≡ w.upper = ap (λ (z : Wire). z.upper) is_x ∙ ends.1 in
              absurd (true≢false (sym (same_gives x w lower upper) ∙ less_apart x w less)))
              (λ le. subst (λ (z : Wire). z.width ≤ℤ w.width) is_x le.2)
              (in_all (IsLe x) later w rise.0 found.0))
              (λ later'. found.1 v later' same)
              (contains_cases x later v in'),
        )

widest_gives : (ws : List Wire) (w : Wire) → Rising ws → Contains ws w → IsWidest ws w → Contains (widest ws) w
widest_gives [] w rise h most = absurd (contains_none w h)
widest_gives (x ∷ later) w rise h most = by (is_end x later) refl (λ there. widest_gives later w rise.1 there (λ v in' same. most v (contains_later x later v in') same)) h
  where
    next_is : (later : List Wire) → Rising (x ∷ later) → is_end x later ≡ false → x ≡ w → ((v : Wire) → Contains later v → same_ends v w ≡ true → v.width ≤ℤ w.width) → Contains later w
    next_is [] rise is here most = absurd (true≢false is)
    next_is (next ∷ rest) rise is here most = ⊎_elim
        (λ less. absurd (true≢false (sym (ap not (less_apart x next less)) ∙ is)))
        (λ le.
        let lower : next.lower ≡ w.lower = sym le.0 ∙ ap (λ (z : Wire). z.lower) here in
        let upper : next.upper ≡ w.upper = sym le.1 ∙ ap (λ (z : Wire). z.upper) here in
        let low = most next (contains_first next rest next refl) (same_gives next w lower upper) in
        let high : w.width ≤ℤ next.width = subst (λ (z : Wire). z.width ≤ℤ next.width) here le.2 in
        let width : next.width ≡ w.width = omega (arith, ints) in
        contains_first next rest w (λ i. record { lower = lower i; upper = upper i; width = width i }))
        rise.0.0

    by : (b : Bool) → is_end x later ≡ b → (Contains later w → Contains (widest later) w) → Contains (x ∷ later) w → Contains (cond b (x ∷ widest later) (widest later)) w
    by true is again h = ⊎_elim (λ here. contains_first x (widest later) w here) (λ there. contains_later x (widest later) w (again there)) (contains_cases x later w h)
    by false is again h = ⊎_elim
        (λ here. again (next_is later rise is here (λ v in' same. most v (contains_later x later v in') same)))
        (λ there. again there)
        (contains_cases x later w h)

-- ---- all of them

pub wires_are : (nodes : List Node) (items : List Item) (rows columns : List Tap) (all sorted kept : List Wire) → AreInOrder nodes → All IsItem items → AreTaps true nodes rows → AreTaps false nodes columns →
    all ≡ flat_map (item_segments rows columns) items → IsPermutation all sorted → IsSorted order.ghosts.cmp sorted → kept ≡ widest sorted → AreWires items nodes kept
wires_are nodes items rows columns all sorted kept order' are by_rows by_columns all_is moved in_order kept_is =
    let rise = sorted_rising sorted in_order in
    let segment : (w : Wire) → Contains sorted w → IsSegment items nodes w = λ w h. segment_tells nodes items rows columns w order' are by_rows by_columns (subst (λ l. Contains l w) all_is (Contains-permutation sorted all w (IsPermutation-sym all sorted moved) h)) in
    let back : (w : Wire) → IsSegment items nodes w → Contains sorted w = λ w h. Contains-permutation all sorted w moved (subst (λ l. Contains l w) (sym all_is) (segment_gives nodes items rows columns w order' are by_rows by_columns h)) in
    subst (AreWires items nodes) (sym kept_is) (record {
      order = widest_sorted sorted rise;
      all = λ w. (
        λ h. let found = widest_tells sorted w rise h in record { segment = segment w found.0; widest = λ v is same. found.1 v (back v is) same },
        λ h. widest_gives sorted w rise (back w h.segment) (λ v in' same. h.widest v (segment v in') same),
      );
    })

-- ---- turns of the loops

pub segments_more : (width : ℤ) (taps : List Tap) (k : ℕ) (d : Tap) (old items more : List Wire) → k < length taps →
    items ++ segments width (drop k taps) ≡ old ++ segments width taps → more ≡ items ++ segment_to width (get_or taps k d) (drop (k + 1) taps) →
    more ++ segments width (drop (k + 1) taps) ≡ old ++ segments width taps
segments_more width taps k d old items more lt so_far grown =
    ap (λ l. l ++ segments width (drop (k + 1) taps)) grown
    ∙ (append_assoc items (segment_to width (get_or taps k d) (drop (k + 1) taps)) (segments width (drop (k + 1) taps))
    ∙ (ap (λ l. items ++ segments width l) (sym (drop_more taps k d lt)) ∙ so_far))

pub keep_more : (wires : List Wire) (k : ℕ) (d : Wire) (kept more : List Wire) → k < length wires → is_end (get_or wires k d) (drop (k + 1) wires) ≡ true →
    more ≡ kept ++ get_or wires k d ∷ [] → kept ++ widest (drop k wires) ≡ widest wires → more ++ widest (drop (k + 1) wires) ≡ widest wires
keep_more wires k d kept more lt ends grown so_far =
    let w = get_or wires k d in
    let rest = drop (k + 1) wires in
    let opened : widest (drop k wires) ≡ w ∷ widest rest = ap widest (drop_more wires k d lt) ∙ ap (λ b. cond b (w ∷ widest rest) (widest rest)) ends in
    ap (λ l. l ++ widest rest) grown ∙ (append_assoc kept (w ∷ []) (widest rest) ∙ (ap (λ l. kept ++ l) (sym opened) ∙ so_far))

pub keep_same : (wires : List Wire) (k : ℕ) (d : Wire) (kept : List Wire) → k < length wires → is_end (get_or wires k d) (drop (k + 1) wires) ≡ false →
    kept ++ widest (drop k wires) ≡ widest wires → kept ++ widest (drop (k + 1) wires) ≡ widest wires
keep_same wires k d kept lt goes so_far =
    let w = get_or wires k d in
    let rest = drop (k + 1) wires in
    let opened : widest (drop k wires) ≡ widest rest = ap widest (drop_more wires k d lt) ∙ ap (λ b. cond b (w ∷ widest rest) (widest rest)) goes in
    ap (λ l. kept ++ l) (sym opened) ∙ so_far

abbrev pub no_wire : Wire
no_wire = record { lower = 0; upper = 0; width = pos 0 }
