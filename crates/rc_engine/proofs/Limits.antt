-- No sum of a net overflows.
use Rattle.std.proofs.Common.{◌≡◌, ◌≤◌, ◌<◌, ◌+◌, ◌-◌, ◌^◌, ◌⊎◌, inl, inr, ℕ, ℤ, pos, negsuc, ◌≤ℤ◌, Bool, true, false, cond, eqb, List, [], ◌∷◌, map, length, get_or, refl, ap, sym, subst, ◌∙◌, arith}
use Rattle.std.specs.Prelude.{All, Contains, IfSome, Option, Some, None, filter, find, is_some, nat_lt, option_map, slice_get, ◌==◌, ◌&&◌}
use Rattle.std.specs.List.{enumerate_from, sum_by}
use Rattle.std.specs.declared.cmp.Ordering.TheVariants.{Less}
use Rattle.std.proofs.lemmas.Bool.{and_parts, and_from, cases_Bool, cases_order, eqb-true, eq-eqb, lt-ltb, true≢false}
use Rattle.std.proofs.lemmas.Int.{ints}
use Rattle.std.proofs.lemmas.Option.{slice_get_within, get_or_from_slice_get}
use Rattle.std.proofs.lemmas.List.Elements.{All-contains, All-weaker, Contains-get_or}
use Rattle.std.proofs.lemmas.List.Sums.{sum_by-cons}
use Rattle.rc_fixed.proofs.Members.{at_head, in_tail, in_filter, in_map, in_flat_map}
use Rattle.rc_fixed.proofs.Tests.{nat_eq_fails}
use Rattle.rc_geom.specs.declared.rect.Pt.{Pt}
use Rattle.rc_geom.specs.declared.tile.Tile.{Tile}
use Rattle.rc_geom.specs.declared.key.Key.{Key}
use Rattle.rc_geom.specs.declared.key.Key.TheVariants.{Ground, Pair}
use Rattle.rc_geom.specs.Rects.{covers, IsNearRect}
use Rattle.rc_geom.specs.Plane.{Metal, Plane}
use Rattle.rc_geom.specs.Parts.{pair_key, same_key}
use Rattle.rc_geom.specs.Sums.{numbers, extent}
use Rattle.rc_geom.specs.Extraction.{key_count, key_value, value_in}
use Rattle.rc_geom.proofs.KeyTests.{itself, pair_low, pair_high}
use Rattle.rc_geom.proofs.Totals.{extent_is}
use Rattle.rc_tally.specs.declared.entry.Entry.{Entry}
use Rattle.rc_tally.specs.Tallies.{key_order, gathered, sum_fits, sum_of}
use Rattle.rc_tally.proofs.Orders.{less_differs}
use Rattle.rc_rules.specs.RuleFile.{RuleFile, HasRules}
use Rattle.rc_rules.specs.LookUp.{rates}
use Rattle.rc_rules.specs.Kept.{rates_are_small}
use Rattle.rc_layout.specs.declared.item.Item.{Item}
use Rattle.rc_layout.specs.declared.net.Net.{Net}
use Rattle.rc_layout.specs.Layouts.{Wired}
use Rattle.rc_layout.specs.Metal.{all_nets, metal, shapes}
use Rattle.rc_nodes.specs.LayoutPlane.{layout_plane}
use Rattle.rc_nodes.proofs.Layouts.{plane_is_the_metal}
use Rattle.rc_nodes.proofs.Listed.{at_place}
use Rattle.rc_spef.specs.declared.value.Cap.{Cap}
use Rattle.rc_sweep.specs.declared.window.Window.{Window}
use Rattle.rc_windows.specs.Sweeps.{CanSweepBoth}
use Rattle.rc_windows.proofs.Limits.{limits_suffice}
use Rattle.rc_engine.specs.Brought.{own_by, owned, turned_about}
use Rattle.rc_engine.specs.Extraction.{all_squares, value_of, count_of, net_caps, numbered_nets, own_nodes, total_of}
use Rattle.rc_engine.specs.OwnEntries.{cap_with, own_keys, is_present, turned, HasNames}
use Rattle.rc_engine.specs.Totals.{all_nodes, total_entry, AreTotals, IsKey}
use Rattle.rc_engine.specs.Windows.{HasRatedItems}
use Rattle.rc_engine.specs.Fits.{AreTilesOf, EntriesFit, TotalsFit}
use Rattle.rc_engine.proofs.Rises.{Rises, rises_filter, rises_map}
use Rattle.rc_engine.proofs.Keys.{own_keys_rise, own_net}
use Rattle.rc_engine.proofs.Squares.{AreSmall, Differ, sum_plus, values_most}
use Rattle.rc_engine.proofs.Sums.{caps_by_keys, key_cap}
use Rattle.rc_engine.proofs.Totals.{gathered_own, net_of_key, ordered, seen_of, told, with_key, InOrder, IsOwn}

-- ---- layers with metal have rules

find_tells : {X : Type 0} (test : X → Bool) (xs : List X) (x : X) → find test xs ≡ Some x → Contains xs x × (test x ≡ true)
find_tells test [] x h = cc
find_tells {X} test (y ∷ xs) x h = at_first (find_tells test xs x) (test y) refl
  where
    same_one : Some y ≡ Some x → y ≡ x
    same_one e = cc

    at_first : (find test xs ≡ Some x → Contains xs x × (test x ≡ true)) → (b : Bool) → test y ≡ b → Contains (y ∷ xs) x × (test x ≡ true)
    at_first later true passes =
        let here : y ≡ x = same_one (sym (ap (λ (b : Bool). cond b (Some y) (find test xs)) passes) ∙ h) in
        (at_head y xs x here, subst (λ (z : X). test z ≡ true) here passes)
    at_first later false fails =
        let rest = later (sym (ap (λ (b : Bool). cond b (Some y) (find test xs)) fails) ∙ h) in
        (in_tail y xs x rest.0, rest.1)

listed_net : {X : Type 0} (xs : List X) (n : ℕ) (x : X) → slice_get xs n ≡ Some x → Contains xs x
listed_net xs n x is = (n, slice_get_within xs n x is, get_or_from_slice_get xs n x x is)

abbrev lies_on : ℕ → Pt → ℕ × Item → Bool
lies_on layer p shape = (shape.1.layer == layer) && covers shape.1.rect p

shape_rated : (wired : Wired) (rules : RuleFile) (layer : ℕ) (p : Pt) (shape : ℕ × Item) → All (HasRatedItems rules) (all_nets wired) → find (lies_on layer p) (shapes wired) ≡ Some shape → HasRules rules layer
shape_rated wired rules layer p shape rated is =
    let tells = find_tells (lies_on layer p) (shapes wired) shape is in
    let of_net = in_flat_map (λ (e : ℕ × Net). map (λ item. (e.0, item)) e.1.items) (enumerate_from 0 (all_nets wired)) shape tells.0 in
    let net = of_net.0.1 in
    let item = in_map (λ (item : Item). (of_net.0.0, item)) net.items shape of_net.2 in
    let listed = listed_net (all_nets wired) of_net.0.0 net (at_place (all_nets wired) of_net.0.0 net of_net.1) in
    let items = All-contains (HasRatedItems rules) (all_nets wired) net rated listed in
    let has = All-contains (λ (i : Item). HasRules rules i.layer) net.items item.0 items item.1 in
    let same : item.0.layer ≡ shape.1.layer = ap (λ (s : ℕ × Item). s.1.layer) item.2 in
    subst (HasRules rules) (same ∙ eqb-true shape.1.layer layer (and_parts (shape.1.layer == layer) (covers shape.1.rect p) tells.1).0) has

found_rated : (wired : Wired) (rules : RuleFile) (layer : ℕ) (p : Pt) (n : ℕ) (s : Option (ℕ × Item)) → All (HasRatedItems rules) (all_nets wired) → find (lies_on layer p) (shapes wired) ≡ s → option_map (λ (shape : ℕ × Item). shape.0) s ≡ Some n → HasRules rules layer
found_rated wired rules layer p n None rated is some = cc
found_rated wired rules layer p n (Some shape) rated is some = shape_rated wired rules layer p shape rated is

square_rated : (wired : Wired) (rules : RuleFile) (layer : ℕ) (p : Pt) (o : Option Metal) → All (HasRatedItems rules) (all_nets wired) → layout_plane wired layer p ≡ o → is_some o ≡ true → HasRules rules layer
square_rated wired rules layer p None rated is some = absurd (true≢false (sym some))
square_rated wired rules layer p (Some a) rated is some =
    found_rated wired rules layer p a.0 (find (lies_on layer p) (shapes wired)) rated refl
    (sym (plane_is_the_metal wired layer p) ∙ ap (option_map (λ (owner : Metal). owner.0)) is)

rates_small : (wired : Wired) (rules : RuleFile) → All (HasRatedItems rules) (all_nets wired) → AreSmall (layout_plane wired) (rates rules)
rates_small wired rules rated layer below above thick gap p metal =
    rates_are_small rules layer below above thick gap (square_rated wired rules layer p (layout_plane wired layer p) rated refl metal)

-- ---- what all faces add to different keys

extent_most : (lo hi : ℤ) → negsuc (2 ^ 29 - 1) ≤ℤ lo → lo ≤ℤ hi → hi ≤ℤ pos (2 ^ 29 + 1) → extent lo hi ≤ 2 ^ 30 + 1
extent_most lo hi low order high = let is = extent_is lo hi order in omega (arith, ints, is, low, high)

all_most : extent all_squares.x0 all_squares.x1 ≤ 2 ^ 30 + 1
all_most = extent_most (negsuc (2 ^ 29 - 1)) (pos (2 ^ 29 + 1)) (omega (arith, ints)) (omega (arith, ints)) (omega (arith, ints))

sum_most : (wired : Wired) (rules : RuleFile) (qs : List Key) → All (HasRatedItems rules) (all_nets wired) → Rises Differ qs → sum_by (value_of wired rules) qs < 2 ^ 128
unfolding value_of
sum_most wired rules qs rated differ =
    let plane = layout_plane wired in
    let small = rates_small wired rules rated in
    let rows = values_most plane (rates rules) 0 (2 ^ 30 + 1) all_squares qs small differ all_most all_most in
    let columns = values_most plane (rates rules) 1 (2 ^ 30 + 1) all_squares qs small differ all_most all_most in
    let both =
    sum_plus (λ q. value_in numbers plane (rates rules) 0 all_squares q) (λ q. value_in numbers plane (rates rules) 1 all_squares q) (λ q. key_value numbers plane (rates rules) all_squares q) qs (λ q. refl) in
    omega (arith, rows, columns, both)

-- ---- the keys of a net, turned

-- the net's own node first
abbrev turned_back : ℕ → Key → Key
turned_back n (Ground m c) = Ground m c
turned_back n (Pair m c l d) = cond (eqb m n) (Pair m c l d) (Pair l d m c)

back : (n : ℕ) (q : Key) → IsOwn n q → turned_back n (turned q) ≡ q
back n (Ground m c) own = refl
back n (Pair m c l d) own = in_order (cases_order m l)
  where
    in_order : (m ≡ l) ⊎ ((m < l) ⊎ (l < m)) → turned_back n (pair_key (m, c) (l, d)) ≡ Pair m c l d
    in_order (inl same) = absurd (own.1 (sym same ∙ own.0))
    in_order (inr (inl low)) = ap (turned_back n) (pair_low (m, c) (l, d) low) ∙ ap (λ (b : Bool). cond b (Pair m c l d) (Pair l d m c)) (eq-eqb m n own.0)
    in_order (inr (inr high)) = ap (turned_back n) (pair_high (m, c) (l, d) high) ∙ ap (λ (b : Bool). cond b (Pair l d m c) (Pair m c l d)) (nat_eq_fails l n own.1)

rises_with : {X : Type 0} (R : X → X → Type 0) (P : X → Type 0) (xs : List X) → Rises R xs → ((x : X) → Contains xs x → P x) → Rises (λ x y. R x y × P x × P y) xs
rises_with R P [] rises each = tt
rises_with R P (x ∷ xs) rises each = (
  (λ y there. (rises.0 y there, each x (at_head x xs x refl), each y (in_tail x xs y there))),
  rises_with R P xs rises.1 (λ y there. each y (in_tail x xs y there)),
)

less_apart : (p q : Key) → key_order p q ≡ Less → p ≡ q → ⊥
less_apart p q less same = true≢false (sym (subst (λ (k : Key). same_key p k ≡ true) same (itself p)) ∙ less_differs p q less)

turned_apart : (n : ℕ) (p q : Key) → (key_order p q ≡ Less) × IsOwn n p × IsOwn n q → Differ (turned p) (turned q)
turned_apart n p q h = λ same. less_apart p q h.0 (sym (back n p h.1) ∙ (ap (turned_back n) same ∙ back n q h.2))

abbrev present_keys : Wired → RuleFile → ℕ × Net → List Key
present_keys wired rules net = filter (is_present wired rules) (own_keys wired net)

turned_differ : (wired : Wired) (rules : RuleFile) (n : ℕ) (net : Net) → slice_get wired.nets n ≡ Some net → Rises Differ (map turned (present_keys wired rules (n, net)))
turned_differ wired rules n net there =
    let keys = present_keys wired rules (n, net) in
    let rise = rises_filter (λ p q. key_order p q ≡ Less) (is_present wired rules) (own_keys wired (n, net)) (own_keys_rise wired (n, net)) in
    rises_map (λ p q. (key_order p q ≡ Less) × IsOwn n p × IsOwn n q) Differ turned (turned_apart n) keys
    (rises_with (λ p q. key_order p q ≡ Less) (IsOwn n) keys rise (λ q h. (net_of_key wired n net q there (in_filter (is_present wired rules) (own_keys wired (n, net)) q h).0).0))

-- ---- the total of a net

cap_value : (key : Key) (value : ℕ) → (cap_with key value).value.0 ≡ value
cap_value (Ground m c) value = refl
cap_value (Pair m c l d) value = refl

caps_value : (wired : Wired) (rules : RuleFile) (keys : List Key) → total_of (map (key_cap wired rules) keys) ≡ sum_by (value_of wired rules) (map turned keys)
caps_value wired rules [] = refl
caps_value wired rules (q ∷ qs) =
    let before = caps_value wired rules qs in
    let here = cap_value q (value_of wired rules (turned q)) in
    let a = sum_by-cons (λ (cap : Cap). cap.value.0) (key_cap wired rules q) (map (key_cap wired rules) qs) in
    let b = sum_by-cons (value_of wired rules) (turned q) (map turned qs) in
    omega (arith, before, here, a, b)

pub totals_fit : TotalsFit
totals_fit wired rules n net rated there =
    let keys = present_keys wired rules (n, net) in
    let is : total_of (net_caps wired rules (n, net)) ≡ sum_by (value_of wired rules) (map turned keys) = ap total_of (caps_by_keys wired rules (n, net)) ∙ caps_value wired rules keys in
    subst (λ (v : ℕ). v < 2 ^ 128) (sym is) (sum_most wired rules (map turned keys) rated (turned_differ wired rules n net there))

-- ---- what a net has of a key

all_near : IsNearRect all_squares
all_near = record {
  left = omega (arith, ints);
  wide = omega (arith, ints);
  right = omega (arith, ints);
  below = omega (arith, ints);
  high = omega (arith, ints);
  above = omega (arith, ints);
}

abbrev window_of_all : Window
window_of_all = record { rect = all_squares; halo = pos 1 }

abbrev fits : ℕ → Bool
fits v = nat_lt v (2 ^ 128)

can_sweep : (wired : Wired) (rules : RuleFile) (tiles : List Tile) → AreTilesOf wired rules tiles → CanSweepBoth numbers fits (HasRules rules) (rates rules) window_of_all tiles
can_sweep wired rules tiles are = let few = are.few in limits_suffice rules window_of_all tiles all_near (omega (arith, few)) are.sweepable

count_small : (wired : Wired) (rules : RuleFile) (tiles : List Tile) (key : Key) → AreTilesOf wired rules tiles → count_of wired rules key < 2 ^ 64
unfolding count_of
count_small wired rules tiles key are = subst (λ (plane : Plane). key_count plane (rates rules) all_squares key < 2 ^ 64) are.plane ((can_sweep wired rules tiles are).counts key)

value_small : (wired : Wired) (rules : RuleFile) (tiles : List Tile) (key : Key) → AreTilesOf wired rules tiles → fits (value_of wired rules key) ≡ true
unfolding value_of
value_small wired rules tiles key are = subst (λ (plane : Plane). fits (key_value numbers plane (rates rules) all_squares key) ≡ true) are.plane ((can_sweep wired rules tiles are).values key)

abbrev SumFits : Option (Entry ℕ) → Type 0
SumFits o = IfSome o (λ e. sum_fits fits (sum_of e) ≡ true)

total_fits : (wired : Wired) (rules : RuleFile) (tiles : List Tile) (q key : Key) (some : Bool) → AreTilesOf wired rules tiles →
    SumFits (option_map (with_key q) (cond some (Some (record { key = key; count = count_of wired rules key; value = value_of wired rules key })) None))
total_fits wired rules tiles q key true are =
    and_from (nat_lt (count_of wired rules key) (2 ^ 64)) (fits (value_of wired rules key)) (lt-ltb (count_of wired rules key) (2 ^ 64) (count_small wired rules tiles key are)) (value_small wired rules tiles key are)
total_fits wired rules tiles q key false are = tt

key_fits : (wired : Wired) (rules : RuleFile) (tiles : List Tile) (n : ℕ) (es : List (Entry ℕ)) (q : Key) (o : Option (Entry ℕ)) → AreTilesOf wired rules tiles → AreTotals wired rules es → gathered numbers (owned n es) q ≡ o → SumFits o
key_fits wired rules tiles n es q None are totals is = tt
key_fits wired rules tiles n es q (Some x) are totals is =
    let tells = told wired rules n es q x totals is in
    let sums : gathered numbers (owned n es) q ≡ option_map (with_key q) (total_entry wired rules (turned q)) =
    gathered_own n q es tells.own (All-weaker (λ (e : Entry ℕ). IsKey wired e.key) (λ (e : Entry ℕ). InOrder e.key) (λ e. ordered wired e.key) es totals.keys) ∙ ap (option_map (with_key q)) (totals.sums (turned q) tells.key) in
    subst SumFits (sym sums ∙ is) (total_fits wired rules tiles q (turned q) (nat_lt 0 (count_of wired rules (turned q))) are)

-- ---- the nets of its keys

pub node_listed : (wired : Wired) (a : Metal) → Contains (all_nodes wired) a → a.0 < length wired.nets
unfolding all_nodes
node_listed wired a h =
    let found = in_flat_map own_nodes (numbered_nets wired) a h in
    let number : found.0.0 ≡ a.0 = own_net found.0 a found.2 in
    let within = slice_get_within wired.nets found.0.0 found.0.1 (at_place wired.nets found.0.0 found.0.1 found.1) in
    subst (λ (k : ℕ). k < length wired.nets) number within

key_named : (wired : Wired) (key : Key) → length wired.nets ≤ 2 ^ 20 → IsKey wired key → HasNames key
key_named wired (Ground m c) few h = let a = node_listed wired (m, c) h in omega (arith, few, a)
key_named wired (Pair m c l d) few h =
    let a = node_listed wired (m, c) h.1 in
    let b = node_listed wired (l, d) h.2 in
    (omega (arith, few, a), omega (arith, few, b))

-- what a net sees of an entry is the entry, or the entry turned about
seen_named : (n : ℕ) (e : Entry ℕ) (key : Key) (x : Entry ℕ) → e.key ≡ key → HasNames key → own_by n e key ≡ Some x → HasNames x.key
seen_named n e (Ground m c) x is named gives = by_net (cases_Bool (eqb m n))
  where
    one : Some e ≡ Some x → e ≡ x
    one same = cc

    none : None ≡ Some x → ⊥
    none same = cc

    by_net : (eqb m n ≡ true) ⊎ (eqb m n ≡ false) → HasNames x.key
    by_net (inl holds) =
        subst HasNames (sym is ∙ ap (λ (d : Entry ℕ). d.key) (one (sym (ap (λ (b : Bool). cond b (Some e) None) holds) ∙ gives))) named
    by_net (inr misses) = absurd (none (sym (ap (λ (b : Bool). cond b (Some e) None) misses) ∙ gives))
seen_named n e (Pair m c l d) x is named gives = by_nets (cases_Bool (eqb m n)) (cases_Bool (eqb l n))
  where
    other : Entry ℕ
    other = turned_about e (Pair m c l d)

    one : (a : Entry ℕ) → Some a ≡ Some x → a ≡ x
    one a same = cc

    none : None ≡ Some x → ⊥
    none same = cc

    by_nets : (eqb m n ≡ true) ⊎ (eqb m n ≡ false) → (eqb l n ≡ true) ⊎ (eqb l n ≡ false) → HasNames x.key
    by_nets (inl holds) _ =
        subst HasNames (sym is ∙ ap (λ (a : Entry ℕ). a.key) (one e (sym (ap (λ (b : Bool). cond b (Some e) (cond (eqb l n) (Some other) None)) holds) ∙ gives))) named
    by_nets (inr misses) (inl holds) =
        subst HasNames (ap (λ (a : Entry ℕ). a.key) (one other (sym (ap (λ (b : Bool). cond b (Some e) (cond (eqb l n) (Some other) None)) misses ∙ ap (λ (b : Bool). cond b (Some other) None) holds) ∙ gives))) (named.1, named.0)
    by_nets (inr misses) (inr neither) = absurd (none (sym (ap (λ (b : Bool). cond b (Some e) (cond (eqb l n) (Some other) None)) misses ∙ ap (λ (b : Bool). cond b (Some other) None) neither) ∙ gives))

owned_named : (wired : Wired) (rules : RuleFile) (n : ℕ) (es : List (Entry ℕ)) → length wired.nets ≤ 2 ^ 20 → AreTotals wired rules es → All (λ e. HasNames e.key) (owned n es)
owned_named wired rules n es few totals = λ i d within.
    let x = get_or (owned n es) i d in
    let seen = seen_of n es x (Contains-get_or (owned n es) i d within) in
    let named = key_named wired seen.0.key few (All-contains (λ (e : Entry ℕ). IsKey wired e.key) es seen.0 totals.keys seen.1) in
    seen_named n seen.0 seen.0.key x refl named seen.2

pub entries_fit : EntriesFit
entries_fit wired rules tiles n es layout are totals =
    let nets = layout.few_nets in (
      (λ q. key_fits wired rules tiles n es q (gathered numbers (owned n es) q) are totals refl),
      owned_named wired rules n es (omega (arith, nets)) totals,
    )
