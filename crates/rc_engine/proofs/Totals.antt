-- What a net has of the sums of all windows, gathered by key, are the sums of the net.
use Rattle.std.proofs.Common.{◌≡◌, ◌<◌, ◌⊎◌, inl, inr, ⊎_elim, ℕ, Bool, true, false, cond, eqb, List, [], ◌∷◌, map, get_or, refl, ap, sym, subst, ◌∙◌, arith}
use Rattle.std.specs.Prelude.{All, Contains, IfOk, Result, Ok, Err, Option, Some, None, filter, fold, nat_lt, not, ◌==◌, slice_get, option_map}
use Rattle.std.specs.List.{filter_map, cons_option, flat_map}
use Rattle.std.proofs.lemmas.Bool.{cases_Bool, cases_order, eq-eqb, eqb-true, true≢false}
use Rattle.std.proofs.lemmas.List.{get_or_default}
use Rattle.std.proofs.lemmas.List.Elements.{All-head, All-tail, All-weaker, All-contains, Contains-append_left, Contains-append_right, Contains-append_cases}
use Rattle.rc_fixed.proofs.Tests.{nat_eq_fails}
use Rattle.rc_fixed.proofs.Members.{none_in, at_head, in_tail, head_or_tail, filter_has, in_filter, in_map, map_has, in_flat_map, flat_map_has}
use Rattle.rc_geom.specs.declared.key.Key.{Key}
use Rattle.rc_geom.specs.declared.key.Key.TheVariants.{Ground, Pair}
use Rattle.rc_geom.specs.Plane.{Metal}
use Rattle.rc_geom.specs.Parts.{same_key, pair_key}
use Rattle.rc_geom.specs.Sums.{numbers}
use Rattle.rc_geom.proofs.KeyTests.{one_key, itself, pair_low, pair_high}
use Rattle.rc_tally.specs.declared.entry.Entry.{Entry}
use Rattle.rc_tally.specs.Tallies.{entry_at, gathered, Gathers, IsRising}
use Rattle.rc_tally.proofs.Gathering.{with_one, is_of}
use Rattle.rc_tally.proofs.Places.{entry_at_place}
use Rattle.rc_rules.specs.RuleFile.{RuleFile}
use Rattle.rc_layout.specs.declared.net.Net.{Net}
use Rattle.rc_layout.specs.Layouts.{Wired}
use Rattle.rc_nodes.proofs.Listed.{at_place, placed_at}
use Rattle.rc_engine.specs.Brought.{own_by, own_of, owned, turned_about}
use Rattle.rc_engine.specs.Extraction.{value_of, count_of, own_nodes, other_nodes, numbered_nets}
use Rattle.rc_engine.specs.OwnEntries.{entry_cap, own_keys, own_pair, ground_key, turned, is_present, HasNames}
use Rattle.rc_spef.specs.declared.value.Cap.{Cap}
use Rattle.rc_engine.specs.Totals.{IsKey, all_nodes, total_entry, AreCapsOf, AreTotals, TotalsAreOwn}
use Rattle.rc_engine.proofs.Sums.{entries_are_caps}
use Rattle.rc_engine.proofs.Keys.{own_net}

abbrev pub Entries : Type 0
Entries = List (Entry ℕ)

some_one : {X : Type 0} (a b : X) → Some a ≡ Some b → a ≡ b
some_one a b same = cc

none_some : {X : Type 0} (a : X) → None ≡ Some a → ⊥
none_some a same = cc

-- ---- one entry, as a net sees it

abbrev pub with_key : Key → Entry ℕ → Entry ℕ
with_key q e = record e { key = q }

-- the order of a key's nets, and whether the key is one of a net's own
abbrev pub InOrder : Key → Type 0
InOrder (Ground net node) = Unit {0}
InOrder (Pair net node other onode) = net < other

abbrev pub IsOwn : ℕ → Key → Type 0
IsOwn n (Ground net node) = net ≡ n
IsOwn n (Pair net node other onode) = (net ≡ n) × (other ≡ n → ⊥)

-- what a net sees of an entry has an own key that is the entry's own, turned
seen_key : (n : ℕ) (e : Entry ℕ) (key : Key) (x : Entry ℕ) (q : Key) → e.key ≡ key → InOrder key → own_by n e key ≡ Some x → x.key ≡ q → key ≡ turned q
seen_key n e (Ground m c) x q is order gives at = by (cases_Bool (eqb m n))
  where
    own : e ≡ x → Ground m c ≡ turned q
    own same = subst (λ (k : Key). Ground m c ≡ turned k) (sym is ∙ ap (λ (d : Entry ℕ). d.key) same ∙ at) refl

    by : (eqb m n ≡ true) ⊎ (eqb m n ≡ false) → Ground m c ≡ turned q
    by (inl holds) = own (some_one e x (sym (ap (λ (b : Bool). cond b (Some e) None) holds) ∙ gives))
    by (inr misses) = absurd (none_some x (sym (ap (λ (b : Bool). cond b (Some e) None) misses) ∙ gives))
seen_key n e (Pair m c l d) x q is order gives at = by (cases_Bool (eqb m n)) (cases_Bool (eqb l n))
  where
    other : Entry ℕ
    other = turned_about e (Pair m c l d)

    own : e ≡ x → Pair m c l d ≡ turned q
    own same = subst (λ (k : Key). Pair m c l d ≡ turned k) (sym is ∙ ap (λ (a : Entry ℕ). a.key) same ∙ at) (sym (pair_low (m, c) (l, d) order))

    second : other ≡ x → Pair m c l d ≡ turned q
    second same = subst (λ (k : Key). Pair m c l d ≡ turned k) (ap (λ (a : Entry ℕ). a.key) same ∙ at) (sym (pair_high (l, d) (m, c) order))

    by : (eqb m n ≡ true) ⊎ (eqb m n ≡ false) → (eqb l n ≡ true) ⊎ (eqb l n ≡ false) → Pair m c l d ≡ turned q
    by (inl holds) _ = own (some_one e x (sym (ap (λ (b : Bool). cond b (Some e) (cond (eqb l n) (Some other) None)) holds) ∙ gives))
    by (inr misses) (inl holds) = second (some_one other x (sym (ap (λ (b : Bool). cond b (Some e) (cond (eqb l n) (Some other) None)) misses ∙ ap (λ (b : Bool). cond b (Some other) None) holds) ∙ gives))
    by (inr misses) (inr neither) = absurd (none_some x (sym (ap (λ (b : Bool). cond b (Some e) (cond (eqb l n) (Some other) None)) misses ∙ ap (λ (b : Bool). cond b (Some other) None) neither) ∙ gives))

-- an entry with the turned key is the net's own
sees_own : (n : ℕ) (q : Key) (e : Entry ℕ) → IsOwn n q → e.key ≡ turned q → own_by n e (turned q) ≡ Some (with_key q e)
sees_own n (Ground m c) e own is =
    ap (λ (b : Bool). cond b (Some e) None) (eq-eqb m n own) ∙ ap (λ (k : Key). Some (with_key k e)) is
sees_own n (Pair m c l d) e own is = by (cases_order m l)
  where
    goal : Key → Type 0
    goal k = own_by n e k ≡ Some (with_key (Pair m c l d) e)

    differs : eqb l n ≡ false
    differs = nat_eq_fails l n own.1

    by : (m ≡ l) ⊎ ((m < l) ⊎ (l < m)) → own_by n e (pair_key (m, c) (l, d)) ≡ Some (with_key (Pair m c l d) e)
    by (inr (inl low)) =
        subst goal (sym (pair_low (m, c) (l, d) low))
        (ap (λ (b : Bool). cond b (Some e) (cond (eqb l n) (Some (turned_about e (Pair m c l d))) None)) (eq-eqb m n own.0) ∙ ap (λ (k : Key). Some (with_key k e)) (is ∙ pair_low (m, c) (l, d) low))
    by (inr (inr high)) =
        subst goal (sym (pair_high (m, c) (l, d) high))
        (ap (λ (b : Bool). cond b (Some e) (cond (eqb m n) (Some (turned_about e (Pair l d m c))) None)) differs ∙ ap (λ (b : Bool). cond b (Some (turned_about e (Pair l d m c))) None) (eq-eqb m n own.0))
    by (inl same) = absurd (own.1 (sym same ∙ own.0))

-- ---- all entries of a key

-- what passes of an entry that a net sees
passing : (n : ℕ) (q : Key) (e : Entry ℕ) (rest : Entries) → IsOwn n q → InOrder e.key →
    filter (is_of q) (cons_option (own_of n e) rest) ≡ cond (is_of (turned q) e) (with_key q e ∷ filter (is_of q) rest) (filter (is_of q) rest)
passing n q e rest own order = by (cases_Bool (is_of (turned q) e)) (own_of n e) refl
  where
    left : Option (Entry ℕ) → Entries
    left seen = filter (is_of q) (cons_option seen rest)

    right : Bool → Entries
    right t = cond t (with_key q e ∷ filter (is_of q) rest) (filter (is_of q) rest)

    kept : left (Some (with_key q e)) ≡ right true
    kept = ap (λ (t : Bool). cond t (with_key q e ∷ filter (is_of q) rest) (filter (is_of q) rest)) (itself q)

    fails : (x : Entry ℕ) → own_of n e ≡ Some x → is_of (turned q) e ≡ false → is_of q x ≡ false
    fails x gives misses = ⊎_elim
        (λ (holds : is_of q x ≡ true). absurd (true≢false (sym (subst (λ (k : Key). same_key k (turned q) ≡ true) (sym (seen_key n e e.key x q refl order gives (one_key x.key q holds))) (itself (turned q))) ∙ misses)))
        (λ (apart : is_of q x ≡ false). apart)
        (cases_Bool (is_of q x))

    by : (is_of (turned q) e ≡ true) ⊎ (is_of (turned q) e ≡ false) → (seen : Option (Entry ℕ)) → own_of n e ≡ seen → left (own_of n e) ≡ right (is_of (turned q) e)
    by (inl holds) seen gives =
        let is : e.key ≡ turned q = one_key e.key (turned q) holds in
        ap left (ap (own_by n e) is ∙ sees_own n q e own is) ∙ kept ∙ sym (ap right holds)
    by (inr misses) None gives = ap left gives ∙ sym (ap right misses)
    by (inr misses) (Some x) gives = ap left gives ∙ ap (λ (t : Bool). cond t (x ∷ filter (is_of q) rest) (filter (is_of q) rest)) (fails x gives misses) ∙ sym (ap right misses)

-- joined one by one, with the own key in place of the turned one
joins : (q : Key) (y : Option (Entry ℕ)) (e : Entry ℕ) → with_one numbers (option_map (with_key q) y) (with_key q e) ≡ option_map (with_key q) (with_one numbers y e)
joins q None e = refl
joins q (Some d) e = refl

folds : (n : ℕ) (q : Key) (es : Entries) (y : Option (Entry ℕ)) → IsOwn n q → All (λ e. InOrder e.key) es →
    fold (with_one numbers) (option_map (with_key q) y) (filter (is_of q) (owned n es)) ≡ option_map (with_key q) (fold (with_one numbers) y (filter (is_of (turned q)) es))
unfolding owned
folds n q [] y own order = refl
folds n q (e ∷ es) y own order =
    let rest = All-tail (λ (e : Entry ℕ). InOrder e.key) e es order in
    ap (fold (with_one numbers) (option_map (with_key q) y)) (passing n q e (owned n es) own (All-head (λ (e : Entry ℕ). InOrder e.key) e es order))
    ∙ elim (is_of (turned q) e) as (λ t.
    fold (with_one numbers) (option_map (with_key q) y) (cond t (with_key q e ∷ filter (is_of q) (owned n es)) (filter (is_of q) (owned n es)))
    ≡ option_map (with_key q) (fold (with_one numbers) y (cond t (e ∷ filter (is_of (turned q)) es) (filter (is_of (turned q)) es)))) [
      | true ↦ ap (λ o. fold (with_one numbers) o (filter (is_of q) (owned n es))) (joins q y e) ∙ folds n q es (with_one numbers y e) own rest
      | false ↦ folds n q es y own rest
    ]

-- what a net has of a key of its own is what there is of the turned one
pub gathered_own : (n : ℕ) (q : Key) (es : Entries) → IsOwn n q → All (λ e. InOrder e.key) es → gathered numbers (owned n es) q ≡ option_map (with_key q) (gathered numbers es (turned q))
gathered_own n q es own order = folds n q es None own order

-- ---- whose a key is

pub ordered : (wired : Wired) (key : Key) → IsKey wired key → InOrder key
ordered wired (Ground net node) h = tt
ordered wired (Pair net node other onode) h = h.0

-- what a net sees has a key of its own
seen_is_own : (n : ℕ) (e : Entry ℕ) (key : Key) (x : Entry ℕ) → e.key ≡ key → InOrder key → own_by n e key ≡ Some x → IsOwn n x.key
seen_is_own n e (Ground m c) x is order gives = by (cases_Bool (eqb m n))
  where
    by : (eqb m n ≡ true) ⊎ (eqb m n ≡ false) → IsOwn n x.key
    by (inl holds) =
        let same = some_one e x (sym (ap (λ (b : Bool). cond b (Some e) None) holds) ∙ gives) in
        subst (IsOwn n) (sym is ∙ ap (λ (d : Entry ℕ). d.key) same) (eqb-true m n holds)
    by (inr misses) = absurd (none_some x (sym (ap (λ (b : Bool). cond b (Some e) None) misses) ∙ gives))
seen_is_own n e (Pair m c l d) x is order gives = by (cases_Bool (eqb m n)) (cases_Bool (eqb l n))
  where
    other : Entry ℕ
    other = turned_about e (Pair m c l d)

    by : (eqb m n ≡ true) ⊎ (eqb m n ≡ false) → (eqb l n ≡ true) ⊎ (eqb l n ≡ false) → IsOwn n x.key
    by (inl holds) _ =
        let same = some_one e x (sym (ap (λ (b : Bool). cond b (Some e) (cond (eqb l n) (Some other) None)) holds) ∙ gives) in
        let first = eqb-true m n holds in
        subst (IsOwn n) (sym is ∙ ap (λ (a : Entry ℕ). a.key) same) (first, λ second. omega (arith, first, second, order))
    by (inr misses) (inl holds) =
        let same = some_one other x (sym (ap (λ (b : Bool). cond b (Some e) (cond (eqb l n) (Some other) None)) misses ∙ ap (λ (b : Bool). cond b (Some other) None) holds) ∙ gives) in
        let second = eqb-true l n holds in
        subst (IsOwn n) (ap (λ (a : Entry ℕ). a.key) same) (second, λ first. omega (arith, first, second, order))
    by (inr misses) (inr neither) = absurd (none_some x (sym (ap (λ (b : Bool). cond b (Some e) (cond (eqb l n) (Some other) None)) misses ∙ ap (λ (b : Bool). cond b (Some other) None) neither) ∙ gives))

-- ---- the nodes of a layout

node_of_net : (wired : Wired) (n : ℕ) (net : Net) (a : Metal) → slice_get wired.nets n ≡ Some net → a.0 ≡ n → Contains (all_nodes wired) a → Contains (own_nodes (n, net)) a
unfolding all_nodes
node_of_net wired n net a there is h =
    let found = in_flat_map own_nodes (numbered_nets wired) a h in
    let number : found.0.0 ≡ n = own_net found.0 a found.2 ∙ is in
    let at = subst (λ (k : ℕ). slice_get wired.nets k ≡ Some found.0.1) number (at_place wired.nets found.0.0 found.0.1 found.1) in
    let same : found.0.1 ≡ net = some_one found.0.1 net (sym at ∙ there) in
    subst (λ (m : Net). Contains (own_nodes (n, m)) a) same (subst (λ (k : ℕ). Contains (own_nodes (k, found.0.1)) a) number found.2)

node_of_layout : (wired : Wired) (n : ℕ) (net : Net) (a : Metal) → slice_get wired.nets n ≡ Some net → Contains (own_nodes (n, net)) a → Contains (all_nodes wired) a
unfolding all_nodes
node_of_layout wired n net a there h = flat_map_has own_nodes (numbered_nets wired) (n, net) a (placed_at wired.nets n net there) h

node_of_another : (wired : Wired) (n : ℕ) (b : Metal) → (b.0 ≡ n → ⊥) → Contains (all_nodes wired) b → Contains (other_nodes wired n) b
unfolding all_nodes
node_of_another wired n b differ h =
    let found = in_flat_map own_nodes (numbered_nets wired) b h in
    let passes : not (found.0.0 == n) ≡ true = ap not (nat_eq_fails found.0.0 n (λ same. differ (sym (own_net found.0 b found.2) ∙ same))) in
    flat_map_has own_nodes (filter (λ (numbered : ℕ × Net). not (numbered.0 == n)) (numbered_nets wired)) found.0 b (filter_has (λ (numbered : ℕ × Net). not (numbered.0 == n)) (numbered_nets wired) found.0 found.1 passes) found.2

other_of_layout : (wired : Wired) (n : ℕ) (b : Metal) → Contains (other_nodes wired n) b → (b.0 ≡ n → ⊥) × Contains (all_nodes wired) b
unfolding all_nodes
other_of_layout wired n b h =
    let found = in_flat_map own_nodes (filter (λ (numbered : ℕ × Net). not (numbered.0 == n)) (numbered_nets wired)) b h in
    let tells = in_filter (λ (numbered : ℕ × Net). not (numbered.0 == n)) (numbered_nets wired) found.0 found.1 in
    ((λ same. true≢false (sym tells.1 ∙ ap not (eq-eqb found.0.0 n (own_net found.0 b found.2 ∙ same)))), flat_map_has own_nodes (numbered_nets wired) found.0 b tells.0 found.2)

-- ---- the keys of a net

both_nodes : (wired : Wired) (a b : Metal) → (a.0 ≡ b.0 → ⊥) → IsKey wired (pair_key a b) → Contains (all_nodes wired) a × Contains (all_nodes wired) b
both_nodes wired a b differ h = by (cases_order a.0 b.0)
  where
    by : (a.0 ≡ b.0) ⊎ ((a.0 < b.0) ⊎ (b.0 < a.0)) → Contains (all_nodes wired) a × Contains (all_nodes wired) b
    by (inr (inl low)) = let k = subst (IsKey wired) (pair_low a b low) h in (k.1, k.2)
    by (inr (inr high)) = let k = subst (IsKey wired) (pair_high a b high) h in (k.2, k.1)
    by (inl same) = absurd (differ same)

pub pair_is_key : (wired : Wired) (a b : Metal) → (a.0 ≡ b.0 → ⊥) → Contains (all_nodes wired) a → Contains (all_nodes wired) b → IsKey wired (pair_key a b)
pair_is_key wired a b differ of_a of_b = by (cases_order a.0 b.0)
  where
    by : (a.0 ≡ b.0) ⊎ ((a.0 < b.0) ⊎ (b.0 < a.0)) → IsKey wired (pair_key a b)
    by (inr (inl low)) = subst (IsKey wired) (sym (pair_low a b low)) (low, of_a, of_b)
    by (inr (inr high)) = subst (IsKey wired) (sym (pair_high a b high)) (high, of_b, of_a)
    by (inl same) = absurd (differ same)

key_of_net : (wired : Wired) (n : ℕ) (net : Net) (q : Key) → slice_get wired.nets n ≡ Some net → IsOwn n q → IsKey wired (turned q) → Contains (own_keys wired (n, net)) q
unfolding own_keys
key_of_net wired n net (Ground m c) there own key =
    Contains-append_left (map ground_key (own_nodes (n, net))) (flat_map (λ a. map (own_pair a) (other_nodes wired n)) (own_nodes (n, net))) (Ground m c)
    (map_has ground_key (own_nodes (n, net)) (m, c) (node_of_net wired n net (m, c) there own key))
key_of_net wired n net (Pair m c l d) there own key =
    let nodes = both_nodes wired (m, c) (l, d) (λ same. own.1 (sym same ∙ own.0)) key in
    Contains-append_right (map ground_key (own_nodes (n, net))) (flat_map (λ a. map (own_pair a) (other_nodes wired n)) (own_nodes (n, net))) (Pair m c l d)
    (flat_map_has (λ a. map (own_pair a) (other_nodes wired n)) (own_nodes (n, net)) (m, c) (Pair m c l d) (node_of_net wired n net (m, c) there own.0 nodes.0)
    (map_has (own_pair (m, c)) (other_nodes wired n) (l, d) (node_of_another wired n (l, d) own.1 nodes.1)))

pub net_of_key : (wired : Wired) (n : ℕ) (net : Net) (q : Key) → slice_get wired.nets n ≡ Some net → Contains (own_keys wired (n, net)) q → IsOwn n q × IsKey wired (turned q)
unfolding own_keys
net_of_key wired n net q there h =
    ⊎_elim
    (λ (ground : Contains (map ground_key (own_nodes (n, net))) q).
    let a = in_map ground_key (own_nodes (n, net)) q ground in
    subst (λ (k : Key). IsOwn n k × IsKey wired (turned k)) a.2 (sym (own_net (n, net) a.0 a.1), node_of_layout wired n net a.0 there a.1))
    (λ (pair : Contains (flat_map (λ a. map (own_pair a) (other_nodes wired n)) (own_nodes (n, net))) q).
    let a = in_flat_map (λ a. map (own_pair a) (other_nodes wired n)) (own_nodes (n, net)) q pair in
    let b = in_map (own_pair a.0) (other_nodes wired n) q a.2 in
    let of_b = other_of_layout wired n b.0 b.1 in
    let first : a.0.0 ≡ n = sym (own_net (n, net) a.0 a.1) in
    subst (λ (k : Key). IsOwn n k × IsKey wired (turned k)) b.2
    ((first, of_b.0), pair_is_key wired a.0 b.0 (λ same. of_b.0 (sym same ∙ first)) (node_of_layout wired n net a.0 there a.1) of_b.1))
    (Contains-append_cases (map ground_key (own_nodes (n, net))) (flat_map (λ a. map (own_pair a) (other_nodes wired n)) (own_nodes (n, net))) q h)

-- ---- entries that are found

abbrev key_of : Entry ℕ → Key
key_of e = e.key

found_in : (es : Entries) (q : Key) (x : Entry ℕ) → entry_at es q ≡ Some x → Contains es x × (x.key ≡ q)
found_in [] q x h = absurd (none_some x h)
found_in (e ∷ es) q x h = by (found_in es q x) (same_key e.key q) refl
  where
    by : (entry_at es q ≡ Some x → Contains es x × (x.key ≡ q)) → (t : Bool) → same_key e.key q ≡ t → Contains (e ∷ es) x × (x.key ≡ q)
    by rest true holds =
        let same = some_one e x (sym (ap (λ (t : Bool). cond t (Some e) (entry_at es q)) holds) ∙ h) in
        (at_head e es x same, sym (ap key_of same) ∙ one_key e.key q holds)
    by rest false misses =
        let later = rest (sym (ap (λ (t : Bool). cond t (Some e) (entry_at es q)) misses) ∙ h) in
        (in_tail e es x later.0, later.1)

key_found : (es : Entries) (q : Key) → Contains (map key_of es) q → (x : Entry ℕ) × (entry_at es q ≡ Some x)
key_found [] q h = absurd (none_in q h)
key_found (e ∷ es) q h = by (key_found es q) (same_key e.key q) refl
  where
    by : (Contains (map key_of es) q → (x : Entry ℕ) × (entry_at es q ≡ Some x)) → (t : Bool) → same_key e.key q ≡ t → (x : Entry ℕ) × (entry_at (e ∷ es) q ≡ Some x)
    by rest true holds = (e, ap (λ (t : Bool). cond t (Some e) (entry_at es q)) holds)
    by rest false misses =
        ⊎_elim
        (λ (here : e.key ≡ q). absurd (true≢false (sym (subst (λ (k : Key). same_key e.key k ≡ true) here (itself e.key)) ∙ misses)))
        (λ (there : Contains (map key_of es) q).
        let later = rest there in
        (later.0, ap (λ (t : Bool). cond t (Some e) (entry_at es q)) misses ∙ later.1))
        (head_or_tail e.key (map key_of es) q h)

-- some entry has the key of which something is gathered
some_has : (es : Entries) (q : Key) (x : Entry ℕ) → gathered numbers es q ≡ Some x → (y : Entry ℕ) × Contains es y × (y.key ≡ q)
some_has es q x h = by (filter (is_of q) es) refl
  where
    by : (list : Entries) → filter (is_of q) es ≡ list → (y : Entry ℕ) × Contains es y × (y.key ≡ q)
    by [] is = absurd (none_some x (sym (ap (fold (with_one numbers) None) is) ∙ h))
    by (y ∷ ys) is =
        let tells = in_filter (is_of q) es y (subst (λ (l : Entries). Contains l y) (sym is) (at_head y ys y refl)) in
        (y, tells.0, one_key y.key q tells.1)

pub seen_of : (n : ℕ) (es : Entries) (y : Entry ℕ) → Contains (owned n es) y → (e : Entry ℕ) × Contains es e × (own_of n e ≡ Some y)
unfolding owned
seen_of n [] y h = absurd (none_in y h)
seen_of n (e ∷ es) y h = by (λ there. let rest = seen_of n es y there in (rest.0, in_tail e es rest.0 rest.1, rest.2)) (own_of n e) refl
  where
    by : (Contains (filter_map (own_of n) es) y → (d : Entry ℕ) × Contains (e ∷ es) d × (own_of n d ≡ Some y)) → (seen : Option (Entry ℕ)) → own_of n e ≡ seen → (d : Entry ℕ) × Contains (e ∷ es) d × (own_of n d ≡ Some y)
    by later None is = later (subst (λ (seen : Option (Entry ℕ)). Contains (cons_option seen (filter_map (own_of n) es)) y) is h)
    by later (Some x) is =
        ⊎_elim (λ (here : x ≡ y). (e, at_head e es e refl, is ∙ ap Some here)) later
        (head_or_tail x (filter_map (own_of n) es) y (subst (λ (seen : Option (Entry ℕ)). Contains (cons_option seen (filter_map (own_of n) es)) y) is h))

-- ---- the sums of a net

pub record Told (wired : Wired) (rules : RuleFile) (n : ℕ) (q : Key) (x : Entry ℕ) : Type 0 where
  pub own : IsOwn n q
  pub key : IsKey wired (turned q)
  pub present : is_present wired rules q ≡ true
  pub value : x.value ≡ value_of wired rules (turned q)

pub told : (wired : Wired) (rules : RuleFile) (n : ℕ) (es : Entries) (q : Key) (x : Entry ℕ) → AreTotals wired rules es → gathered numbers (owned n es) q ≡ Some x → Told wired rules n q x
told wired rules n es q x totals h = record {
  own = own;
  key = key;
  present = passes.0;
  value = passes.1;
}
  where
    y : (y : Entry ℕ) × Contains (owned n es) y × (y.key ≡ q)
    y = some_has (owned n es) q x h

    e : (e : Entry ℕ) × Contains es e × (own_of n e ≡ Some y.0)
    e = seen_of n es y.0 y.1

    is_key : IsKey wired e.0.key
    is_key = All-contains (λ (e : Entry ℕ). IsKey wired e.key) es e.0 totals.keys e.1

    own : IsOwn n q
    own = subst (IsOwn n) y.2 (seen_is_own n e.0 e.0.key y.0 refl (ordered wired e.0.key is_key) e.2)

    key : IsKey wired (turned q)
    key = subst (IsKey wired) (seen_key n e.0 e.0.key y.0 q refl (ordered wired e.0.key is_key) e.2 y.2) is_key

    sums : option_map (with_key q) (total_entry wired rules (turned q)) ≡ Some x
    sums =
        ap (option_map (with_key q)) (sym (totals.sums (turned q) key))
        ∙ sym (gathered_own n q es own (All-weaker (λ (e : Entry ℕ). IsKey wired e.key) (λ (e : Entry ℕ). InOrder e.key) (λ e. ordered wired e.key) es totals.keys)) ∙ h

    some_value : (d : Entry ℕ) → Some d ≡ Some x → x.value ≡ d.value
    some_value d same = cc

    passes : (is_present wired rules q ≡ true) × (x.value ≡ value_of wired rules (turned q))
    passes = by (nat_lt 0 (count_of wired rules (turned q))) refl
      where
        sum : Entry ℕ
        sum = record { key = turned q; count = count_of wired rules (turned q); value = value_of wired rules (turned q) }

        by : (t : Bool) → nat_lt 0 (count_of wired rules (turned q)) ≡ t → (is_present wired rules q ≡ true) × (x.value ≡ value_of wired rules (turned q))
        by true holds = (holds, some_value (with_key q sum) (sym (ap (λ (t : Bool). option_map (with_key q) (cond t (Some sum) None)) holds) ∙ sums))
        by false misses = absurd (none_some x (sym (ap (λ (t : Bool). option_map (with_key q) (cond t (Some sum) None)) misses) ∙ sums))

pub totals_are_own : TotalsAreOwn
totals_are_own wired rules n net es tally there totals rising gathers = record {
  rising = rising;
  present = λ q h.
      let found = key_found tally q h in
      let tells = told wired rules n es q found.0 totals (sym (gathers q) ∙ found.1) in
      (key_of_net wired n net q there tells.own tells.key, tells.present);
  all = λ q h passes.
      let of_net = net_of_key wired n net q there h in
      let sum : Entry ℕ = record { key = turned q; count = count_of wired rules (turned q); value = value_of wired rules (turned q) } in
      let entry : entry_at tally q ≡ Some (with_key q sum) =
      gathers q
      ∙ gathered_own n q es of_net.0 (All-weaker (λ (e : Entry ℕ). IsKey wired e.key) (λ (e : Entry ℕ). InOrder e.key) (λ e. ordered wired e.key) es totals.keys)
      ∙ ap (option_map (with_key q)) (totals.sums (turned q) of_net.1)
      ∙ ap (λ (t : Bool). option_map (with_key q) (cond t (Some sum) None)) passes in
      map_has key_of tally (with_key q sum) (found_in tally q (with_key q sum) entry).0;
  values = λ i d within.
      let e = get_or tally i d in
      let here : entry_at tally e.key ≡ Some e =
      entry_at_place tally e.key i e rising (record { in_range = within; has_key = λ d'. ap key_of (get_or_default tally i d' d within) }) (get_or_default tally i e d within) in
      (told wired rules n es e.key e totals (sym (gathers e.key) ∙ here)).value;
}

-- ---- the capacitances

pub caps_of_totals : (entries tally : Entries) (caps : List Cap) → Gathers numbers entries tally → IsRising tally → caps ≡ map entry_cap tally → AreCapsOf entries caps
caps_of_totals entries tally caps gathers rising are = λ wired rules number net all there totals is.
    let of_net = subst (λ (es : Entries). Gathers numbers es tally) is gathers in
    are ∙ entries_are_caps wired rules (number, net) tally (totals_are_own wired rules number net all tally there totals rising of_net)

-- what is gathered has the keys that there were
pub gathered_names : (entries tally : Entries) → Gathers numbers entries tally → IsRising tally → All (λ e. HasNames e.key) entries → All (λ e. HasNames e.key) tally
gathered_names entries tally gathers rising names = λ i d within.
    let e = get_or tally i d in
    let here : entry_at tally e.key ≡ Some e =
    entry_at_place tally e.key i e rising (record { in_range = within; has_key = λ d'. ap key_of (get_or_default tally i d' d within) }) (get_or_default tally i e d within) in
    let y = some_has entries e.key e (sym (gathers e.key) ∙ here) in
    subst HasNames y.2 (All-contains (λ (e : Entry ℕ). HasNames e.key) entries y.0 names y.1)

pub if_ok : {T E : Type 0} {P Q : T → Type 0} (r : Result T E) → ((value : T) → P value → Q value) → IfOk r P → IfOk r Q
if_ok (Ok value) f h = f value h
if_ok (Err error) f h = h
