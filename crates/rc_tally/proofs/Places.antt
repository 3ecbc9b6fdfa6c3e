-- What a search finds among entries with rising keys, and what an edit at that place does.
use Rattle.std.proofs.Common.{◌≡◌, ◌≢◌, ℕ, zero, suc, ◌+◌, ◌-◌, ◌<◌, ◌≤◌, true, false, cond, List, [], ◌∷◌, length, get_or, set, Option, Some, None, Result, Ok, Err, ⊎_elim, sym, ap, refl, ◌∙◌, subst, arith}
use Rattle.std.specs.Prelude.{MatchResult}
use Rattle.std.specs.List.{insert}
use Rattle.std.specs.List.Sorted.{IsSearchInRange, IsBinarySearchResult, IsNonDecreasingBy}
use Rattle.std.specs.Ordering.{ordering_index}
use Rattle.std.specs.declared.cmp.Ordering.TheVariants.{Less}
use Rattle.std.proofs.lemmas.List.Edits.{length-insert, get_or-insert_below, get_or-insert_at, get_or-insert_above}
use Rattle.std.proofs.lemmas.Bool.{cases_Bool, cases_lt, cases_eq, cases_order, cond-true, cond-false}
use Rattle.std.proofs.lemmas.Cmp.{tied_itself}
use Rattle.std.proofs.lemmas.List.{length-set, get_or-set_same, get_or-set_other}
use Rattle.std.proofs.lemmas.List.Sorted.{searchable_from_sorted}
use Rattle.rc_geom.specs.declared.key.Key.{Key}
use Rattle.rc_geom.specs.Parts.{same_key}
use Rattle.rc_geom.specs.Sums.{Adding}
use Rattle.rc_geom.proofs.KeyTests.{one_key}
use Rattle.rc_tally.specs.declared.entry.Entry.{Entry}
use Rattle.rc_tally.specs.Tallies.{Sum, entry_at, entry_of, both, joined, Grows, IsRising, key_order}
use Rattle.rc_tally.specs.Places.{IsAt, IsGapFor}
use Rattle.rc_tally.proofs.Orders.{key_total, less_differs, more_differs, equal_is_same, more_is_less, not_less}

-- below, at or above
by_order : {P : Type 0} (m n : ℕ) → (m < n → P) → (m ≡ n → P) → (n < m → P) → P
by_order m n low here high = ⊎_elim (λ (e : m ≡ n). here e) (⊎_elim (λ (l : m < n). low l) (λ (h : n < m). high h)) (cases_order m n)

-- no entry before place i has the key
abbrev pub NoKeyBefore : {V : Type 0} → List (Entry V) → Key → ℕ → Type 0
NoKeyBefore {V} es key i = (j : ℕ) (d : Entry V) → j < i → same_key (get_or es j d).key key ≡ false

pub tail_keys : {V : Type 0} (e : Entry V) (es : List (Entry V)) (key : Key) (i : ℕ) → NoKeyBefore (e ∷ es) key (suc i) → NoKeyBefore es key i
tail_keys e es key i none_has j d less = none_has (suc j) d (omega arith)

pub skip : {V : Type 0} (e : Entry V) (es : List (Entry V)) (key : Key) → same_key e.key key ≡ false → entry_at (e ∷ es) key ≡ entry_at es key
skip e es key h = ap (λ b. cond b (Some e) (entry_at es key)) h

pub hit : {V : Type 0} (e : Entry V) (es : List (Entry V)) (key : Key) → same_key e.key key ≡ true → entry_at (e ∷ es) key ≡ Some e
hit e es key h = ap (λ b. cond b (Some e) (entry_at es key)) h

-- a key that no entry has is not found
pub entry_absent : {V : Type 0} (es : List (Entry V)) (key : Key) → NoKeyBefore es key (length es) → entry_at es key ≡ None
entry_absent [] key none_has = refl
entry_absent (e ∷ es) key none_has = skip e es key (none_has 0 e (omega arith)) ∙ entry_absent es key (tail_keys e es key (length es) none_has)

-- the first entry that has the key
pub entry_present : {V : Type 0} (es : List (Entry V)) (key : Key) (i : ℕ) (e : Entry V) → i < length es → get_or es i e ≡ e → same_key e.key key ≡ true → NoKeyBefore es key i → entry_at es key ≡ Some e
entry_present [] key i e within at same none_has = absurd (omega arith)
entry_present (x ∷ es) key zero e within at same none_has = hit x es key (ap (λ (y : Entry _). same_key y.key key) at ∙ same) ∙ ap Some at
entry_present (x ∷ es) key (suc i) e within at same none_has = skip x es key (none_has 0 x (omega arith)) ∙ entry_present es key i e (omega arith) at same (tail_keys x es key i none_has)

-- ---- an entry is written over by one of the same key

set_own : {V : Type 0} (es : List (Entry V)) (key : Key) (i : ℕ) (new : Entry V) → i < length es → same_key new.key key ≡ true → NoKeyBefore es key i → entry_at (set es i new) key ≡ Some new
set_own [] key i new within is none_has = absurd (omega arith)
set_own (x ∷ es) key zero new within is none_has = hit new es key is
set_own (x ∷ es) key (suc i) new within is none_has = skip x (set es i new) key (none_has 0 x (omega arith)) ∙ set_own es key i new (omega arith) is (tail_keys x es key i none_has)

set_other : {V : Type 0} (es : List (Entry V)) (i : ℕ) (e new : Entry V) (q : Key) → i < length es → get_or es i e ≡ e → same_key e.key q ≡ false → same_key new.key q ≡ false → entry_at (set es i new) q ≡ entry_at es q
set_other [] i e new q within at is is' = absurd (omega arith)
set_other (x ∷ es) zero e new q within at is is' = skip new es q is' ∙ sym (skip x es q (ap (λ (y : Entry _). same_key y.key q) at ∙ is))
set_other (x ∷ es) (suc i) e new q within at is is' = ap (λ (o : Option (Entry _)). cond (same_key x.key q) (Some x) o) (set_other es i e new q (omega arith) at is is')

-- ---- an entry is put in

insert_own : {V : Type 0} (es : List (Entry V)) (key : Key) (i : ℕ) (new : Entry V) → same_key new.key key ≡ true → NoKeyBefore es key i → entry_at (insert es i new) key ≡ Some new
insert_own es key zero new is none_has = hit new es key is
insert_own [] key (suc i) new is none_has = hit new [] key is
insert_own (x ∷ es) key (suc i) new is none_has = skip x (insert es i new) key (none_has 0 x (omega arith)) ∙ insert_own es key i new is (tail_keys x es key i none_has)

insert_other : {V : Type 0} (es : List (Entry V)) (i : ℕ) (new : Entry V) (q : Key) → same_key new.key q ≡ false → entry_at (insert es i new) q ≡ entry_at es q
insert_other es zero new q is = skip new es q is
insert_other [] (suc i) new q is = skip new [] q is
insert_other (x ∷ es) (suc i) new q is = ap (λ (o : Option (Entry _)). cond (same_key x.key q) (Some x) o) (insert_other es i new q is)

-- ---- places

pub same_itself : (key : Key) → same_key key key ≡ true
same_itself key = equal_is_same key key (tied_itself key_total key)

-- where a key is told from another, what is found at it and at others
pub by_key : {X : Type 0} (key q : Key) (f g : Key → Option X) (own : Option X) → f key ≡ own → (same_key key q ≡ false → f q ≡ g q) → f q ≡ cond (same_key key q) own (g q)
by_key key q f g own at others = ⊎_elim
    (λ (same : same_key key q ≡ true). ap f (sym (one_key key q same)) ∙ (at ∙ sym (cond-true (same_key key q) own (g q) same)))
    (λ (other : same_key key q ≡ false). others other ∙ sym (cond-false (same_key key q) own (g q) other))
    (cases_Bool (same_key key q))

pub no_key_before : {V : Type 0} (es : List (Entry V)) (key : Key) (i : ℕ) → IsRising es → IsAt es key i → NoKeyBefore es key i
no_key_before es key i rising at j d less =
    less_differs (get_or es j d).key key (subst (λ (k : Key). key_order (get_or es j d).key k ≡ Less) (at.has_key d) (rising j i d less at.in_range))

-- the entry there is the key's
pub entry_at_place : {V : Type 0} (es : List (Entry V)) (key : Key) (i : ℕ) (e : Entry V) → IsRising es → IsAt es key i → get_or es i e ≡ e → entry_at es key ≡ Some e
entry_at_place es key i e rising at is =
    entry_present es key i e at.in_range is (ap (λ (k : Key). same_key k key) (ap (λ (y : Entry _). y.key) (sym is) ∙ at.has_key e) ∙ same_itself key) (no_key_before es key i rising at)

pub grows_at : {V : Type 0} (adding : Adding V) (es : List (Entry V)) (key : Key) (i : ℕ) (e new : Entry V) (more : Sum V) → IsRising es → IsAt es key i → get_or es i e ≡ e → new ≡ both adding e (entry_of key more) → Grows adding es (set es i new) key more
grows_at {V = W} adding es key i e new more rising at is grew q =
    let own_key : e.key ≡ key = ap (λ (y : Entry W). y.key) (sym is) ∙ at.has_key e in
    let new_key : new.key ≡ key = ap (λ (y : Entry W). y.key) grew ∙ own_key in
    let found : entry_at es key ≡ Some e = entry_at_place es key i e rising at is in
    by_key key q (entry_at (set es i new)) (entry_at es) (joined adding (entry_at es key) (Some (entry_of key more)))
    (set_own es key i new at.in_range (ap (λ (k : Key). same_key k key) new_key ∙ same_itself key) (no_key_before es key i rising at)
    ∙ (ap Some grew ∙ sym (ap (λ (o : Option (Entry W)). joined adding o (Some (entry_of key more))) found)))
    (λ other. set_other es i e new q at.in_range is (ap (λ (k : Key). same_key k q) own_key ∙ other) (ap (λ (k : Key). same_key k q) new_key ∙ other))

no_key : {V : Type 0} (es : List (Entry V)) (key : Key) (i : ℕ) → IsGapFor es key i → NoKeyBefore es key (length es)
no_key es key i gap j d less = ⊎_elim
    (λ (low : j < i). less_differs (get_or es j d).key key (gap.below j d low))
    (λ (high : i ≤ j). more_differs (get_or es j d).key key (gap.above j d high less))
    (cases_lt j i)

pub entry_in_gap : {V : Type 0} (es : List (Entry V)) (key : Key) (i : ℕ) → IsGapFor es key i → entry_at es key ≡ None
entry_in_gap es key i gap = entry_absent es key (no_key es key i gap)

pub grows_in_gap : {V : Type 0} (adding : Adding V) (es : List (Entry V)) (key : Key) (i : ℕ) (new : Entry V) (more : Sum V) → IsGapFor es key i → new ≡ entry_of key more → Grows adding es (insert es i new) key more
grows_in_gap {V = W} adding es key i new more gap grew q =
    let new_key : new.key ≡ key = ap (λ (y : Entry W). y.key) grew in
    let found : entry_at es key ≡ None = entry_in_gap es key i gap in
    by_key key q (entry_at (insert es i new)) (entry_at es) (joined adding (entry_at es key) (Some (entry_of key more)))
    (insert_own es key i new (ap (λ (k : Key). same_key k key) new_key ∙ same_itself key) (λ j d less. less_differs (get_or es j d).key key (gap.below j d less))
    ∙ (ap Some grew ∙ sym (ap (λ (o : Option (Entry W)). joined adding o (Some (entry_of key more))) found)))
    (λ other. insert_other es i new q (ap (λ (k : Key). same_key k q) new_key ∙ other))

-- ---- the keys keep rising

set_key : {V : Type 0} (es : List (Entry V)) (i : ℕ) (new : Entry V) (j : ℕ) (d : Entry V) → i < length es → (get_or es i d).key ≡ new.key → (get_or (set es i new) j d).key ≡ (get_or es j d).key
set_key {V = W} es i new j d within same = ⊎_elim
    (λ (here : j ≡ i). ap (λ (k : ℕ). (get_or (set es i new) k d).key) here ∙ (ap (λ (e : Entry W). e.key) (get_or-set_same es i new d within) ∙ (sym same ∙ ap (λ (k : ℕ). (get_or es k d).key) (sym here))))
    (λ (there : j ≢ i). ap (λ (e : Entry W). e.key) (get_or-set_other es i j new d there))
    (cases_eq j i)

pub rising_set : {V : Type 0} (es : List (Entry V)) (key : Key) (i : ℕ) (new : Entry V) → IsRising es → IsAt es key i → new.key ≡ key → IsRising (set es i new)
rising_set es key i new rising at is j k d less within =
    let long : length (set es i new) ≡ length es = length-set es i new in
    let one = set_key es i new j d at.in_range (at.has_key d ∙ sym is) in
    let two = set_key es i new k d at.in_range (at.has_key d ∙ sym is) in
    ap (λ (a : Key). key_order a (get_or (set es i new) k d).key) one ∙ (ap (key_order (get_or es j d).key) two ∙ rising j k d less (omega arith))

pub rising_insert : {V : Type 0} (es : List (Entry V)) (key : Key) (i : ℕ) (new : Entry V) → IsRising es → IsGapFor es key i → new.key ≡ key → IsRising (insert es i new)
rising_insert {V = W} es key i new rising gap is j k d less within =
    let long : length (insert es i new) ≡ length es + 1 = length-insert es i new gap.in_range in
    let key_of = λ (e : Entry W). e.key in
    let low : (m : ℕ) → m < i → (get_or (insert es i new) m d).key ≡ (get_or es m d).key = λ m h. ap key_of (get_or-insert_below es i new d m h gap.in_range) in
    let here : (m : ℕ) → m ≡ i → (get_or (insert es i new) m d).key ≡ key = λ m h. ap (λ (n : ℕ). (get_or (insert es i new) n d).key) h ∙ (ap key_of (get_or-insert_at es i new d gap.in_range) ∙ is) in
    let high : (m n : ℕ) → m ≡ n + 1 → i ≤ n → (get_or (insert es i new) m d).key ≡ (get_or es n d).key = λ m n e h. ap (λ (p : ℕ). (get_or (insert es i new) p d).key) e ∙ ap key_of (get_or-insert_above es i new d n h gap.in_range) in
    let Less_at = λ (a b : Key). key_order a b ≡ Less in
    let join : (a b a' b' : Key) → a ≡ a' → b ≡ b' → key_order a' b' ≡ Less → key_order a b ≡ Less = λ a b a' b' e f h. ap (λ (x : Key). key_order x b) e ∙ (ap (key_order a') f ∙ h) in
    let at_j = (get_or (insert es i new) j d).key in
    let at_k = (get_or (insert es i new) k d).key in
    by_order k i
    (λ (k_low : k < i). join at_j at_k (get_or es j d).key (get_or es k d).key (low j (omega arith)) (low k k_low) (rising j k d less (omega (arith, gap.in_range))))
    (λ (k_here : k ≡ i). join at_j at_k (get_or es j d).key key (low j (omega arith)) (here k k_here) (gap.below j d (omega arith)))
    (λ (k_high : i < k). by_order j i
    (λ (j_low : j < i). join at_j at_k (get_or es j d).key (get_or es (k - 1) d).key (low j j_low) (high k (k - 1) (omega arith) (omega arith)) (rising j (k - 1) d (omega arith) (omega arith)))
    (λ (j_here : j ≡ i). join at_j at_k key (get_or es (k - 1) d).key (here j j_here) (high k (k - 1) (omega arith) (omega arith)) (gap.above (k - 1) d (omega arith) (omega arith)))
    (λ (j_high : i < j). join at_j at_k (get_or es (j - 1) d).key (get_or es (k - 1) d).key (high j (j - 1) (omega arith) (omega arith)) (high k (k - 1) (omega arith) (omega arith)) (rising (j - 1) (k - 1) d (omega arith) (omega arith))))

-- ---- what a binary search finds

rises : {V : Type 0} (es : List (Entry V)) (key : Key) → IsRising es → IsNonDecreasingBy (λ e. ordering_index (key_order e.key key)) es
rises {V = W} es key rising = searchable_from_sorted key_total (λ (e : Entry W). e.key) es key (λ k d low high. not_less (get_or es k d).key (get_or es (k + 1) d).key (rising k (k + 1) d (omega arith) high))

pub searched : {V : Type 0} (es : List (Entry V)) (key : Key) (r : Result ℕ ℕ) → IsRising es → IsSearchInRange r (length es) → IsBinarySearchResult (λ e. key_order e.key key) es r → MatchResult r (IsAt es key) (IsGapFor es key)
searched es key (Ok i) rising in_range equal = record { in_range = in_range; has_key = λ d. one_key (get_or es i d).key key (equal_is_same (get_or es i d).key key (equal d)) }
searched es key (Err i) rising in_range parted = record {
  in_range = in_range;
  below = λ j d less. (parted (rises es key rising)).0 j d (omega arith) less;
  above = λ j d low high. more_is_less (get_or es j d).key key ((parted (rises es key rising)).1 j d low high);
}
