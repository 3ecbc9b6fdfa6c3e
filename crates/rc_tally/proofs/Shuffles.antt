-- The order of a list doesn't matter to what is gathered from it.
use Rattle.std.proofs.Common.{◌≡◌, ℕ, zero, suc, ◌<◌, Bool, true, false, cond, List, [], ◌∷◌, length, get_or, set, Option, Some, None, sym, ap, refl, ◌∙◌, subst, arith}
use Rattle.std.specs.Prelude.{All, IfSome, filter, fold}
use Rattle.std.specs.List.{swap}
use Rattle.std.specs.List.Sorted.{IsPermutation}
use Rattle.std.proofs.lemmas.List.{get_or_default}
use Rattle.std.proofs.lemmas.List.Edits.{swap_is}
use Rattle.std.proofs.lemmas.List.Elements.{All-head, All-tail, All-cons, All-set}
use Rattle.std.proofs.lemmas.List.Sorted.{IsPermutation-keeps}
use Rattle.rc_geom.specs.declared.key.Key.{Key}
use Rattle.rc_geom.specs.Sums.{Adding}
use Rattle.rc_geom.proofs.KeyTests.{one_key}
use Rattle.rc_tally.specs.declared.entry.Entry.{Entry}
use Rattle.rc_tally.specs.Amounts.{IsAmount}
use Rattle.rc_tally.specs.Tallies.{sum_fits, sum_of, joined, gathered, AllFit}
use Rattle.rc_tally.proofs.Gathering.{with_one, is_of, with_one_sound, gathered_sound}
use Rattle.rc_tally.proofs.Merging.{joined_swap, joined_regroup}

abbrev IsSound : {V : Type 0} → (V → Bool) → Entry V → Type 0
IsSound sound e = sound e.value ≡ true

-- ---- what is gathered, from the front

-- an entry in front of what is gathered for a key
abbrev in_front : {V : Type 0} → Adding V → Key → Entry V → Option (Entry V) → Option (Entry V)
in_front adding q x rest = cond (is_of q x) (joined adding (Some x) rest) rest

fold_from : {V : Type 0} (adding : Adding V) (fits sound : V → Bool) → IsAmount adding fits sound → (q : Key) (es : List (Entry V)) (o : Option (Entry V)) → All (IsSound sound) es → IfSome o (IsSound sound) → fold (with_one adding) o (filter (is_of q) es) ≡ joined adding o (gathered adding es q)
fold_from adding fits sound laws q [] None of_es of_o = refl
fold_from adding fits sound laws q [] (Some d) of_es of_o = refl
fold_from {V = W} adding fits sound laws q (x ∷ es) o of_es of_o =
    let of_x : sound x.value ≡ true = All-head (IsSound sound) x es of_es in
    let of_rest = All-tail (IsSound sound) x es of_es in
    let rest = filter (is_of {V = W} q) es in
    let t = gathered adding es q in
    let of_t = gathered_sound adding fits sound laws es q of_rest in
    elim (is_of q x) as (λ b. fold (with_one adding) o (cond b (x ∷ rest) rest) ≡ joined adding o (fold (with_one adding) None (cond b (x ∷ rest) rest))) [
      | true ↦
          fold_from adding fits sound laws q es (with_one adding o x) of_rest (with_one_sound adding fits sound laws o x of_o of_x)
          ∙ (joined_regroup adding sound laws.additive o (Some x) t of_o of_x of_t
          ∙ sym (ap (joined adding o) (fold_from adding fits sound laws q es (Some x) of_rest of_x)))
      | false ↦ fold_from adding fits sound laws q es o of_rest of_o
    ]

gathered_cons : {V : Type 0} (adding : Adding V) (fits sound : V → Bool) → IsAmount adding fits sound → (q : Key) (x : Entry V) (es : List (Entry V)) → All (IsSound sound) (x ∷ es) → gathered adding (x ∷ es) q ≡ in_front adding q x (gathered adding es q)
gathered_cons {V = W} adding fits sound laws q x es of_es =
    let of_x : sound x.value ≡ true = All-head (IsSound sound) x es of_es in
    let rest = filter (is_of {V = W} q) es in
    elim (is_of q x) as (λ b. fold (with_one adding) None (cond b (x ∷ rest) rest) ≡ cond b (joined adding (Some x) (gathered adding es q)) (gathered adding es q)) [
      | true ↦ fold_from adding fits sound laws q es (Some x) (All-tail (IsSound sound) x es of_es) of_x
      | false ↦ refl
    ]

-- ---- two entries change places

front_swap : {V : Type 0} (adding : Adding V) (fits sound : V → Bool) → IsAmount adding fits sound → (q : Key) (x y : Entry V) (t : Option (Entry V)) → IsSound sound x → IsSound sound y → IfSome t (IsSound sound) → (a b : Bool) → is_of q x ≡ a → is_of q y ≡ b → cond a (joined adding (Some x) (cond b (joined adding (Some y) t) t)) (cond b (joined adding (Some y) t) t) ≡ cond b (joined adding (Some y) (cond a (joined adding (Some x) t) t)) (cond a (joined adding (Some x) t) t)
front_swap adding fits sound laws q x y t of_x of_y of_t false b is_x is_y = refl
front_swap adding fits sound laws q x y t of_x of_y of_t true false is_x is_y = refl
front_swap {V = W} adding fits sound laws q x y t of_x of_y of_t true true is_x is_y =
    sym (joined_regroup adding sound laws.additive (Some x) (Some y) t of_x of_y of_t)
    ∙ (ap (λ (o : Option (Entry W)). joined adding o t) (joined_swap adding sound laws.additive q (Some x) (Some y) (one_key x.key q is_x) (one_key y.key q is_y) of_x of_y)
    ∙ joined_regroup adding sound laws.additive (Some y) (Some x) t of_y of_x of_t)

fronts_swap : {V : Type 0} (adding : Adding V) (fits sound : V → Bool) → IsAmount adding fits sound → (q : Key) (x y : Entry V) (t : Option (Entry V)) → IsSound sound x → IsSound sound y → IfSome t (IsSound sound) → in_front adding q x (in_front adding q y t) ≡ in_front adding q y (in_front adding q x t)
fronts_swap adding fits sound laws q x y t of_x of_y of_t = front_swap adding fits sound laws q x y t of_x of_y of_t (is_of q x) (is_of q y) refl refl

-- an entry in front and one in the list
exchanged : {V : Type 0} (adding : Adding V) (fits sound : V → Bool) → IsAmount adding fits sound → (q : Key) (es : List (Entry V)) (j : ℕ) (x y : Entry V) → j < length es → get_or es j x ≡ y → All (IsSound sound) es → IsSound sound x → in_front adding q y (gathered adding (set es j x) q) ≡ in_front adding q x (gathered adding es q)
exchanged adding fits sound laws q [] j x y within is of_es of_x = absurd (omega arith)
exchanged {V = W} adding fits sound laws q (z ∷ zs) zero x y within is of_es of_x =
    let of_z = All-head (IsSound sound) z zs of_es in
    let of_zs = All-tail (IsSound sound) z zs of_es in
    let t = gathered adding zs q in
    let of_t = gathered_sound adding fits sound laws zs q of_zs in
    ap (λ (e : Entry W). in_front adding q e (gathered adding (x ∷ zs) q)) (sym is)
    ∙ (ap (in_front adding q z) (gathered_cons adding fits sound laws q x zs (All-cons (IsSound sound) x zs of_x of_zs))
    ∙ (fronts_swap adding fits sound laws q z x t of_z of_x of_t
    ∙ sym (ap (in_front adding q x) (gathered_cons adding fits sound laws q z zs of_es))))
exchanged {V = W} adding fits sound laws q (z ∷ zs) (suc j) x y within is of_es of_x =
    let low : j < length zs = omega arith in
    let of_z = All-head (IsSound sound) z zs of_es in
    let of_zs = All-tail (IsSound sound) z zs of_es in
    let of_set = All-set (IsSound sound) zs j x of_x of_zs in
    let of_y : IsSound sound y = subst (IsSound sound) is (of_zs j x low) in
    let t = gathered adding zs q in
    let u = gathered adding (set zs j x) q in
    ap (in_front adding q y) (gathered_cons adding fits sound laws q z (set zs j x) (All-cons (IsSound sound) z (set zs j x) of_z of_set))
    ∙ (fronts_swap adding fits sound laws q y z u of_y of_z (gathered_sound adding fits sound laws (set zs j x) q of_set)
    ∙ (ap (in_front adding q z) (exchanged adding fits sound laws q zs j x y low is of_zs of_x)
    ∙ (fronts_swap adding fits sound laws q z x t of_z of_x (gathered_sound adding fits sound laws zs q of_zs)
    ∙ sym (ap (in_front adding q x) (gathered_cons adding fits sound laws q z zs of_es)))))

both_set : {V : Type 0} (adding : Adding V) (fits sound : V → Bool) → IsAmount adding fits sound → (q : Key) (es : List (Entry V)) (i j : ℕ) (a b : Entry V) → i < length es → j < length es → get_or es i a ≡ a → get_or es j b ≡ b → All (IsSound sound) es → gathered adding (set (set es i b) j a) q ≡ gathered adding es q
both_set adding fits sound laws q [] i j a b low high is_a is_b of_es = absurd (omega arith)
both_set {V = W} adding fits sound laws q (x ∷ xs) zero zero a b low high is_a is_b of_es =
    ap (λ (e : Entry W). gathered adding (e ∷ xs) q) (sym is_a)
both_set {V = W} adding fits sound laws q (x ∷ xs) zero (suc j) a b low high is_a is_b of_es =
    let inner : j < length xs = omega arith in
    let of_xs = All-tail (IsSound sound) x xs of_es in
    let of_a : IsSound sound a = subst (IsSound sound) is_a (All-head (IsSound sound) x xs of_es) in
    let of_b : IsSound sound b = subst (IsSound sound) is_b (of_xs j b inner) in
    let at_b : get_or xs j a ≡ b = get_or_default xs j a b inner ∙ is_b in
    gathered_cons adding fits sound laws q b (set xs j a) (All-cons (IsSound sound) b (set xs j a) of_b (All-set (IsSound sound) xs j a of_a of_xs))
    ∙ (exchanged adding fits sound laws q xs j a b inner at_b of_xs of_a
    ∙ (ap (λ (e : Entry W). in_front adding q e (gathered adding xs q)) (sym is_a) ∙ sym (gathered_cons adding fits sound laws q x xs of_es)))
both_set {V = W} adding fits sound laws q (x ∷ xs) (suc i) zero a b low high is_a is_b of_es =
    let inner : i < length xs = omega arith in
    let of_xs = All-tail (IsSound sound) x xs of_es in
    let of_b : IsSound sound b = subst (IsSound sound) is_b (All-head (IsSound sound) x xs of_es) in
    let of_a : IsSound sound a = subst (IsSound sound) is_a (of_xs i a inner) in
    let at_a : get_or xs i b ≡ a = get_or_default xs i b a inner ∙ is_a in
    gathered_cons adding fits sound laws q a (set xs i b) (All-cons (IsSound sound) a (set xs i b) of_a (All-set (IsSound sound) xs i b of_b of_xs))
    ∙ (exchanged adding fits sound laws q xs i b a inner at_a of_xs of_b
    ∙ (ap (λ (e : Entry W). in_front adding q e (gathered adding xs q)) (sym is_b) ∙ sym (gathered_cons adding fits sound laws q x xs of_es)))
both_set {V = W} adding fits sound laws q (x ∷ xs) (suc i) (suc j) a b low high is_a is_b of_es =
    let low' : i < length xs = omega arith in
    let high' : j < length xs = omega arith in
    let of_x = All-head (IsSound sound) x xs of_es in
    let of_xs = All-tail (IsSound sound) x xs of_es in
    let of_a : IsSound sound a = subst (IsSound sound) is_a (of_xs i a low') in
    let of_b : IsSound sound b = subst (IsSound sound) is_b (of_xs j b high') in
    let of_set = All-set (IsSound sound) (set xs i b) j a of_a (All-set (IsSound sound) xs i b of_b of_xs) in
    gathered_cons adding fits sound laws q x (set (set xs i b) j a) (All-cons (IsSound sound) x (set (set xs i b) j a) of_x of_set)
    ∙ (ap (in_front adding q x) (both_set adding fits sound laws q xs i j a b low' high' is_a is_b of_xs)
    ∙ sym (gathered_cons adding fits sound laws q x xs of_es))

-- ---- any order

-- an order that keeps what is gathered for a key, and that all entries are sound
record Keeps {V : Type 0} (adding : Adding V) (sound : V → Bool) (q : Key) (es others : List (Entry V)) : Type 0 where
  same : gathered adding others q ≡ gathered adding es q
  all_sound : All (IsSound sound) others

swap_keeps : {V : Type 0} (adding : Adding V) (fits sound : V → Bool) → IsAmount adding fits sound → (q : Key) (es l : List (Entry V)) (i j : ℕ) → i < length l → j < length l → Keeps adding sound q es l → Keeps adding sound q es (swap l i j)
swap_keeps adding fits sound laws q es [] i j low high so = absurd (omega arith)
swap_keeps {V = W} adding fits sound laws q es (d ∷ ds) i j low high so =
    let l : List (Entry W) = d ∷ ds in
    let a = get_or l i d in
    let b = get_or l j d in
    let is : set (set l i b) j a ≡ swap l i j = swap_is l i j d low high in
    let all = so.all_sound in
    subst (Keeps adding sound q es) is (record {
      same = both_set adding fits sound laws q l i j a b low high (get_or_default l i a d low) (get_or_default l j b d high) all ∙ so.same;
      all_sound = All-set (IsSound sound) (set l i b) j a (all i d low) (All-set (IsSound sound) l i b (all j d high) all);
    })

pub gathered_moved : {V : Type 0} (adding : Adding V) (fits sound : V → Bool) → IsAmount adding fits sound → (es others : List (Entry V)) → All (λ e. sound e.value ≡ true) es → IsPermutation es others → (q : Key) → gathered adding others q ≡ gathered adding es q
gathered_moved adding fits sound laws es others of_es moved q =
    (IsPermutation-keeps es (Keeps adding sound q es) (record { same = refl; all_sound = of_es }) (swap_keeps adding fits sound laws q es) others moved).same

pub all_fit_moved : {V : Type 0} (adding : Adding V) (fits sound : V → Bool) → IsAmount adding fits sound → (es others : List (Entry V)) → All (λ e. sound e.value ≡ true) es → IsPermutation es others → AllFit adding fits es → AllFit adding fits others
all_fit_moved {V = W} adding fits sound laws es others of_es moved fit q =
    subst (λ (o : Option (Entry W)). IfSome o (λ e. sum_fits fits (sum_of e) ≡ true)) (sym (gathered_moved adding fits sound laws es others of_es moved q)) (fit q)
