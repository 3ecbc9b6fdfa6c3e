-- A list in which keys stand many times is gathered, each key's entries in their order.
use Rattle.std.proofs.Common.{◌≡◌, ℕ, suc, ◌+◌, ◌<◌, ◌^◌, Bool, true, false, cond, List, [], ◌∷◌, ◌++◌, length, take, drop, get_or, Option, Some, None, sym, ap, refl, ◌∙◌, subst, arith}
use Rattle.std.specs.Prelude.{All, IfSome, filter, fold, nat_lt, ◌&&◌}
use Rattle.std.proofs.lemmas.Bool.{and_parts, ltb-true, lt-ltb, and_from}
use Rattle.std.proofs.lemmas.List.{take_more, take-append-drop}
use Rattle.std.proofs.lemmas.List.Elements.{All-head, All-tail, All-take, All-drop, filter-append}
use Rattle.std.proofs.lemmas.List.Sums.{fold-append}
use Rattle.std.proofs.Math.Seq.{drop-cons}
use Rattle.rc_geom.specs.declared.key.Key.{Key}
use Rattle.rc_geom.specs.Parts.{same_key}
use Rattle.rc_geom.specs.Sums.{Adding}
use Rattle.rc_tally.specs.declared.entry.Entry.{Entry}
use Rattle.rc_tally.specs.Amounts.{IsAmount}
use Rattle.rc_tally.specs.Tallies.{sum_fits, sum_of, entry_at, both, joined, gathered, Grows, Gathers, AllFit}
use Rattle.rc_geom.proofs.KeyTests.{one_key}
use Rattle.rc_tally.proofs.Places.{same_itself}

-- an entry more of a key
abbrev pub with_one : {V : Type 0} → Adding V → Option (Entry V) → Entry V → Option (Entry V)
with_one adding o e = joined adding o (Some e)

-- the entry has the key
abbrev pub is_of : {V : Type 0} → Key → Entry V → Bool
is_of key e = same_key e.key key

-- ---- sums so far fit where whole sums do

sum_small : {V : Type 0} (fits : V → Bool) (n : ℕ) (v : V) → (nat_lt n (2 ^ 64) && fits v) ≡ true → (n < 2 ^ 64) × (fits v ≡ true)
sum_small fits n v h = let parts = and_parts (nat_lt n (2 ^ 64)) (fits v) h in (ltb-true n (2 ^ 64) parts.0, parts.1)

first_fits : {V : Type 0} (adding : Adding V) (fits sound : V → Bool) → IsAmount adding fits sound → (d e : Entry V) → sound d.value ≡ true → sound e.value ≡ true → sum_fits fits (sum_of (both adding d e)) ≡ true → sum_fits fits (sum_of d) ≡ true
first_fits adding fits sound laws d e of_d of_e h =
    let whole = sum_small fits (d.count + e.count) (adding.plus d.value e.value) h in
    and_from (nat_lt d.count (2 ^ 64)) (fits d.value) (lt-ltb d.count (2 ^ 64) (omega (arith, whole.0))) ((laws.parts d.value e.value of_d of_e whole.1).0)

-- a first part of what is gathered fits
part_fits : {V : Type 0} (adding : Adding V) (fits sound : V → Bool) → IsAmount adding fits sound → (q : Key) (es : List (Entry V)) (d : Entry V) → All (λ e. sound e.value ≡ true) es → sound d.value ≡ true → IfSome (fold (with_one adding) (Some d) (filter (is_of q) es)) (λ e. sum_fits fits (sum_of e) ≡ true) → sum_fits fits (sum_of d) ≡ true
part_fits adding fits sound laws q [] d of_es of_d h = h
part_fits {V = W} adding fits sound laws q (e ∷ es) d of_es of_d h =
    let of_e : sound e.value ≡ true = All-head (λ (x : Entry W). sound x.value ≡ true) e es of_es in
    let of_rest = All-tail (λ (x : Entry W). sound x.value ≡ true) e es of_es in
    (elim (is_of q e) as (λ b. IfSome (fold (with_one adding) (Some d) (cond b (e ∷ filter (is_of q) es) (filter (is_of q) es))) (λ x. sum_fits fits (sum_of x) ≡ true) → sum_fits fits (sum_of d) ≡ true) [
      | true ↦ λ k. first_fits adding fits sound laws d e of_d of_e (part_fits adding fits sound laws q es (both adding d e) of_rest (laws.additive.neutral.closed d.value e.value of_d of_e) k)
      | false ↦ λ k. part_fits adding fits sound laws q es d of_rest of_d k
    ]) h

-- what is gathered from sound entries is sound
pub with_one_sound : {V : Type 0} (adding : Adding V) (fits sound : V → Bool) → IsAmount adding fits sound → (o : Option (Entry V)) (e : Entry V) → IfSome o (λ e. sound e.value ≡ true) → sound e.value ≡ true → IfSome (with_one adding o e) (λ e. sound e.value ≡ true)
with_one_sound adding fits sound laws None e of_o of_e = of_e
with_one_sound adding fits sound laws (Some d) e of_o of_e = laws.additive.neutral.closed d.value e.value of_o of_e

fold_sound : {V : Type 0} (adding : Adding V) (fits sound : V → Bool) → IsAmount adding fits sound → (q : Key) (es : List (Entry V)) (o : Option (Entry V)) → All (λ e. sound e.value ≡ true) es → IfSome o (λ e. sound e.value ≡ true) → IfSome (fold (with_one adding) o (filter (is_of q) es)) (λ e. sound e.value ≡ true)
fold_sound adding fits sound laws q [] o of_es of_o = of_o
fold_sound {V = W} adding fits sound laws q (e ∷ es) o of_es of_o =
    let of_e : sound e.value ≡ true = All-head (λ (x : Entry W). sound x.value ≡ true) e es of_es in
    let of_rest = All-tail (λ (x : Entry W). sound x.value ≡ true) e es of_es in
    elim (is_of q e) as (λ b. IfSome (fold (with_one adding) o (cond b (e ∷ filter (is_of q) es) (filter (is_of q) es))) (λ x. sound x.value ≡ true)) [
      | true ↦ fold_sound adding fits sound laws q es (with_one adding o e) of_rest (with_one_sound adding fits sound laws o e of_o of_e)
      | false ↦ fold_sound adding fits sound laws q es o of_rest of_o
    ]

pub gathered_sound : {V : Type 0} (adding : Adding V) (fits sound : V → Bool) → IsAmount adding fits sound → (es : List (Entry V)) (q : Key) → All (λ e. sound e.value ≡ true) es → IfSome (gathered adding es q) (λ e. sound e.value ≡ true)
gathered_sound adding fits sound laws es q of_es = fold_sound adding fits sound laws q es None of_es (record {})

-- ---- one entry after another

pub gathered_append : {V : Type 0} (adding : Adding V) (xs ys : List (Entry V)) (q : Key) → gathered adding (xs ++ ys) q ≡ fold (with_one adding) (gathered adding xs q) (filter (is_of q) ys)
gathered_append {V = W} adding xs ys q =
    ap (λ (es : List (Entry W)). fold (with_one adding) None es) (filter-append (is_of q) xs ys) ∙ fold-append (with_one adding) None (filter (is_of q) xs) (filter (is_of q) ys)

gathered_more : {V : Type 0} (adding : Adding V) (es : List (Entry V)) (i : ℕ) (e : Entry V) (q : Key) → i < length es → e ≡ get_or es i e → gathered adding (take (i + 1) es) q ≡ cond (same_key e.key q) (with_one adding (gathered adding (take i es) q) e) (gathered adding (take i es) q)
gathered_more {V = W} adding es i e q within is =
    let o = gathered adding (take i es) q in
    ap (λ (xs : List (Entry W)). gathered adding xs q) (take_more es i e within ∙ ap (λ (x : Entry W). take i es ++ x ∷ []) (sym is))
    ∙ (gathered_append adding (take i es) (e ∷ []) q
    ∙ (elim (same_key e.key q) as (λ b. fold (with_one adding) o (cond b (e ∷ []) []) ≡ cond b (with_one adding o e) o) [ true ↦ refl | false ↦ refl ]))

gathered_whole : {V : Type 0} (adding : Adding V) (es : List (Entry V)) (i : ℕ) (e : Entry V) (q : Key) → i < length es → e ≡ get_or es i e → gathered adding es q ≡ fold (with_one adding) (gathered adding (take i es) q) (filter (is_of q) (e ∷ drop (suc i) es))
gathered_whole {V = W} adding es i e q within is =
    ap (λ (xs : List (Entry W)). gathered adding xs q) (sym (take-append-drop i es) ∙ ap (λ (xs : List (Entry W)). take i es ++ xs) (drop-cons es i e within ∙ ap (λ (x : Entry W). x ∷ drop (suc i) es) (sym is)))
    ∙ gathered_append adding (take i es) (e ∷ drop (suc i) es) q

fits_some : {V : Type 0} (adding : Adding V) (fits sound : V → Bool) → IsAmount adding fits sound → (q : Key) (o : Option (Entry V)) (e : Entry V) (rest : List (Entry V)) → IfSome o (λ d. sound d.value ≡ true) → sound e.value ≡ true → All (λ e. sound e.value ≡ true) rest → IfSome (fold (with_one adding) (with_one adding o e) (filter (is_of q) rest)) (λ x. sum_fits fits (sum_of x) ≡ true) → IfSome o (λ d. (d.count + e.count < 2 ^ 64) × (fits (adding.plus d.value e.value) ≡ true))
fits_some adding fits sound laws q None e rest of_o of_e of_rest h = record {}
fits_some adding fits sound laws q (Some d) e rest of_d of_e of_rest h =
    sum_small fits (d.count + e.count) (adding.plus d.value e.value) (part_fits adding fits sound laws q rest (both adding d e) of_rest (laws.additive.neutral.closed d.value e.value of_d of_e) h)

-- the next entry fits beside what its key has so far
pub fits_beside : {V : Type 0} (adding : Adding V) (fits sound : V → Bool) → IsAmount adding fits sound → (es tally : List (Entry V)) (i : ℕ) (e : Entry V) → All (λ e. sound e.value ≡ true) es → AllFit adding fits es → i < length es → e ≡ get_or es i e → Gathers adding (take i es) tally → IfSome (entry_at tally e.key) (λ d. (d.count + e.count < 2 ^ 64) × (fits (adding.plus d.value e.value) ≡ true))
fits_beside {V = W} adding fits sound laws es tally i e of_es fit within is gathers =
    let o = gathered adding (take i es) e.key in
    let IsSound : Entry W → Type 0 = λ x. sound x.value ≡ true in
    let of_rest : All IsSound (drop (suc i) es) = All-drop IsSound (suc i) es of_es in
    let of_e : sound e.value ≡ true = subst IsSound (sym is) (of_es i e within) in
    let whole = subst (λ (p : Option (Entry W)). IfSome p (λ x. sum_fits fits (sum_of x) ≡ true)) (gathered_whole adding es i e e.key within is) (fit e.key) in
    let Small : Option (Entry W) → Type 0 = λ p. IfSome p (λ x. sum_fits fits (sum_of x) ≡ true) in
    let mine = subst (λ (b : Bool). Small (fold (with_one adding) o (cond b (e ∷ filter (is_of e.key) (drop (suc i) es)) (filter (is_of e.key) (drop (suc i) es))))) (same_itself e.key) whole in
    subst (λ (p : Option (Entry W)). IfSome p (λ d. (d.count + e.count < 2 ^ 64) × (fits (adding.plus d.value e.value) ≡ true))) (sym (gathers e.key))
    (fits_some adding fits sound laws e.key o e (drop (suc i) es) (gathered_sound adding fits sound laws (take i es) e.key (All-take IsSound i es of_es)) of_e of_rest mine)

pub gathers_none : {V : Type 0} (adding : Adding V) (es tally : List (Entry V)) → tally ≡ [] → Gathers adding (take 0 es) tally
gathers_none {V = W} adding es tally none q = ap (λ (xs : List (Entry W)). entry_at xs q) none

pub gathers_more : {V : Type 0} (adding : Adding V) (es before after : List (Entry V)) (i : ℕ) (e : Entry V) → i < length es → e ≡ get_or es i e → Gathers adding (take i es) before → Grows adding before after e.key (sum_of e) → Gathers adding (take (i + 1) es) after
gathers_more {V = W} adding es before after i e within is gathers grows q =
    let o = gathered adding (take i es) q in
    let own : (b : Bool) → same_key e.key q ≡ b → cond b (with_one adding (entry_at before e.key) e) (entry_at before q) ≡ cond b (with_one adding o e) o =
    λ b. elim b as (λ b. same_key e.key q ≡ b → cond b (with_one adding (entry_at before e.key) e) (entry_at before q) ≡ cond b (with_one adding o e) o) [
      | true ↦ λ same. ap (λ (p : Option (Entry W)). with_one adding p e) (ap (entry_at before) (one_key e.key q same) ∙ gathers q)
      | false ↦ λ other. gathers q
    ] in
    grows q ∙ (own (same_key e.key q) refl ∙ sym (gathered_more adding es i e q within is))

-- the parts of what fits
pub count_beside : {V : Type 0} (adding : Adding V) (fits : V → Bool) (o : Option (Entry V)) (e : Entry V) → IfSome o (λ d. (d.count + e.count < 2 ^ 64) × (fits (adding.plus d.value e.value) ≡ true)) → IfSome o (λ d. d.count + e.count < 2 ^ 64)
count_beside adding fits None e h = record {}
count_beside adding fits (Some d) e h = h.0

pub value_beside : {V : Type 0} (adding : Adding V) (fits : V → Bool) (o : Option (Entry V)) (e : Entry V) → IfSome o (λ d. (d.count + e.count < 2 ^ 64) × (fits (adding.plus d.value e.value) ≡ true)) → IfSome o (λ d. fits (adding.plus d.value e.value) ≡ true)
value_beside adding fits None e h = record {}
value_beside adding fits (Some d) e h = h.1
