-- Rising lists of numbers.
use Rattle.std.proofs.Common.{◌≡◌, ◌<◌, ◌≤◌, ◌+◌, ◌⊎◌, inl, inr, ⊎_elim, ℕ, zero, suc, Bool, true, false, List, [], ◌∷◌, get_or, eqb, refl, ap, sym, subst, ◌∙◌, arith}
use Rattle.std.specs.Prelude.{filter, ◌↔◌, Contains, All, ◌||◌}
use Rattle.std.specs.List.{range_with_len, list_any, flat_map, dedup}
use Rattle.std.specs.List.Sorted.{IsPermutation, IsSorted, IsStrictlySortedBy, IsStrictlyIncreasing}
use Rattle.std.specs.Ordering.{nat_cmp}
use Rattle.std.specs.declared.cmp.Ordering.TheVariants.{Less}
use Rattle.std.proofs.lemmas.Bool.{cases_eq, or_cases, cases_Bool, true≢false}
use Rattle.std.proofs.lemmas.List.Elements.{filter_passes, All-contains, All-filter, All-from_get_or, All-from_recursion, Contains-append_cases, Contains-append_left, Contains-append_right}
use Rattle.std.proofs.lemmas.List.Sorted.{Contains-permutation, IsPermutation-sym}
use Rattle.std.proofs.lemmas.List.FromFn.{length-range_with_len, get_or-range_with_len}
use Rattle.std.proofs.lemmas.List.Kept.{IsStrictlyIncreasing-filter, Contains-dedup_nat, Contains-from_dedup}
use Rattle.std.proofs.lemmas.Map.Keys.{IsStrictlyIncreasing-dedup, sorted_from_strictly_increasing, sorted_head, sorted_tail}

-- ---- what is in a list

at_one : (x k i : ℕ) → i < 1 → get_or (x ∷ []) i k ≡ k → k ≡ x
at_one x k zero less is = sym is
at_one x k (suc i) less is = absurd (omega arith)

pub in_one : (x k : ℕ) → Contains (x ∷ []) k → k ≡ x
in_one x k h = at_one x k h.0 h.1 h.2

pub has_first : (x : ℕ) (xs : List ℕ) → Contains (x ∷ xs) x
has_first x xs = (0, omega arith, refl)

pub has_rest : (x : ℕ) (xs : List ℕ) (k : ℕ) → Contains xs k → Contains (x ∷ xs) k
has_rest x xs k h = Contains-append_right (x ∷ []) xs k h

pub has_cases : (x : ℕ) (xs : List ℕ) (k : ℕ) → Contains (x ∷ xs) k → (k ≡ x) ⊎ Contains xs k
has_cases x xs k h = ⊎_elim (λ (first : Contains (x ∷ []) k). inl (in_one x k first)) (λ (rest : Contains xs k). inr rest) (Contains-append_cases (x ∷ []) xs k h)

pub in_none : (k : ℕ) → Contains [] k → ⊥
in_none k h = omega (arith, h.1)

-- ---- numbers that are counted up

pub in_range : (a n : ℕ) → All (λ k. (a ≤ k) × (k < a + n)) (range_with_len a n)
in_range a n =
    let long = length-range_with_len a n in
    All-from_get_or (λ k. (a ≤ k) × (k < a + n)) (range_with_len a n) 0
    (λ i less. let is = get_or-range_with_len a n i 0 (omega (arith, long)) in (omega (arith, is), omega (arith, is, long)))

pub filter_has : (p : ℕ → Bool) (a n k : ℕ) → a ≤ k → k < a + n → p k ≡ true → Contains (filter p (range_with_len a n)) k
filter_has p a zero k low high passes = absurd (omega arith)
filter_has p a (suc n) k low high passes =
    ⊎_elim
    (λ (first : a ≡ k).
    let pass : p a ≡ true = ap p first ∙ passes in
    rw pass (subst (Contains (a ∷ filter p (range_with_len (a + 1) n))) first (has_first a (filter p (range_with_len (a + 1) n)))))
    (λ (later : a ≡ k → ⊥).
    let rest = filter_has p (a + 1) n k (omega arith) (omega arith) passes in
    ⊎_elim
    (λ (pass : p a ≡ true). rw pass (has_rest a (filter p (range_with_len (a + 1) n)) k rest))
    (λ (fail : p a ≡ false). rw fail rest)
    (cases_Bool (p a)))
    (cases_eq a k)

pub filter_tells : (p : ℕ → Bool) (a n k : ℕ) → Contains (filter p (range_with_len a n)) k → (a ≤ k) × (k < a + n) × (p k ≡ true)
filter_tells p a n k h =
    let inside = All-contains (λ k. (a ≤ k) × (k < a + n)) (filter p (range_with_len a n)) k (All-filter p (λ k. (a ≤ k) × (k < a + n)) (range_with_len a n) (in_range a n)) h in
    (inside.0, inside.1, All-contains (λ k. p k ≡ true) (filter p (range_with_len a n)) k (filter_passes p (range_with_len a n)) h)

-- ---- rising lists with the same numbers

nat_less : (x k : ℕ) → nat_cmp x k ≡ Less → x < k
nat_less x k h = grind (arith)

or_left : (a b : Bool) → a ≡ true → (a || b) ≡ true
or_left a b h = grind arith

or_right : (a b : Bool) → b ≡ true → (a || b) ≡ true
or_right true b h = refl
or_right false b h = h

above_head : (x : ℕ) (xs : List ℕ) (k : ℕ) → IsStrictlySortedBy nat_cmp (x ∷ xs) → Contains xs k → x < k
above_head x xs k rises h =
    let less : nat_cmp x k ≡ Less = All-contains (λ k. nat_cmp x k ≡ Less) xs k (All-from_recursion (λ k. nat_cmp x k ≡ Less) xs (sorted_head nat_cmp x xs rises)) h in
    nat_less x k less

same_heads : (x y : ℕ) (xs ys : List ℕ) → IsStrictlySortedBy nat_cmp (x ∷ xs) → IsStrictlySortedBy nat_cmp (y ∷ ys) → ((k : ℕ) → Contains (x ∷ xs) k ↔ Contains (y ∷ ys) k) → x ≡ y
same_heads x y xs ys of_x of_y same =
    ⊎_elim (λ (one : x ≡ y). one)
    (λ (more : Contains ys x). let low = above_head y ys x of_y more in
    ⊎_elim (λ (one : y ≡ x). sym one)
    (λ (other : Contains xs y). let high = above_head x xs y of_x other in absurd (omega arith))
    (has_cases x xs y ((same y).1 (has_first y ys))))
    (has_cases y ys x ((same x).0 (has_first x xs)))

rest_of : (x y : ℕ) (xs ys : List ℕ) (k : ℕ) → x ≡ y → IsStrictlySortedBy nat_cmp (x ∷ xs) → (Contains (x ∷ xs) k → Contains (y ∷ ys) k) → Contains xs k → Contains ys k
rest_of x y xs ys k one of_x there h =
    let low = above_head x xs k of_x h in
    ⊎_elim (λ (first : k ≡ y). absurd (omega arith)) (λ (rest : Contains ys k). rest) (has_cases y ys k (there (has_rest x xs k h)))

pub same_rising : (xs ys : List ℕ) → IsStrictlySortedBy nat_cmp xs → IsStrictlySortedBy nat_cmp ys → ((k : ℕ) → Contains xs k ↔ Contains ys k) → xs ≡ ys
same_rising [] [] of_xs of_ys same = refl
same_rising [] (y ∷ ys) of_xs of_ys same = absurd (in_none y ((same y).1 (has_first y ys)))
same_rising (x ∷ xs) [] of_xs of_ys same = absurd (in_none x ((same x).0 (has_first x xs)))
same_rising (x ∷ xs) (y ∷ ys) of_xs of_ys same =
    let one = same_heads x y xs ys of_xs of_ys same in
    let rest = same_rising xs ys (sorted_tail nat_cmp x xs of_xs) (sorted_tail nat_cmp y ys of_ys)
    (λ k. (rest_of x y xs ys k one of_xs (same k).0, rest_of y x ys xs k (sym one) of_ys (same k).1)) in
    ap (λ (k : ℕ). k ∷ xs) one ∙ ap (λ (ks : List ℕ). y ∷ ks) rest

pub range_rises : (a n : ℕ) → IsStrictlyIncreasing (range_with_len a n)
range_rises a n =
    let long = length-range_with_len a n in
    λ k within.
    let here = get_or-range_with_len a n k 0 (omega (arith, long)) in
    let there = get_or-range_with_len a n (k + 1) 0 (omega (arith, long)) in
    omega (arith, here, there)

-- ---- the numbers of several lists, sorted and each once

several_tell : {X : Type 0} (p : X → ℕ → Bool) (n : ℕ) (xs : List X) (k : ℕ) → Contains (flat_map (λ x. filter (p x) (range_with_len 0 n)) xs) k → (k < n) × (list_any (λ x. p x k) xs ≡ true)
several_tell p n [] k h = absurd (in_none k h)
several_tell p n (x ∷ xs) k h = ⊎_elim
    (λ (here : Contains (filter (p x) (range_with_len 0 n)) k).
    let tells = filter_tells (p x) 0 n k here in
    (omega (arith, tells.1), or_left (p x k) (list_any (λ x. p x k) xs) tells.2))
    (λ (there : Contains (flat_map (λ x. filter (p x) (range_with_len 0 n)) xs) k).
    let rest = several_tell p n xs k there in
    (rest.0, or_right (p x k) (list_any (λ x. p x k) xs) rest.1))
    (Contains-append_cases (filter (p x) (range_with_len 0 n)) (flat_map (λ x. filter (p x) (range_with_len 0 n)) xs) k h)

several_have : {X : Type 0} (p : X → ℕ → Bool) (n : ℕ) (xs : List X) (k : ℕ) → k < n → list_any (λ x. p x k) xs ≡ true → Contains (flat_map (λ x. filter (p x) (range_with_len 0 n)) xs) k
several_have p n [] k less h = absurd (true≢false (sym h))
several_have p n (x ∷ xs) k less h = ⊎_elim
    (λ (here : p x k ≡ true). Contains-append_left (filter (p x) (range_with_len 0 n)) (flat_map (λ x. filter (p x) (range_with_len 0 n)) xs) k (filter_has (p x) 0 n k (omega arith) (omega arith) here))
    (λ (there : list_any (λ x. p x k) xs ≡ true). Contains-append_right (filter (p x) (range_with_len 0 n)) (flat_map (λ x. filter (p x) (range_with_len 0 n)) xs) k (several_have p n xs k less there))
    (or_cases (p x k) (list_any (λ x. p x k) xs) h)

pub sorted_once : {X : Type 0} (p : X → ℕ → Bool) (n : ℕ) (xs : List X) (found moved : List ℕ) → found ≡ flat_map (λ x. filter (p x) (range_with_len 0 n)) xs → IsPermutation found moved → IsSorted nat_cmp moved →
    dedup eqb moved ≡ filter (λ k. list_any (λ x. p x k) xs) (range_with_len 0 n)
sorted_once p n xs found moved is same sorted =
    let any = λ (k : ℕ). list_any (λ x. p x k) xs in
    same_rising (dedup eqb moved) (filter any (range_with_len 0 n))
    (sorted_from_strictly_increasing (dedup eqb moved) (IsStrictlyIncreasing-dedup moved sorted))
    (sorted_from_strictly_increasing (filter any (range_with_len 0 n)) (IsStrictlyIncreasing-filter any (range_with_len 0 n) (range_rises 0 n)))
    (λ k. (
      λ (h : Contains (dedup eqb moved) k).
          let back : Contains found k = Contains-permutation moved found k (IsPermutation-sym found moved same) (Contains-from_dedup eqb moved k h) in
          let tells = several_tell p n xs k (subst (λ (ks : List ℕ). Contains ks k) is back) in
          filter_has any 0 n k (omega arith) (omega (arith, tells.0)) tells.1,
      λ (h : Contains (filter any (range_with_len 0 n)) k).
          let tells = filter_tells any 0 n k h in
          let there : Contains found k = subst (λ (ks : List ℕ). Contains ks k) (sym is) (several_have p n xs k (omega (arith, tells.1)) tells.2) in
          Contains-dedup_nat moved k (Contains-permutation found moved k same there),
    ))
