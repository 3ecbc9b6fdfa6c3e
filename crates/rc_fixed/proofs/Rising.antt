-- Strictly sorted lists and their members, once for all crates.
use Rattle.std.proofs.Common.{◌≡◌, ◌+◌, ⊎_elim, ℕ, suc, List, [], ◌∷◌, map, refl, ap, sym, ◌∙◌, subst, arith}
use Rattle.std.specs.Prelude.{AllPairs, Contains}
use Rattle.std.specs.List.{AllByRecursion, enumerate_from}
use Rattle.std.specs.List.Sorted.{IsStrictlySortedBy}
use Rattle.std.specs.Cmp.{IsTotalOrder}
use Rattle.std.specs.declared.cmp.Ordering.{Ordering}
use Rattle.std.specs.declared.cmp.Ordering.TheVariants.{Less}
use Rattle.std.specs.Ordering.{on}
use Rattle.std.proofs.lemmas.Cmp.{tied_itself}
use Rattle.std.proofs.lemmas.List.Elements.{All-from_recursion, recursion_from_All, All-contains}
use Rattle.std.proofs.lemmas.Map.Keys.{Less-from_sorted}
use Rattle.rc_fixed.proofs.Members.{none_in, at_head, in_tail, head_or_tail}

pub head_below : {K : Type 0} (R : K → K → Ordering) (x : K) (xs : List K) (y : K) → IsStrictlySortedBy R (x ∷ xs) → Contains xs y → R x y ≡ Less
unfolding IsStrictlySortedBy
head_below R x xs y h there = All-contains (λ y. R x y ≡ Less) xs y (All-from_recursion (λ y. R x y ≡ Less) xs h.0) there

pub tail_sorted : {K : Type 0} (R : K → K → Ordering) (x : K) (xs : List K) → IsStrictlySortedBy R (x ∷ xs) → IsStrictlySortedBy R xs
unfolding IsStrictlySortedBy
tail_sorted R x xs h = h.1

not_both : {K : Type 0} {R : K → K → Ordering} (o : IsTotalOrder R) (x y : K) → R x y ≡ Less → R y x ≡ Less → ⊥
not_both o x y h k = let flip = o.antisymm x y in cc

not_itself : {K : Type 0} {R : K → K → Ordering} (o : IsTotalOrder R) (x y : K) → R x y ≡ Less → x ≡ y → ⊥
not_itself {K} {R} o x y h is = let tie = tied_itself o x in let same : R x x ≡ Less = subst (λ (z : K). R x z ≡ Less) (sym is) h in cc

-- the same as each element before all later ones
pub pairs_from_sorted : {K : Type 0} (R : K → K → Ordering) (xs : List K) → IsStrictlySortedBy R xs → AllPairs (λ x y. R x y ≡ Less) xs
pairs_from_sorted R xs h = λ i j d less within. Less-from_sorted R xs i j d h less within

pub sorted_from_pairs : {K : Type 0} (R : K → K → Ordering) (xs : List K) → AllPairs (λ x y. R x y ≡ Less) xs → IsStrictlySortedBy R xs
unfolding IsStrictlySortedBy
sorted_from_pairs R [] h = tt
sorted_from_pairs R (x ∷ xs) h = (
  recursion_from_All (λ y. R x y ≡ Less) xs (λ k d lt. h 0 (suc k) d (omega arith) (omega (arith, lt))),
  sorted_from_pairs R xs (λ i j d less within. h (suc i) (suc j) d (omega (arith, less)) (omega (arith, within))),
)

-- two strictly sorted lists with the same members are one
pub same_sorted : {K : Type 0} {R : K → K → Ordering} (o : IsTotalOrder R) (xs ys : List K) → IsStrictlySortedBy R xs → IsStrictlySortedBy R ys →
    ((x : K) → Contains xs x → Contains ys x) → ((x : K) → Contains ys x → Contains xs x) → xs ≡ ys
same_sorted o [] [] h k there back = refl
same_sorted o [] (y ∷ ys) h k there back = absurd (none_in y (back y (at_head y ys y refl)))
same_sorted o (x ∷ xs) [] h k there back = absurd (none_in x (there x (at_head x xs x refl)))
same_sorted {K} {R} o (x ∷ xs) (y ∷ ys) h k there back =
    let same : x ≡ y = ⊎_elim
    (λ here. sym here)
    (λ later. ⊎_elim
    (λ here. here)
    (λ earlier. absurd (not_both o x y (head_below R x xs y h earlier) (head_below R y ys x k later)))
    (head_or_tail x xs y (back y (at_head y ys y refl))))
    (head_or_tail y ys x (there x (at_head x xs x refl))) in
    let rest : xs ≡ ys = same_sorted o xs ys (tail_sorted R x xs h) (tail_sorted R y ys k)
    (λ z in'. ⊎_elim (λ here. absurd (not_itself o x z (head_below R x xs z h in') (same ∙ here))) (λ later. later) (head_or_tail y ys z (there z (in_tail x xs z in'))))
    (λ z in'. ⊎_elim (λ here. absurd (not_itself o y z (head_below R y ys z k in') (sym same ∙ here))) (λ later. later) (head_or_tail x xs z (back z (in_tail y ys z in')))) in
    ap (λ z. z ∷ xs) same ∙ ap (λ zs. y ∷ zs) rest

-- a map that keeps the order of those that pass
map_keeps_head : {X Y : Type 0} (c : X → X → Ordering) (d : Y → Y → Ordering) (f : X → Y) (P : X → Type 0) → ((x y : X) → P x → P y → c x y ≡ Less → d (f x) (f y) ≡ Less) →
    (x : X) (xs : List X) → P x → AllByRecursion P xs → AllByRecursion (λ y. c x y ≡ Less) xs → AllByRecursion (λ z. d (f x) z ≡ Less) (map f xs)
map_keeps_head c d f P keeps x [] p all less = tt
map_keeps_head c d f P keeps x (y ∷ ys) p all less = (keeps x y p all.0 less.0, map_keeps_head c d f P keeps x ys p all.1 less.1)

pub sorted_map : {X Y : Type 0} (c : X → X → Ordering) (d : Y → Y → Ordering) (f : X → Y) (P : X → Type 0) → ((x y : X) → P x → P y → c x y ≡ Less → d (f x) (f y) ≡ Less) →
    (xs : List X) → AllByRecursion P xs → IsStrictlySortedBy c xs → IsStrictlySortedBy d (map f xs)
unfolding IsStrictlySortedBy
sorted_map c d f P keeps [] all h = tt
sorted_map c d f P keeps (x ∷ xs) all h = (map_keeps_head c d f P keeps x xs all.0 all.1 h.0, sorted_map c d f P keeps xs all.1 h.1)

-- numbered elements in the order of the elements
numbers_keep_head : {K : Type 0} (c : K → K → Ordering) (x : K) (k : ℕ) (xs : List K) → AllByRecursion (λ y. c x y ≡ Less) xs → AllByRecursion (λ (y : ℕ × K). c x y.1 ≡ Less) (enumerate_from k xs)
numbers_keep_head c x k [] h = tt
numbers_keep_head c x k (y ∷ ys) h = (h.0, numbers_keep_head c x (k + 1) ys h.1)

pub sorted_numbered : {K : Type 0} (c : K → K → Ordering) (k : ℕ) (xs : List K) → IsStrictlySortedBy c xs → IsStrictlySortedBy (on (λ (n : ℕ × K). n.1) c) (enumerate_from k xs)
unfolding IsStrictlySortedBy
sorted_numbered c k [] h = tt
sorted_numbered c k (x ∷ xs) h = (numbers_keep_head c x (k + 1) xs h.0, sorted_numbered c (k + 1) xs h.1)
