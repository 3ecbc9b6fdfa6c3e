-- Lists of lists that are in order, and what is made of each pair of a list's elements.
use Rattle.std.proofs.Common.{◌≡◌, ◌<◌, ◌+◌, ⊎_elim, ℕ, Bool, true, false, cond, List, [], ◌∷◌, ◌++◌, refl, arith}
use Rattle.std.specs.Prelude.{Contains}
use Rattle.std.specs.List.{AllByRecursion, enumerate_from, flat_map}
use Rattle.std.specs.List.Sorted.{IsStrictlySortedBy}
use Rattle.std.specs.declared.cmp.Ordering.{Ordering}
use Rattle.std.specs.declared.cmp.Ordering.TheVariants.{Less}
use Rattle.std.specs.Ordering.{nat_cmp, on}
use Rattle.std.proofs.lemmas.List.Elements.{Contains-append_cases}
use Rattle.rc_nodes.proofs.Sorted.{nat_less, nat_is_less, contains_none, contains_cases, contains_first, contains_later, head_below, tail_sorted}
use Rattle.rc_nodes.proofs.Wired.{in_flat}

pub all_members : {Z : Type 0} (P : Z → Type 0) (xs : List Z) → ((x : Z) → Contains xs x → P x) → AllByRecursion P xs
all_members P [] h = tt
all_members P (x ∷ xs) h = (h x (contains_first x xs x refl), all_members P xs (λ y in'. h y (contains_later x xs y in')))

-- ---- in order

pub sorted_append : {Z : Type 0} (R : Z → Z → Ordering) (xs ys : List Z) → IsStrictlySortedBy R xs → IsStrictlySortedBy R ys → ((x y : Z) → Contains xs x → Contains ys y → R x y ≡ Less) → IsStrictlySortedBy R (xs ++ ys)
unfolding IsStrictlySortedBy
sorted_append R [] ys h k less = k
sorted_append R (x ∷ xs) ys h k less = (
  all_members (λ y. R x y ≡ Less) (xs ++ ys) (λ y in'. ⊎_elim
      (λ front. head_below R x xs y h front)
      (λ back. less x y (contains_first x xs x refl) back)
      (Contains-append_cases xs ys y in')),
  sorted_append R xs ys h.1 k (λ a b in_a in_b. less a b (contains_later x xs a in_a) in_b),
)

pub none_sorted : {Z : Type 0} (R : Z → Z → Ordering) → IsStrictlySortedBy R []
unfolding IsStrictlySortedBy
none_sorted R = tt

-- at most one element
pub one_sorted : {Z : Type 0} (R : Z → Z → Ordering) (b : Bool) (z : Z) → IsStrictlySortedBy R (cond b (z ∷ []) [])
unfolding IsStrictlySortedBy
one_sorted R true z = (tt, tt)
one_sorted R false z = tt

-- lists made of elements whose numbers rise, where what is made of a lower number is less
pub flat_sorted : {X Z : Type 0} (number : X → ℕ) (R : Z → Z → Ordering) (f : X → List Z) (xs : List X) → IsStrictlySortedBy (on number nat_cmp) xs → ((x : X) → IsStrictlySortedBy R (f x)) →
    ((x y : X) (z w : Z) → number x < number y → Contains (f x) z → Contains (f y) w → R z w ≡ Less) → IsStrictlySortedBy R (flat_map f xs)
flat_sorted number R f [] rise each less = none_sorted R
flat_sorted number R f (x ∷ xs) rise each less =
    sorted_append R (f x) (flat_map f xs) (each x) (flat_sorted number R f xs (tail_sorted (on number nat_cmp) x xs rise) each less)
    (λ z w in_z in_w.
    let found = in_flat f xs w in_w in
    less x found.element z w (nat_less (number x) (number found.element) (head_below (on number nat_cmp) x xs found.element rise found.member)) in_z found.inside)

-- ---- numbers

all_higher : {X : Type 0} (n m : ℕ) (xs : List X) → n < m → AllByRecursion (λ (y : ℕ × X). nat_cmp n y.0 ≡ Less) (enumerate_from m xs)
all_higher n m [] less = tt
all_higher n m (x ∷ xs) less = (nat_is_less n m less, all_higher n (m + 1) xs (omega (arith, less)))

pub numbers_rise : {X : Type 0} (m : ℕ) (xs : List X) → IsStrictlySortedBy (on (λ (x : ℕ × X). x.0) nat_cmp) (enumerate_from m xs)
unfolding IsStrictlySortedBy
numbers_rise m [] = tt
numbers_rise m (x ∷ xs) = (all_higher m (m + 1) xs (omega arith), numbers_rise (m + 1) xs)

-- ---- at most one element

pub only_one : {Z : Type 0} (b : Bool) (z w : Z) → Contains (cond b (z ∷ []) []) w → (b ≡ true) × (z ≡ w)
only_one true z w h = (refl, single z w h)
  where
    single : {Z : Type 0} (z w : Z) → Contains (z ∷ []) w → z ≡ w
    single z w h = ⊎_elim (λ here. here) (λ none. absurd (contains_none w none)) (contains_cases z [] w h)
only_one false z w h = absurd (contains_none w h)

pub the_one : {Z : Type 0} (b : Bool) (z : Z) → b ≡ true → Contains (cond b (z ∷ []) []) z
the_one true z h = contains_first z [] z refl
the_one false z h = cc
