-- Lists in which each item stands before all later ones, by any relation.
use Rattle.std.proofs.Common.{◌≡◌, ◌<◌, ◌≤◌, ◌+◌, ⊎_elim, ℕ, zero, suc, Bool, true, false, cond, List, [], ◌∷◌, ◌++◌, map, get_or, refl, ap, subst, arith}
use Rattle.std.specs.Prelude.{AllPairs, Contains, filter}
use Rattle.std.specs.List.{AllByRecursion, flat_map, range_with_len, enumerate_from}
use Rattle.std.specs.List.Sorted.{IsStrictlySortedBy}
use Rattle.std.specs.declared.cmp.Ordering.{Ordering}
use Rattle.std.specs.declared.cmp.Ordering.TheVariants.{Less}
use Rattle.std.proofs.lemmas.List.Elements.{Contains-append_cases, Contains-get_or}
use Rattle.rc_fixed.proofs.Members.{none_in, at_head, in_tail, head_or_tail, in_map, in_filter, in_flat_map}

abbrev pub Rises : {X : Type 0} → (X → X → Type 0) → List X → Type 0
Rises R [] = Unit {0}
Rises {X} R (x ∷ xs) = ((y : X) → Contains xs y → R x y) × Rises R xs

all_members : {X : Type 0} (P : X → Type 0) (xs : List X) → ((x : X) → Contains xs x → P x) → AllByRecursion P xs
all_members P [] h = tt
all_members P (x ∷ xs) h = (h x (at_head x xs x refl), all_members P xs (λ y there. h y (in_tail x xs y there)))

-- in an order that tells, they are strictly sorted
pub sorted_from_rises : {X : Type 0} (R : X → X → Ordering) (xs : List X) → Rises (λ x y. R x y ≡ Less) xs → IsStrictlySortedBy R xs
unfolding IsStrictlySortedBy
sorted_from_rises R [] h = tt
sorted_from_rises R (x ∷ xs) h = (all_members (λ y. R x y ≡ Less) xs h.0, sorted_from_rises R xs h.1)

pub rises_append : {X : Type 0} (R : X → X → Type 0) (xs ys : List X) → Rises R xs → Rises R ys → ((x y : X) → Contains xs x → Contains ys y → R x y) → Rises R (xs ++ ys)
rises_append R [] ys of_xs of_ys across = of_ys
rises_append R (x ∷ xs) ys of_xs of_ys across = (
  (λ y there. ⊎_elim (λ (near : Contains xs y). of_xs.0 y near) (λ (far : Contains ys y). across x y (at_head x xs x refl) far) (Contains-append_cases xs ys y there)),
  rises_append R xs ys of_xs.1 of_ys (λ z y in' there. across z y (in_tail x xs z in') there),
)

pub rises_map : {X Y : Type 0} (R : X → X → Type 0) (S : Y → Y → Type 0) (f : X → Y) → ((x y : X) → R x y → S (f x) (f y)) → (xs : List X) → Rises R xs → Rises S (map f xs)
rises_map R S f keeps [] h = tt
rises_map {X} {Y} R S f keeps (x ∷ xs) h = (
  (λ y there. let found = in_map f xs y there in subst (S (f x)) found.2 (keeps x found.0 (h.0 found.0 found.1))),
  rises_map R S f keeps xs h.1,
)

pub rises_filter : {X : Type 0} (R : X → X → Type 0) (p : X → Bool) (xs : List X) → Rises R xs → Rises R (filter p xs)
rises_filter R p [] h = tt
rises_filter R p (x ∷ xs) h = elim (p x) as (λ b. Rises R (cond b (x ∷ filter p xs) (filter p xs))) [
  | true ↦ ((λ y there. h.0 y (in_filter p xs y there).0), rises_filter R p xs h.1)
  | false ↦ rises_filter R p xs h.1
]

-- lists one after another, each below those behind it
pub rises_flat_map :
    {X Y : Type 0} (R : X → X → Type 0) (S : Y → Y → Type 0) (f : X → List Y) → ((x : X) → Rises S (f x)) → ((x y : X) (a b : Y) → R x y → Contains (f x) a → Contains (f y) b → S a b)
    → (xs : List X) → Rises R xs → Rises S (flat_map f xs)
rises_flat_map R S f each across [] h = tt
rises_flat_map R S f each across (x ∷ xs) h =
    rises_append S (f x) (flat_map f xs) (each x) (rises_flat_map R S f each across xs h.1)
    (λ a b in' there. let found = in_flat_map f xs b there in across x found.0 a b (h.0 found.0 found.1) in' found.2)

-- ---- numbers

range_above : (from n k : ℕ) → Contains (range_with_len from n) k → from ≤ k
range_above from zero k h = absurd (none_in k h)
range_above from (suc n) k h = ⊎_elim (λ (here : from ≡ k). omega (arith, here)) (λ there. let more = range_above (from + 1) n k there in omega (arith, more)) (head_or_tail from (range_with_len (from + 1) n) k h)

pub range_rises : (from n : ℕ) → Rises (λ a b. a < b) (range_with_len from n)
range_rises from zero = tt
range_rises from (suc n) = ((λ k there. let above = range_above (from + 1) n k there in omega (arith, above)), range_rises (from + 1) n)

pub numbers_above : {X : Type 0} (from : ℕ) (xs : List X) (n : ℕ × X) → Contains (enumerate_from from xs) n → from ≤ n.0
numbers_above from [] n h = absurd (none_in n h)
numbers_above {X} from (x ∷ xs) n h =
    ⊎_elim (λ (here : (from, x) ≡ n). let same : from ≡ n.0 = ap (λ (m : ℕ × X). m.0) here in omega (arith, same)) (λ there. let more = numbers_above (from + 1) xs n there in omega (arith, more))
    (head_or_tail (from, x) (enumerate_from (from + 1) xs) n h)

pub numbers_rise : {X : Type 0} (from : ℕ) (xs : List X) → Rises (λ (a b : ℕ × X). a.0 < b.0) (enumerate_from from xs)
numbers_rise from [] = tt
numbers_rise from (x ∷ xs) = ((λ n there. let above = numbers_above (from + 1) xs n there in omega (arith, above)), numbers_rise (from + 1) xs)

-- ---- by members

-- all pairs are in order, and so in any relation that members in order are in
pub pairs_of_rises : {X : Type 0} (R S : X → X → Type 0) (xs : List X) → Rises R xs → ((x y : X) → Contains xs x → Contains xs y → R x y → S x y) → AllPairs S xs
pairs_of_rises R S [] h gives i j d less within = absurd (omega (arith, within))
pairs_of_rises R S (x ∷ xs) h gives zero zero d less within = absurd (omega (arith, less))
pairs_of_rises R S (x ∷ xs) h gives (suc i) zero d less within = absurd (omega (arith, less))
pairs_of_rises R S (x ∷ xs) h gives zero (suc j) d less within =
    let there = Contains-get_or xs j d (omega (arith, within)) in
    gives x (get_or xs j d) (at_head x xs x refl) (in_tail x xs (get_or xs j d) there) (h.0 (get_or xs j d) there)
pairs_of_rises R S (x ∷ xs) h gives (suc i) (suc j) d less within =
    pairs_of_rises R S xs h.1 (λ y z in_y in_z. gives y z (in_tail x xs y in_y) (in_tail x xs z in_z)) i j d (omega (arith, less)) (omega (arith, within))

pub rises_of_pairs : {X : Type 0} (R : X → X → Type 0) (xs : List X) → AllPairs R xs → Rises R xs
rises_of_pairs R [] h = tt
rises_of_pairs R (x ∷ xs) h = (
  (λ y there. let lt = there.1 in subst (R x) there.2 (h 0 (suc there.0) y (omega arith) (omega (arith, lt)))),
  rises_of_pairs R xs (λ i j d less within. h (suc i) (suc j) d (omega (arith, less)) (omega (arith, within))),
)

pub rises_weaker : {X : Type 0} (R S : X → X → Type 0) (xs : List X) → ((x y : X) → Contains xs x → Contains xs y → R x y → S x y) → Rises R xs → Rises S xs
rises_weaker R S [] gives h = tt
rises_weaker R S (x ∷ xs) gives h = (
  (λ y there. gives x y (at_head x xs x refl) (in_tail x xs y there) (h.0 y there)),
  rises_weaker R S xs (λ y z in_y in_z. gives y z (in_tail x xs y in_y) (in_tail x xs z in_z)) h.1,
)

-- lists of members one after another
pub rises_flat_map_in :
    {X Y : Type 0} (R : X → X → Type 0) (S : Y → Y → Type 0) (f : X → List Y) (xs : List X) → ((x : X) → Contains xs x → Rises S (f x))
    → ((x y : X) (a b : Y) → Contains xs x → Contains xs y → R x y → Contains (f x) a → Contains (f y) b → S a b) → Rises R xs → Rises S (flat_map f xs)
rises_flat_map_in R S f [] each across h = tt
rises_flat_map_in R S f (x ∷ xs) each across h =
    rises_append S (f x) (flat_map f xs) (each x (at_head x xs x refl))
    (rises_flat_map_in R S f xs (λ y there. each y (in_tail x xs y there)) (λ y z a b in_y in_z less of_a of_b. across y z a b (in_tail x xs y in_y) (in_tail x xs z in_z) less of_a of_b) h.1)
    (λ a b in' there. let found = in_flat_map f xs b there in across x found.0 a b (at_head x xs x refl) (in_tail x xs found.0 found.1) (h.0 found.0 found.1) in' found.2)
