-- Lists that are strictly sorted, and their members.
use Rattle.std.proofs.Common.{◌≡◌, ◌<◌, ◌+◌, ◌⊎◌, inl, inr, ⊎_elim, ℕ, zero, suc, ℤ, ◌<ℤ◌, Bool, true, false, cond, List, [], ◌∷◌, map, length, get_or, refl, ap, sym, ◌∙◌, subst, arith}
use Rattle.std.specs.Prelude.{AllPairs, Contains, filter}
use Rattle.std.specs.List.{AllByRecursion, enumerate_from}
use Rattle.std.specs.List.Sorted.{IsStrictlySortedBy}
use Rattle.std.specs.Cmp.{IsTotalOrder}
use Rattle.std.specs.declared.cmp.Ordering.{Ordering}
use Rattle.std.specs.declared.cmp.Ordering.TheVariants.{Less, Equal, Greater}
use Rattle.std.specs.Ordering.{ordering_then, nat_cmp, int_cmp, on}
use Rattle.std.proofs.lemmas.Cmp.{tied_itself}
use Rattle.std.proofs.lemmas.Int.{ints}
use Rattle.std.proofs.lemmas.Bool.{true≢false}
use Rattle.std.proofs.lemmas.Bool.Decides.{nat_tests}
use Rattle.std.proofs.lemmas.List.Elements.{All-from_recursion, recursion_from_All, All-contains}
use Rattle.std.proofs.lemmas.Map.Keys.{Less-from_sorted}

-- ---- answers of comparisons

pub then_less : (o q : Ordering) → ordering_then o q ≡ Less → (o ≡ Less) ⊎ ((o ≡ Equal) × (q ≡ Less))
then_less Less q h = inl refl
then_less Equal q h = inr (refl, h)
then_less Greater q h = cc

pub nat_less : (a b : ℕ) → nat_cmp a b ≡ Less → a < b
nat_less a b h = grind (arith, nat_tests)

pub nat_equal : (a b : ℕ) → nat_cmp a b ≡ Equal → a ≡ b
nat_equal a b h = grind (arith, nat_tests)

pub int_less : (a b : ℤ) → int_cmp a b ≡ Less → a <ℤ b
int_less a b h = grind (arith, ints)

pub int_equal : (a b : ℤ) → int_cmp a b ≡ Equal → a ≡ b
int_equal a b h = grind (arith, ints)

pub nat_is_less : (a b : ℕ) → a < b → nat_cmp a b ≡ Less
nat_is_less a b h = grind (arith, nat_tests)

pub nat_is_equal : (a b : ℕ) → a ≡ b → nat_cmp a b ≡ Equal
nat_is_equal a b h = grind (arith, nat_tests)

pub int_is_less : (a b : ℤ) → a <ℤ b → int_cmp a b ≡ Less
int_is_less a b h = grind (arith, ints)

pub int_is_equal : (a b : ℤ) → a ≡ b → int_cmp a b ≡ Equal
int_is_equal a b h = grind (arith, ints)

-- ---- members

at_place : {X : Type 0} (y : X) (ys : List X) (x : X) (k : ℕ) → k < length (y ∷ ys) → get_or (y ∷ ys) k x ≡ x → (y ≡ x) ⊎ Contains ys x
at_place y ys x zero lt is = inl is
at_place y ys x (suc k) lt is = inr (k, omega (arith, lt), is)

pub contains_cases : {X : Type 0} (y : X) (ys : List X) (x : X) → Contains (y ∷ ys) x → (y ≡ x) ⊎ Contains ys x
contains_cases y ys x h = at_place y ys x h.0 h.1 h.2

pub contains_none : {X : Type 0} (x : X) → Contains [] x → ⊥
contains_none x h = omega (arith, h.1)

pub contains_first : {X : Type 0} (y : X) (ys : List X) (x : X) → y ≡ x → Contains (y ∷ ys) x
contains_first y ys x h = (0, omega arith, h)

pub contains_later : {X : Type 0} (y : X) (ys : List X) (x : X) → Contains ys x → Contains (y ∷ ys) x
contains_later y ys x h = (suc h.0, omega (arith, h.1), h.2)

pub contains_map : {X Y : Type 0} (f : X → Y) (xs : List X) (x : X) → Contains xs x → Contains (map f xs) (f x)
contains_map f [] x h = absurd (contains_none x h)
contains_map f (y ∷ ys) x h = ⊎_elim
    (λ here. contains_first (f y) (map f ys) (f x) (ap f here))
    (λ there. contains_later (f y) (map f ys) (f x) (contains_map f ys x there))
    (contains_cases y ys x h)

-- a member of a mapped list comes from one of the list
pub record IsImage {X Y : Type 0} (f : X → Y) (xs : List X) (y : Y) : Type 0 where
  pub element : X
  pub member : Contains xs element
  pub is : f element ≡ y

pub image_of : {X Y : Type 0} (f : X → Y) (xs : List X) (y : Y) → Contains (map f xs) y → IsImage f xs y
image_of f [] y h = absurd (contains_none y h)
image_of f (x ∷ xs) y h = ⊎_elim
    (λ here. record { element = x; member = contains_first x xs x refl; is = here })
    (λ there. let found = image_of f xs y there in record { element = found.element; member = contains_later x xs found.element found.member; is = found.is })
    (contains_cases (f x) (map f xs) y h)

pub filter_has : {X : Type 0} (p : X → Bool) (xs : List X) (x : X) → Contains xs x → p x ≡ true → Contains (filter p xs) x
filter_has p [] x h pass = absurd (contains_none x h)
filter_has p (y ∷ ys) x h pass = ⊎_elim
    (λ here. here_by here (p y) refl)
    (λ there. there_by (filter_has p ys x there pass) (p y))
    (contains_cases y ys x h)
  where
    here_by : y ≡ x → (b : Bool) → p y ≡ b → Contains (cond b (y ∷ filter p ys) (filter p ys)) x
    here_by here true is = contains_first y (filter p ys) x here
    here_by here false is = absurd (true≢false (sym pass ∙ (ap p (sym here) ∙ is)))

    there_by : Contains (filter p ys) x → (b : Bool) → Contains (cond b (y ∷ filter p ys) (filter p ys)) x
    there_by there true = contains_later y (filter p ys) x there
    there_by there false = there

pub filter_tells : {X : Type 0} (p : X → Bool) (xs : List X) (x : X) → Contains (filter p xs) x → Contains xs x × (p x ≡ true)
filter_tells p [] x h = absurd (contains_none x h)
filter_tells p (y ∷ ys) x h = by (λ there. filter_tells p ys x there) (p y) refl h
  where
    by : (Contains (filter p ys) x → Contains ys x × (p x ≡ true)) → (b : Bool) → p y ≡ b → Contains (cond b (y ∷ filter p ys) (filter p ys)) x → Contains (y ∷ ys) x × (p x ≡ true)
    by again true is h = ⊎_elim
        (λ here. (contains_first y ys x here, ap p (sym here) ∙ is))
        (λ there. let found = again there in (contains_later y ys x found.0, found.1))
        (contains_cases y (filter p ys) x h)
    by again false is h = let found = again h in (contains_later y ys x found.0, found.1)

-- ---- sorted lists

pub head_below : {K : Type 0} (R : K → K → Ordering) (x : K) (xs : List K) (y : K) → IsStrictlySortedBy R (x ∷ xs) → Contains xs y → R x y ≡ Less
unfolding IsStrictlySortedBy
head_below R x xs y h there = All-contains (λ y. R x y ≡ Less) xs y (All-from_recursion (λ y. R x y ≡ Less) xs h.0) there

pub tail_sorted : {K : Type 0} (R : K → K → Ordering) (x : K) (xs : List K) → IsStrictlySortedBy R (x ∷ xs) → IsStrictlySortedBy R xs
unfolding IsStrictlySortedBy
tail_sorted R x xs h = h.1

pub not_both : {K : Type 0} {R : K → K → Ordering} (o : IsTotalOrder R) (x y : K) → R x y ≡ Less → R y x ≡ Less → ⊥
not_both o x y h k = let flip = o.antisymm x y in cc

pub not_itself : {K : Type 0} {R : K → K → Ordering} (o : IsTotalOrder R) (x y : K) → R x y ≡ Less → x ≡ y → ⊥
not_itself {K} {R} o x y h is = let tie = tied_itself o x in let same : R x x ≡ Less = subst (λ (z : K). R x z ≡ Less) (sym is) h in cc

-- the same as each element before all later ones
pub pairs_from_sorted : {K : Type 0} (R : K → K → Ordering) (xs : List K) → IsStrictlySortedBy R xs → AllPairs (λ x y. R x y ≡ Less) xs
pairs_from_sorted R xs h = λ i j d less within. Less-from_sorted R xs i j d h less within

pub sorted_from_pairs : {K : Type 0} (R : K → K → Ordering) (xs : List K) → AllPairs (λ x y. R x y ≡ Less) xs → IsStrictlySortedBy R xs
unfolding IsStrictlySortedBy
sorted_from_pairs R [] h = tt
sorted_from_pairs R (x ∷ xs) h = (
  recursion_from_All (λ y. R x y ≡ Less) xs (λ k d lt. h 0 (suc k) d (omega arith) (omega (arith, lt))),
  sorted_from_pairs R xs (λ i j d less within. h (suc i) (suc j) d (omega (arith, less)) (omega (arith, within))),
)

-- two strictly sorted lists with the same members are one
pub same_sorted : {K : Type 0} {R : K → K → Ordering} (o : IsTotalOrder R) (xs ys : List K) → IsStrictlySortedBy R xs → IsStrictlySortedBy R ys →
    ((x : K) → Contains xs x → Contains ys x) → ((x : K) → Contains ys x → Contains xs x) → xs ≡ ys
same_sorted o [] [] h k there back = refl
same_sorted o [] (y ∷ ys) h k there back = absurd (contains_none y (back y (contains_first y ys y refl)))
same_sorted o (x ∷ xs) [] h k there back = absurd (contains_none x (there x (contains_first x xs x refl)))
same_sorted {K} {R} o (x ∷ xs) (y ∷ ys) h k there back =
    let same : x ≡ y = ⊎_elim
    (λ here. sym here)
    (λ later. ⊎_elim
    (λ here. here)
    (λ earlier. absurd (not_both o x y (head_below R x xs y h earlier) (head_below R y ys x k later)))
    (contains_cases x xs y (back y (contains_first y ys y refl))))
    (contains_cases y ys x (there x (contains_first x xs x refl))) in
    let rest : xs ≡ ys = same_sorted o xs ys (tail_sorted R x xs h) (tail_sorted R y ys k)
    (λ z in'. ⊎_elim (λ here. absurd (not_itself o x z (head_below R x xs z h in') (same ∙ here))) (λ later. later) (contains_cases y ys z (there z (contains_later x xs z in'))))
    (λ z in'. ⊎_elim (λ here. absurd (not_itself o y z (head_below R y ys z k in') (sym same ∙ here))) (λ later. later) (contains_cases x xs z (back z (contains_later y ys z in')))) in
    ap (λ z. z ∷ xs) same ∙ ap (λ zs. y ∷ zs) rest

-- a map that keeps the order of those that pass
all_map : {X Y : Type 0} (c : X → X → Ordering) (d : Y → Y → Ordering) (f : X → Y) (P : X → Type 0) → ((x y : X) → P x → P y → c x y ≡ Less → d (f x) (f y) ≡ Less) →
    (x : X) (xs : List X) → P x → AllByRecursion P xs → AllByRecursion (λ y. c x y ≡ Less) xs → AllByRecursion (λ z. d (f x) z ≡ Less) (map f xs)
all_map c d f P keeps x [] p all less = tt
all_map c d f P keeps x (y ∷ ys) p all less = (keeps x y p all.0 less.0, all_map c d f P keeps x ys p all.1 less.1)

pub sorted_map : {X Y : Type 0} (c : X → X → Ordering) (d : Y → Y → Ordering) (f : X → Y) (P : X → Type 0) → ((x y : X) → P x → P y → c x y ≡ Less → d (f x) (f y) ≡ Less) →
    (xs : List X) → AllByRecursion P xs → IsStrictlySortedBy c xs → IsStrictlySortedBy d (map f xs)
unfolding IsStrictlySortedBy
sorted_map c d f P keeps [] all h = tt
sorted_map c d f P keeps (x ∷ xs) all h = (all_map c d f P keeps x xs all.0 all.1 h.0, sorted_map c d f P keeps xs all.1 h.1)

-- numbered elements in the order of the elements
all_numbered : {K : Type 0} (c : K → K → Ordering) (x : K) (k : ℕ) (xs : List K) → AllByRecursion (λ y. c x y ≡ Less) xs → AllByRecursion (λ (y : ℕ × K). c x y.1 ≡ Less) (enumerate_from k xs)
all_numbered c x k [] h = tt
all_numbered c x k (y ∷ ys) h = (h.0, all_numbered c x (k + 1) ys h.1)

pub sorted_numbered : {K : Type 0} (c : K → K → Ordering) (k : ℕ) (xs : List K) → IsStrictlySortedBy c xs → IsStrictlySortedBy (on (λ (n : ℕ × K). n.1) c) (enumerate_from k xs)
unfolding IsStrictlySortedBy
sorted_numbered c k [] h = tt
sorted_numbered c k (x ∷ xs) h = (all_numbered c x (k + 1) xs h.0, sorted_numbered c (k + 1) xs h.1)
