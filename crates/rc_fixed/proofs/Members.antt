-- What stands in a list, and in what is made of it by a filter or a map, once for all crates.
use Rattle.std.proofs.Common.{◌≡◌, ◌⊎◌, inl, inr, ⊎_elim, zero, suc, Bool, true, false, cond, List, [], ◌∷◌, ◌++◌, filter, map, Some, None, refl, sym, ap, ◌∙◌, subst, arith}
use Rattle.std.specs.Prelude.{Contains, find}
use Rattle.std.specs.List.{AllByRecursion, flat_map, list_all}
use Rattle.std.proofs.lemmas.List.Elements.{Contains-append_left, Contains-append_right, Contains-append_cases}
use Rattle.std.proofs.lemmas.Bool.{true≢false, and_parts, and_from}

-- ---- no item, the first, the others

pub none_in : {X : Type 0} (x : X) → Contains [] x → ⊥
none_in x has = omega (arith, has.1)

pub at_head : {X : Type 0} (y : X) (xs : List X) (x : X) → y ≡ x → Contains (y ∷ xs) x
at_head y xs x is = (0, omega arith, is)

pub in_tail : {X : Type 0} (y : X) (xs : List X) (x : X) → Contains xs x → Contains (y ∷ xs) x
in_tail y xs x (k, lt, is) = (suc k, omega arith, is)

pub head_or_tail : {X : Type 0} (y : X) (xs : List X) (x : X) → Contains (y ∷ xs) x → (y ≡ x) ⊎ Contains xs x
head_or_tail y xs x (zero, lt, is) = inl is
head_or_tail y xs x (suc k, lt, is) = inr (k, omega arith, is)

-- ---- what a filter keeps

kept_head : {X : Type 0} (b : Bool) (y x : X) (rest : List X) → b ≡ true → y ≡ x → Contains (cond b (y ∷ rest) rest) x
kept_head true y x rest h is = at_head y rest x is
kept_head false y x rest h is = absurd (true≢false (sym h))

kept_tail : {X : Type 0} (b : Bool) (y x : X) (rest : List X) → Contains rest x → Contains (cond b (y ∷ rest) rest) x
kept_tail true y x rest has = in_tail y rest x has
kept_tail false y x rest has = has

pub filter_has : {X : Type 0} (p : X → Bool) (xs : List X) (x : X) → Contains xs x → p x ≡ true → Contains (filter p xs) x
filter_has p [] x has passes = absurd (none_in x has)
filter_has p (y ∷ xs) x has passes = ⊎_elim
    (λ (here : y ≡ x). kept_head (p y) y x (filter p xs) (ap p here ∙ passes) here)
    (λ (there : Contains xs x). kept_tail (p y) y x (filter p xs) (filter_has p xs x there passes))
    (head_or_tail y xs x has)

was_kept : {X : Type 0} (p : X → Bool) (b : Bool) (y x : X) (xs rest : List X) → p y ≡ b → (Contains rest x → Contains xs x × (p x ≡ true)) → Contains (cond b (y ∷ rest) rest) x → Contains (y ∷ xs) x × (p x ≡ true)
was_kept p true y x xs rest is before has = ⊎_elim
    (λ (here : y ≡ x). (at_head y xs x here, sym (ap p here) ∙ is))
    (λ (there : Contains rest x). let old = before there in (in_tail y xs x old.0, old.1))
    (head_or_tail y rest x has)
was_kept p false y x xs rest is before has = let old = before has in (in_tail y xs x old.0, old.1)

pub in_filter : {X : Type 0} (p : X → Bool) (xs : List X) (x : X) → Contains (filter p xs) x → Contains xs x × (p x ≡ true)
in_filter p [] x has = absurd (none_in x has)
in_filter p (y ∷ xs) x has = was_kept p (p y) y x xs (filter p xs) refl (in_filter p xs x) has

-- ---- what a map makes

pub map_has : {X Y : Type 0} (f : X → Y) (xs : List X) (x : X) → Contains xs x → Contains (map f xs) (f x)
map_has f [] x has = absurd (none_in x has)
map_has f (y ∷ xs) x has = ⊎_elim
    (λ (here : y ≡ x). at_head (f y) (map f xs) (f x) (ap f here))
    (λ (there : Contains xs x). in_tail (f y) (map f xs) (f x) (map_has f xs x there))
    (head_or_tail y xs x has)

pub in_map : {X Y : Type 0} (f : X → Y) (xs : List X) (y : Y) → Contains (map f xs) y → (x : X) × Contains xs x × (f x ≡ y)
in_map f [] y has = absurd (none_in y has)
in_map f (x ∷ xs) y has = ⊎_elim
    (λ (here : f x ≡ y). (x, at_head x xs x refl, here))
    (λ (there : Contains (map f xs) y). let old = in_map f xs y there in (old.0, in_tail x xs old.0 old.1, old.2))
    (head_or_tail (f x) (map f xs) y has)

pub flat_map_has : {X Y : Type 0} (f : X → List Y) (xs : List X) (x : X) (y : Y) → Contains xs x → Contains (f x) y → Contains (flat_map f xs) y
flat_map_has f [] x y has at = absurd (none_in x has)
flat_map_has {X} {Y} f (z ∷ xs) x y has at = ⊎_elim
    (λ (here : z ≡ x). Contains-append_left (f z) (flat_map f xs) y (subst (λ (w : X). Contains (f w) y) (sym here) at))
    (λ (there : Contains xs x). Contains-append_right (f z) (flat_map f xs) y (flat_map_has f xs x y there at))
    (head_or_tail z xs x has)

pub in_flat_map : {X Y : Type 0} (f : X → List Y) (xs : List X) (y : Y) → Contains (flat_map f xs) y → (x : X) × Contains xs x × Contains (f x) y
in_flat_map f [] y has = absurd (none_in y has)
in_flat_map f (x ∷ xs) y has = ⊎_elim
    (λ (here : Contains (f x) y). (x, at_head x xs x refl, here))
    (λ (there : Contains (flat_map f xs) y). let old = in_flat_map f xs y there in (old.0, in_tail x xs old.0 old.1, old.2))
    (Contains-append_cases (f x) (flat_map f xs) y has)

-- ---- what all items pass

pub all_pass : {X : Type 0} (test : X → Bool) (xs : List X) (x : X) → list_all test xs ≡ true → Contains xs x → test x ≡ true
all_pass test [] x h has = absurd (none_in x has)
all_pass test (y ∷ xs) x h has =
    let both = and_parts (test y) (list_all test xs) h in
    ⊎_elim (λ (here : y ≡ x). sym (ap test here) ∙ both.0) (λ (there : Contains xs x). all_pass test xs x both.1 there) (head_or_tail y xs x has)

pub all_from : {X : Type 0} (test : X → Bool) (xs : List X) → ((x : X) → Contains xs x → test x ≡ true) → list_all test xs ≡ true
all_from test [] each = refl
all_from test (y ∷ xs) each = and_from (test y) (list_all test xs) (each y (at_head y xs y refl)) (all_from test xs (λ x has. each x (in_tail y xs x has)))

-- what `find` finds, where nothing or one thing passes
pub find_nothing : {X : Type 0} (test : X → Bool) (xs : List X) → ((x : X) → Contains xs x → ⊥) → None ≡ find test xs
find_nothing test [] none = refl
find_nothing test (y ∷ xs) none = absurd (none y (at_head y xs y refl))

only_at : {X : Type 0} (test : X → Bool) (y : X) (b : Bool) (xs : List X) (x : X) → test y ≡ b → (test y ≡ true → x ≡ y) → test x ≡ true → (y ≡ x) ⊎ (Some x ≡ find test xs) → Some x ≡ cond b (Some y) (find test xs)
only_at test y true xs x is only passes either = ap Some (only is)
only_at test y false xs x is only passes either = ⊎_elim
    (λ (here : y ≡ x). absurd (true≢false (sym passes ∙ (sym (ap test here) ∙ is))))
    (λ (there : Some x ≡ find test xs). there)
    either

pub find_only : {X : Type 0} (test : X → Bool) (xs : List X) (x : X) → Contains xs x → test x ≡ true → ((y : X) → Contains xs y → test y ≡ true → x ≡ y) → Some x ≡ find test xs
find_only test [] x has passes only = absurd (none_in x has)
find_only test (y ∷ xs) x has passes only =
    only_at test y (test y) xs x refl (λ h. only y (at_head y xs y refl) h) passes
    (⊎_elim (λ (here : y ≡ x). inl here)
    (λ (there : Contains xs x). inr (find_only test xs x there passes (λ z z_has z_passes. only z (in_tail y xs z z_has) z_passes)))
    (head_or_tail y xs x has))

-- ---- what holds of all items

pub all_append : {X : Type 0} (P : X → Type 0) (xs ys : List X) → AllByRecursion P xs → AllByRecursion P ys → AllByRecursion P (xs ++ ys)
all_append P [] ys all more = more
all_append P (x ∷ xs) ys all more = (all.0, all_append P xs ys all.1 more)

pub all_weaker : {X : Type 0} (P Q : X → Type 0) → ((x : X) → P x → Q x) → (xs : List X) → AllByRecursion P xs → AllByRecursion Q xs
all_weaker P Q step [] all = tt
all_weaker P Q step (x ∷ xs) all = (step x all.0, all_weaker P Q step xs all.1)

pub all_map : {X Y : Type 0} (P : X → Type 0) (Q : Y → Type 0) (f : X → Y) → ((x : X) → P x → Q (f x)) → (xs : List X) → AllByRecursion P xs → AllByRecursion Q (map f xs)
all_map P Q f step [] all = tt
all_map P Q f step (x ∷ xs) all = (step x all.0, all_map P Q f step xs all.1)
