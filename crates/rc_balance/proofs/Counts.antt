-- Counts over lists that rise, and over what is made of lists.
use Rattle.std.proofs.Common.{◌≡◌, ◌∙◌, ◌+◌, ◌≤◌, Bool, true, false, cond, List, [], ◌∷◌, map, Option, Some, None, refl, ap, sym, subst, inl, inr, ⊎_elim, zero-add, arith}
use Rattle.std.specs.Prelude.{Contains, filter_map, count_by}
use Rattle.std.specs.List.{cons_option}
use Rattle.rc_fixed.proofs.Members.{none_in, at_head, in_tail, head_or_tail}
use Rattle.rc_spef.proofs.Members.{In, count_cons, none_counted}
use Rattle.rc_engine.proofs.Rises.{Rises}

-- ---- two words for one thing: what stands in a list

pub contained : {X : Type 0} (xs : List X) (x : X) → In xs x → Contains xs x
contained [] x there = absurd there
contained (y ∷ ys) x (inl is) = at_head y ys x is
contained (y ∷ ys) x (inr there) = in_tail y ys x (contained ys x there)

pub inside : {X : Type 0} (xs : List X) (x : X) → Contains xs x → In xs x
inside [] x has = absurd (none_in x has)
inside (y ∷ ys) x has = ⊎_elim (λ (here : y ≡ x). inl here) (λ (there : Contains ys x). inr (inside ys x there)) (head_or_tail y ys x has)

-- ---- lists that rise

is_false : (b : Bool) → (b ≡ true → ⊥) → b ≡ false
is_false true fails = absurd (fails refl)
is_false false fails = refl

few_by : {X : Type 0} (test : X → Bool) (x : X) (xs : List X) (b : Bool) → test x ≡ b → (test x ≡ true → count_by test xs ≡ 0) → count_by test xs ≤ 1 → cond b 1 0 + count_by test xs ≤ 1
few_by test x xs true is none most = omega (arith, none is)
few_by test x xs false is none most = omega (arith, most)

-- one item at most passes a test, where no two that pass it stand one before the other
pub few : {X : Type 0} (R : X → X → Type 0) (test : X → Bool) (xs : List X) → ((x y : X) → test x ≡ true → test y ≡ true → R x y → ⊥) → Rises R xs → count_by test xs ≤ 1
few R test [] apart h = omega arith
few R test (x ∷ xs) apart h =
    rw (count_cons test x xs)
    (few_by test x xs (test x) refl (λ passes. none_counted test xs (λ y there. is_false (test y) (λ too. apart x y passes too (h.0 y (contained xs y there))))) (few R test xs apart h.1))

-- two items of which none stands before the other are one
pub one_of : {X : Type 0} (R : X → X → Type 0) (xs : List X) (x y : X) → Rises R xs → (R x y → ⊥) → (R y x → ⊥) → Contains xs x → Contains xs y → x ≡ y
one_of R [] x y h first second of_x of_y = absurd (none_in x of_x)
one_of {X} R (z ∷ zs) x y h first second of_x of_y = ⊎_elim
    (λ (here : z ≡ x). ⊎_elim
    (λ (too : z ≡ y). sym here ∙ too)
    (λ (there : Contains zs y). absurd (first (subst (λ (w : X). R w y) here (h.0 y there))))
    (head_or_tail z zs y of_y))
    (λ (there : Contains zs x). ⊎_elim
    (λ (here : z ≡ y). absurd (second (subst (λ (w : X). R w x) here (h.0 x there))))
    (λ (too : Contains zs y). one_of R zs x y h.1 first second there too)
    (head_or_tail z zs y of_y))
    (head_or_tail z zs x of_x)

-- ---- what is made of lists

pub count_map : {X Y : Type 0} (f : X → Y) (test : Y → Bool) (xs : List X) → count_by test (map f xs) ≡ count_by (λ x. test (f x)) xs
count_map f test [] = refl
count_map f test (x ∷ xs) = count_cons test (f x) (map f xs) ∙ ap (λ n. cond (test (f x)) 1 0 + n) (count_map f test xs) ∙ sym (count_cons (λ x. test (f x)) x xs)

-- there is a value, and it passes
abbrev pub some_passes : {Y : Type 0} → (Y → Bool) → Option Y → Bool
some_passes test None = false
some_passes test (Some y) = test y

count_option : {Y : Type 0} (test : Y → Bool) (o : Option Y) (ys : List Y) → count_by test (cons_option o ys) ≡ cond (some_passes test o) 1 0 + count_by test ys
count_option test None ys = sym (zero-add (count_by test ys))
count_option test (Some y) ys = count_cons test y ys

pub count_filter_map : {X Y : Type 0} (h : X → Option Y) (test : Y → Bool) (xs : List X) → count_by test (filter_map h xs) ≡ count_by (λ x. some_passes test (h x)) xs
count_filter_map h test [] = refl
count_filter_map h test (x ∷ xs) =
    count_option test (h x) (filter_map h xs)
    ∙ ap (λ n. cond (some_passes test (h x)) 1 0 + n) (count_filter_map h test xs)
    ∙ sym (count_cons (λ x. some_passes test (h x)) x xs)

-- what a value comes from
abbrev pub Source : {X Y : Type 0} → (X → Option Y) → List X → Y → Type 0
Source {X} h xs y = (x : X) × In xs x × (h x ≡ Some y)

source_by : {X Y : Type 0} (h : X → Option Y) (x : X) (xs : List X) (y : Y) (o : Option Y) → h x ≡ o → (In (filter_map h xs) y → Source h xs y) → In (cons_option o (filter_map h xs)) y → Source h (x ∷ xs) y
source_by h x xs y None is again there = let more = again there in (more.0, inr more.1, more.2)
source_by h x xs y (Some z) is again (inl here) = (x, inl refl, is ∙ ap Some here)
source_by h x xs y (Some z) is again (inr there) = let more = again there in (more.0, inr more.1, more.2)

pub in_filter_map : {X Y : Type 0} (h : X → Option Y) (xs : List X) (y : Y) → In (filter_map h xs) y → Source h xs y
in_filter_map h [] y there = absurd there
in_filter_map h (x ∷ xs) y there = source_by h x xs y (h x) refl (λ more. in_filter_map h xs y more) there

behind : {Y : Type 0} (o : Option Y) (ys : List Y) (y : Y) → In ys y → In (cons_option o ys) y
behind None ys y there = there
behind (Some z) ys y there = inr there

pub filter_map_has : {X Y : Type 0} (h : X → Option Y) (xs : List X) (x : X) (y : Y) → In xs x → h x ≡ Some y → In (filter_map h xs) y
filter_map_has h [] x y there is = absurd there
filter_map_has {X} {Y} h (z ∷ zs) x y (inl here) is = subst (λ (o : Option Y). In (cons_option o (filter_map h zs)) y) (sym (ap h here ∙ is)) (inl refl)
filter_map_has h (z ∷ zs) x y (inr there) is = behind (h z) (filter_map h zs) y (filter_map_has h zs x y there is)
