-- What is in a list, and counts over it.
use Rattle.std.proofs.Common.{◌≡◌, ◌∙◌, ℕ, ◌+◌, ◌≤◌, Bool, true, false, cond, List, [], ◌∷◌, ◌++◌, refl, ap, sym, inl, inr, arith}
use Rattle.std.specs.Prelude.{◌⊎◌, ◌&&◌, ◌||◌, sum_by, count_by, flat_map}
use Rattle.std.specs.List.{list_all, list_any, AllByRecursion}
use Rattle.std.proofs.lemmas.List.Sums.{sum_by-cons, sum_by-append}

abbrev pub In : {X : Type 0} → List X → X → Type 0
In [] x = ⊥
In (y ∷ ys) x = (y ≡ x) ⊎ In ys x

pub each : {X : Type 0} (P : X → Type 0) (xs : List X) → ((x : X) → In xs x → P x) → AllByRecursion P xs
each P [] all = tt
each P (x ∷ xs) all = (all x (inl refl), each P xs (λ y there. all y (inr there)))

pub of_each : {X : Type 0} (P : X → Type 0) (xs : List X) (x : X) → AllByRecursion P xs → In xs x → P x
of_each P [] x all there = absurd there
of_each P (y ∷ ys) x all (inl is) = rw (← is) all.0
of_each P (y ∷ ys) x all (inr there) = of_each P ys x all.1 there

-- ---- tests

first_of : (a b : Bool) → (a && b) ≡ true → a ≡ true
first_of true b is = refl
first_of false b is = absurd cc

second_of : (a b : Bool) → (a && b) ≡ true → b ≡ true
second_of true b is = is
second_of false b is = absurd cc

both : (a b : Bool) → a ≡ true → b ≡ true → (a && b) ≡ true
both a b first second = rw (first, second) refl

pub passes : {X : Type 0} (test : X → Bool) (xs : List X) (x : X) → list_all test xs ≡ true → In xs x → test x ≡ true
passes test [] x all there = absurd there
passes test (y ∷ ys) x all (inl is) = rw (← is) (first_of (test y) (list_all test ys) all)
passes test (y ∷ ys) x all (inr there) = passes test ys x (second_of (test y) (list_all test ys) all) there

pub all_pass : {X : Type 0} (test : X → Bool) (xs : List X) → ((x : X) → In xs x → test x ≡ true) → list_all test xs ≡ true
all_pass test [] each = refl
all_pass test (y ∷ ys) each = both (test y) (list_all test ys) (each y (inl refl)) (all_pass test ys (λ x there. each x (inr there)))

-- an element that passes
abbrev pub Passes : {X : Type 0} → (X → Bool) → List X → Type 0
Passes {X} test xs = (x : X) × In xs x × (test x ≡ true)

behind : {X : Type 0} (test : X → Bool) (y : X) (ys : List X) → Passes test ys → Passes test (y ∷ ys)
behind test y ys more = (more.0, inr more.1, more.2)

passes_by : {X : Type 0} (test : X → Bool) (y : X) (ys : List X) (b : Bool) → test y ≡ b → (list_any test ys ≡ true → Passes test ys) → (b || list_any test ys) ≡ true → Passes test (y ∷ ys)
passes_by test y ys true same again any = (y, inl refl, same)
passes_by test y ys false same again any = behind test y ys (again any)

pub some_passes : {X : Type 0} (test : X → Bool) (xs : List X) → list_any test xs ≡ true → Passes test xs
some_passes test [] is = absurd cc
some_passes test (y ∷ ys) is = passes_by test y ys (test y) refl (λ any. some_passes test ys any) is

or_true : (a b : Bool) → b ≡ true → (a || b) ≡ true
or_true true b is = refl
or_true false b is = is

pub any_passes : {X : Type 0} (test : X → Bool) (xs : List X) (x : X) → In xs x → test x ≡ true → list_any test xs ≡ true
any_passes test [] x there is = absurd there
any_passes test (y ∷ ys) x (inl same) is = rw (same, is) refl
any_passes test (y ∷ ys) x (inr there) is = or_true (test y) (list_any test ys) (any_passes test ys x there is)

-- ---- counts

abbrev pub bit : Bool → ℕ
bit b = cond b 1 0

pub bit_is : (b : Bool) → b ≡ true → bit b ≡ 1
bit_is b is = rw is refl

pub count_cons : {X : Type 0} (test : X → Bool) (x : X) (xs : List X) → count_by test (x ∷ xs) ≡ cond (test x) 1 0 + count_by test xs
count_cons test x xs = sum_by-cons (λ y. cond (test y) 1 0) x xs

counted_by : {X : Type 0} (test : X → Bool) (y : X) (ys : List X) (b : Bool) → test y ≡ b → (1 ≤ count_by test ys → Passes test ys) → 1 ≤ cond b 1 0 + count_by test ys → Passes test (y ∷ ys)
counted_by test y ys true same again many = (y, inl refl, same)
counted_by test y ys false same again many = behind test y ys (again (omega arith))

pub some_counted : {X : Type 0} (test : X → Bool) (xs : List X) → 1 ≤ count_by test xs → Passes test xs
some_counted test [] some = absurd (omega arith)
some_counted test (y ∷ ys) some = counted_by test y ys (test y) refl (λ many. some_counted test ys many) (rw (count_cons test y ys) at some)

pub part : {X : Type 0} (f : X → ℕ) (xs : List X) (x : X) → In xs x → f x ≤ sum_by f xs
part f [] x there = absurd there
part f (y ∷ ys) x (inl is) = let e : f y ≡ f x = ap f is in omega (arith, sum_by-cons f y ys)
part f (y ∷ ys) x (inr there) = omega (arith, sum_by-cons f y ys, part f ys x there)

pub counted : {X : Type 0} (test : X → Bool) (xs : List X) (x : X) → In xs x → test x ≡ true → 1 ≤ count_by test xs
counted test xs x there is = omega (arith, part (λ y. cond (test y) 1 0) xs x there, bit_is (test x) is)

pub none_sum : {X : Type 0} (f : X → ℕ) (xs : List X) → ((x : X) → In xs x → f x ≡ 0) → sum_by f xs ≡ 0
none_sum f [] none = refl
none_sum f (y ∷ ys) none = omega (arith, sum_by-cons f y ys, none y (inl refl), none_sum f ys (λ x there. none x (inr there)))

pub none_counted : {X : Type 0} (test : X → Bool) (xs : List X) → ((x : X) → In xs x → test x ≡ false) → count_by test xs ≡ 0
none_counted test xs none = none_sum (λ x. cond (test x) 1 0) xs (λ x there. rw (none x there) refl)

fewer_by : (a b : Bool) (m n : ℕ) → (a ≡ true → b ≡ true) → m ≤ n → cond a 1 0 + m ≤ cond b 1 0 + n
fewer_by true true m n to more = omega arith
fewer_by true false m n to more = absurd (let e : false ≡ true = to refl in cc)
fewer_by false true m n to more = omega arith
fewer_by false false m n to more = omega arith

pub fewer : {X : Type 0} (p q : X → Bool) (xs : List X) → ((x : X) → p x ≡ true → q x ≡ true) → count_by p xs ≤ count_by q xs
fewer p q [] only = omega arith
fewer p q (x ∷ xs) only = rw (count_cons p x xs, count_cons q x xs) (fewer_by (p x) (q x) (count_by p xs) (count_by q xs) (only x) (fewer p q xs only))

pub sum_flat : {X Y : Type 0} (f : Y → ℕ) (parts : X → List Y) (xs : List X) → sum_by f (flat_map parts xs) ≡ sum_by (λ x. sum_by f (parts x)) xs
sum_flat f parts [] = refl
sum_flat f parts (x ∷ xs) = sum_by-append f (parts x) (flat_map parts xs) ∙ ap (λ n. sum_by f (parts x) + n) (sum_flat f parts xs) ∙ sym (sum_by-cons (λ x. sum_by f (parts x)) x xs)

not_true : {X : Type 0} (test : X → Bool) (ys : List X) (z : X) (b : Bool) → count_by test ys ≡ 0 → In ys z → test z ≡ b → b ≡ false
not_true test ys z false none there is = refl
not_true test ys z true none there is = absurd (omega (arith, none, counted test ys z there is))

one_by : {X : Type 0} (f : X → ℕ) (y x : X) (ys : List X) (b : Bool) (n : ℕ) → 1 ≤ n → cond b 1 0 + n ≡ 1 → (b ≡ false → f y ≡ 0) → (n ≡ 1 → sum_by f ys ≡ f x) → sum_by f (y ∷ ys) ≡ f x
one_by f y x ys true n some one first again = absurd (omega arith)
one_by f y x ys false n some one first again = omega (arith, sum_by-cons f y ys, first refl, again (omega arith))

-- what is true of one alone is counted there alone
pub only_one : {X : Type 0} (test : X → Bool) (f : X → ℕ) (xs : List X) (x : X) → In xs x → test x ≡ true → count_by test xs ≡ 1 → ((y : X) → In xs y → test y ≡ false → f y ≡ 0) → sum_by f xs ≡ f x
only_one test f [] x there is one others = absurd there
only_one test f (y ∷ ys) x (inl same) is one others =
    let first : bit (test y) ≡ 1 = bit_is (test y) (ap test same ∙ is) in
    let left : count_by test ys ≡ 0 = omega (arith, first, count_cons test y ys, one) in
    let e : f y ≡ f x = ap f same in
    omega (arith, sum_by-cons f y ys, none_sum f ys (λ z there. others z (inr there) (not_true test ys z (test z) left there refl)))
only_one test f (y ∷ ys) x (inr there) is one others =
    one_by f y x ys (test y) (count_by test ys) (counted test ys x there is) (sym (count_cons test y ys) ∙ one) (λ no. others y (inl refl) no) (λ one. only_one test f ys x there is one (λ z in_ys not_z. others z (inr in_ys) not_z))

-- ---- lists out of lists

in_left : {X : Type 0} (xs ys : List X) (x : X) → In xs x → In (xs ++ ys) x
in_left [] ys x there = absurd there
in_left (z ∷ zs) ys x (inl is) = inl is
in_left (z ∷ zs) ys x (inr there) = inr (in_left zs ys x there)

in_right : {X : Type 0} (xs ys : List X) (x : X) → In ys x → In (xs ++ ys) x
in_right [] ys x there = there
in_right (z ∷ zs) ys x there = inr (in_right zs ys x there)

pub in_middle : {X : Type 0} (xs ys : List X) (x : X) → In (xs ++ x ∷ ys) x
in_middle xs ys x = in_right xs (x ∷ ys) x (inl refl)

past : {X : Type 0} (z : X) (zs ys : List X) (x : X) → In zs x ⊎ In ys x → In (z ∷ zs) x ⊎ In ys x
past z zs ys x (inl first) = inl (inr first)
past z zs ys x (inr second) = inr second

in_either : {X : Type 0} (xs ys : List X) (x : X) → In (xs ++ ys) x → In xs x ⊎ In ys x
in_either [] ys x there = inr there
in_either (z ∷ zs) ys x (inl is) = inl (inl is)
in_either (z ∷ zs) ys x (inr there) = past z zs ys x (in_either zs ys x there)

pub in_flat : {X Y : Type 0} (parts : X → List Y) (xs : List X) (x : X) (y : Y) → In xs x → In (parts x) y → In (flat_map parts xs) y
in_flat parts [] x y there inside = absurd there
in_flat parts (z ∷ zs) x y (inl is) inside = in_left (parts z) (flat_map parts zs) y (rw is inside)
in_flat parts (z ∷ zs) x y (inr there) inside = in_right (parts z) (flat_map parts zs) y (in_flat parts zs x y there inside)

-- the list that an element comes from
abbrev pub Home : {X Y : Type 0} → (X → List Y) → List X → Y → Type 0
Home {X} parts xs y = (x : X) × In xs x × In (parts x) y

home_by : {X Y : Type 0} (parts : X → List Y) (z : X) (zs : List X) (y : Y) → (In (flat_map parts zs) y → Home parts zs y) → In (parts z) y ⊎ In (flat_map parts zs) y → Home parts (z ∷ zs) y
home_by parts z zs y again (inl first) = (z, inl refl, first)
home_by parts z zs y again (inr second) = let more = again second in (more.0, inr more.1, more.2)

pub from_flat : {X Y : Type 0} (parts : X → List Y) (xs : List X) (y : Y) → In (flat_map parts xs) y → Home parts xs y
from_flat parts [] y there = absurd there
from_flat parts (z ∷ zs) y there = home_by parts z zs y (λ more. from_flat parts zs y more) (in_either (parts z) (flat_map parts zs) y there)
