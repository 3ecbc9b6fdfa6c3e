-- Which tap of a rising list is nearest to a unit square.
use Rattle.std.proofs.Common.{◌≡◌, ◌≤◌, ◌<◌, ℕ, ℤ, pos, ◌+ℤ◌, ◌≤ℤ◌, ◌<ℤ◌, Bool, true, false, cond, List, [], ◌∷◌, map, refl, ap, ◌∙◌, arith}
use Rattle.std.specs.Prelude.{nat_lt}
use Rattle.std.specs.List.{best_of}
use Rattle.std.proofs.lemmas.Int.{ints}
use Rattle.std.proofs.lemmas.Bool.Decides.{nat_tests}
use Rattle.rc_geom.specs.Split.{middle, reach_to}
use Rattle.rc_geom.proofs.Midpoints.{half, nearer_low, nearer_high}
use Rattle.rc_nodes.specs.declared.line.Tap.{Tap}

-- a tap is nearer to the middle of a square than another
abbrev pub nearer : ℤ → Tap → Tap → Bool
nearer s a b = nat_lt (reach_to s a.along) (reach_to s b.along)

not_less : (a b : ℕ) → b ≤ a → nat_lt a b ≡ false
not_less a b h = grind (arith, nat_tests)

less : (a b : ℕ) → a < b → nat_lt a b ≡ true
less a b h = grind (arith, nat_tests)

-- the middle of two places lies behind the first and not behind the second, and moves with the second
pub middle_behind : (a b : ℤ) → a <ℤ b → a <ℤ middle a b
middle_behind a b h = let m = half (a +ℤ b +ℤ pos 1) in omega (arith, ints)

pub middle_before : (a b : ℤ) → a <ℤ b → middle a b ≤ℤ b
middle_before a b h = let m = half (a +ℤ b +ℤ pos 1) in omega (arith, ints)

middle_moves : (a b c : ℤ) → b <ℤ c → middle a b ≤ℤ middle a c
middle_moves a b c h =
    let m = half (a +ℤ b +ℤ pos 1) in
    let n = half (a +ℤ c +ℤ pos 1) in
    omega (arith, ints)

-- the taps rise, from one on
abbrev pub Rise : Tap → List Tap → Type 0
Rise tap [] = Unit {0}
Rise tap (next ∷ later) = (tap.along <ℤ next.along) × Rise next later

keeps : (s : ℤ) (first next : Tap) (later : List Tap) → first.along <ℤ next.along → s <ℤ middle first.along next.along →
    best_of (nearer s) first (next ∷ later) ≡ best_of (nearer s) first later
keeps s first next later order before =
    let stays : nearer s next first ≡ false = not_less (reach_to s next.along) (reach_to s first.along) (nearer_low first.along next.along s order before) in
    ap (λ b. best_of (nearer s) (cond b next first) later) stays

-- before the middle of the first two the first tap is nearest
pub first_stays : (s : ℤ) (first next : Tap) (later : List Tap) → first.along <ℤ next.along → s <ℤ middle first.along next.along → Rise next later →
    best_of (nearer s) first (next ∷ later) ≡ first
first_stays s first next [] order before rise = keeps s first next [] order before
first_stays s first next (third ∷ later) order before rise =
    let behind = rise.0 in
    let moved = middle_moves first.along next.along third.along behind in
    keeps s first next (third ∷ later) order before ∙ first_stays s first third later (omega (arith, ints)) (omega (arith, ints)) rise.1

-- from the middle on the second is nearer than the first
pub next_takes : (s : ℤ) (first next : Tap) (later : List Tap) → first.along <ℤ next.along → middle first.along next.along ≤ℤ s →
    best_of (nearer s) first (next ∷ later) ≡ best_of (nearer s) next later
next_takes s first next later order behind =
    let takes : nearer s next first ≡ true = less (reach_to s next.along) (reach_to s first.along) (nearer_high first.along next.along s order behind) in
    ap (λ b. best_of (nearer s) (cond b next first) later) takes

-- the best of a list, seen through a function
pub best_of-map : {A B : Type 0} (f : A → B) (beats : A → A → Bool) (than : B → B → Bool) → ((x y : A) → beats x y ≡ than (f x) (f y)) → (first : A) (others : List A) →
    f (best_of beats first others) ≡ best_of than (f first) (map f others)
best_of-map f beats than same first [] = refl
best_of-map {A} {B} f beats than same first (x ∷ others) =
    let one : f (cond (beats x first) x first) ≡ cond (than (f x) (f first)) (f x) (f first) = chosen (beats x first) ∙ ap (λ b. cond b (f x) (f first)) (same x first) in
    best_of-map f beats than same (cond (beats x first) x first) others ∙ ap (λ b. best_of than b (map f others)) one
  where
    chosen : (b : Bool) → f (cond b x first) ≡ cond b (f x) (f first)
    chosen true = refl
    chosen false = refl
