-- The first place where two lists disagree.
use Rattle.std.proofs.Common.{◌≡◌, ◌≢◌, ℕ, zero, suc, ◌+◌, ◌<◌, ◌≤◌, min, Bool, true, false, List, [], ◌∷◌, length, map, Some, None, ap, sym, inl, inr, arith, refl}
use Rattle.std.specs.Prelude.{◌↔◌, IfSome, IsTrue, slice_get}
use Rattle.std.specs.Bool.{Decides}
use Rattle.std.proofs.lemmas.Option.{slice_get_past}
use Rattle.std.proofs.Math.Nat.{eq-or-lt_of_le}
use Rattle.std.proofs.lemmas.Bool.Decides.{leb_tells}
use Rattle.rc_cli.specs.Verdict.{first_apart, IsFirstApart}

fails : {P : Type 0} (test : Bool) → Decides test P → ¬ P → test ≡ false
fails true decides other = absurd (other (decides.0 refl))
fails false decides other = refl

-- a test of two items that tells whether they are seen as the same
abbrev pub Tells : {A B C : Type 0} → (A → B → Bool) → (A → C) → (B → C) → Type 0
Tells {A} {B} same f g = (x : A) (y : B) → Decides (same x y) (f x ≡ g y)

pub apart_at : {A B C : Type 0} (same : A → B → Bool) (f : A → C) (g : B → C) → Tells same f g → (xs : List A) (ys : List B) (place : ℕ) →
    IsFirstApart (map f xs) (map g ys) place → first_apart same xs ys ≡ Some place
apart_at same f g tells [] [] place is = absurd (is.1 refl)
apart_at same f g tells [] (y ∷ ys) zero is = refl
apart_at same f g tells [] (y ∷ ys) (suc place) is = absurd (let here : None ≡ Some (g y) = is.0 0 (omega arith) in cc)
apart_at same f g tells (x ∷ xs) [] zero is = refl
apart_at same f g tells (x ∷ xs) [] (suc place) is = absurd (let here : Some (f x) ≡ None = is.0 0 (omega arith) in cc)
apart_at same f g tells (x ∷ xs) (y ∷ ys) zero is =
    rw (fails (same x y) (tells x y) (λ alike. is.1 (ap (λ z. Some z) alike))) refl
apart_at same f g tells (x ∷ xs) (y ∷ ys) (suc place) is =
    let here : Some (f x) ≡ Some (g y) = is.0 0 (omega arith) in
    let alike : f x ≡ g y = cc in
    let more : place + 1 ≡ suc place = omega arith in
    let rest : first_apart same xs ys ≡ Some place = apart_at same f g tells xs ys place (λ k before. is.0 (suc k) (omega (arith, before)), is.1) in
    rw ((tells x y).1 alike, rest) (ap (λ n. Some n) more)

pub apart_nowhere : {A B C : Type 0} (same : A → B → Bool) (f : A → C) (g : B → C) → Tells same f g → (xs : List A) (ys : List B) →
    map f xs ≡ map g ys → first_apart same xs ys ≡ None
apart_nowhere same f g tells [] [] alike = refl
apart_nowhere same f g tells [] (y ∷ ys) alike = absurd cc
apart_nowhere same f g tells (x ∷ xs) [] alike = absurd cc
apart_nowhere same f g tells (x ∷ xs) (y ∷ ys) alike =
    let first : f x ≡ g y = cc in
    let others : map f xs ≡ map g ys = cc in
    rw ((tells x y).1 first, apart_nowhere same f g tells xs ys others) refl

-- up to a place two lists agree
abbrev pub AgreeBelow : {A : Type 0} → List A → List A → ℕ → Type 0
AgreeBelow xs ys place = (k : ℕ) → k < place → slice_get xs k ≡ slice_get ys k

pub agree_nowhere : {A : Type 0} (xs ys : List A) → AgreeBelow xs ys 0
agree_nowhere xs ys k below = absurd (omega (arith, below))

pub agree_all : {A : Type 0} (xs ys : List A) → length xs ≡ length ys → AgreeBelow xs ys (length xs) → xs ≡ ys
agree_all [] [] long agree = refl
agree_all [] (y ∷ ys) long agree = absurd (omega (arith, long))
agree_all (x ∷ xs) [] long agree = absurd (omega (arith, long))
agree_all (x ∷ xs) (y ∷ ys) long agree =
    let here : Some x ≡ Some y = agree 0 (omega arith) in
    let first : x ≡ y = cc in
    let others : xs ≡ ys = agree_all xs ys (omega (arith, long)) (λ k below. agree (suc k) (omega (arith, below))) in
    rw (first, others) refl

-- one list has ended and the other hasn't
pub ended : {A : Type 0} (xs ys : List A) (place : ℕ) → length xs ≤ place → place < length ys → slice_get xs place ≢ slice_get ys place
ended xs [] place end within = absurd (omega (arith, within))
ended xs (y ∷ ys) zero end within = λ same.
    let gone : slice_get xs 0 ≡ None = slice_get_past xs 0 end in cc
ended [] (y ∷ ys) (suc place) end within = ended [] ys place (omega arith) (omega (arith, within))
ended (x ∷ xs) (y ∷ ys) (suc place) end within = ended xs ys place (omega (arith, end)) (omega (arith, within))

pub one_ended : {A : Type 0} (xs ys : List A) (place : ℕ) → place ≡ min (length xs) (length ys) → length xs ≢ length ys → slice_get xs place ≢ slice_get ys place
one_ended xs ys place is other =
    elim (leb_tells (length xs) (length ys)) [
      | inl (test, short) ↦ (let strictly : length xs < length ys = elim (eq-or-lt_of_le short) [ inl same ↦ absurd (other same) | inr less ↦ less ] in
          ended xs ys place (omega (arith, is, short)) (omega (arith, is, strictly)))
      | inr (test, long) ↦ (λ same. ended ys xs place (omega (arith, is, long)) (omega (arith, is, long)) (sym same))
    ]

-- ---- a test at a place

pub seen_at : {A B C : Type 0} (f : A → C) (g : B → C) (xs : List A) (ys : List B) (place : ℕ) (result : Bool) → place < length xs → place < length ys →
    IfSome (slice_get xs place) (λ one. IfSome (slice_get ys place) (λ other. IsTrue result ↔ (f one ≡ g other))) →
    IsTrue result ↔ (slice_get (map f xs) place ≡ slice_get (map g ys) place)
seen_at f g [] ys place result first second tells = absurd (omega (arith, first))
seen_at f g (x ∷ xs) [] place result first second tells = absurd (omega (arith, second))
seen_at f g (x ∷ xs) (y ∷ ys) zero result first second tells = (λ true. ap (λ z. Some z) (tells.0 true), λ same. tells.1 cc)
seen_at f g (x ∷ xs) (y ∷ ys) (suc place) result first second tells =
    seen_at f g xs ys place result (omega (arith, first)) (omega (arith, second)) tells

pub agree_on : {A : Type 0} (xs ys : List A) (place : ℕ) (result : Bool) → AgreeBelow xs ys place →
    IsTrue result ↔ (slice_get xs place ≡ slice_get ys place) → result ≡ true → AgreeBelow xs ys (place + 1)
agree_on xs ys place result agree tells is k below =
    elim (eq-or-lt_of_le {n = k} {m = place} (omega (arith, below))) [ inl same ↦ rw same (tells.0 is) | inr less ↦ agree k less ]

pub apart_here : {A : Type 0} (xs ys : List A) (place : ℕ) (result : Bool) → AgreeBelow xs ys place →
    IsTrue result ↔ (slice_get xs place ≡ slice_get ys place) → result ≡ false → IsFirstApart xs ys place
apart_here xs ys place result agree tells is = (agree, λ same. let passes : result ≡ true = tells.1 same in cc)
