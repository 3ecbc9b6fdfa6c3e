-- Lists that rise, and where a number stands among them.
use Rattle.std.proofs.Common.{◌≡◌, ◌∙◌, ◌≤◌, ◌<◌, ◌-◌, ℕ, zero, suc, Bool, true, false, List, [], ◌∷◌, ◌++◌, get_or, length, refl, arith}
use Rattle.std.proofs.lemmas.Bool.Decides.{nat_tests}
use Rattle.std.proofs.lemmas.Bool.{ltb-true, lt-ltb}
use Rattle.std.specs.Prelude.{◌&&◌, not, nat_lt, nat_le, Some, slice_get}
use Rattle.std.specs.List.{prefix_len, position_or_len}
use Rattle.std.specs.List.Sorted.{IsNonDecreasingBy, IsPartitionPoint}
use Rattle.rc_rules.specs.Scales.{rises, last_step}

both : (a b : Bool) → (a && b) ≡ true → (a ≡ true) × (b ≡ true)
both true b is = (refl, is)
both false b is = absurd cc

and_true : (a : Bool) → (a && true) ≡ a
and_true true = refl
and_true false = refl

-- a list goes on rising where its last number is less than the next one
pub goes_on : (xs : List ℕ) (x last : ℕ) → rises xs ≡ true → slice_get xs (length xs - 1) ≡ Some last → rises (xs ++ x ∷ []) ≡ nat_lt last x
goes_on [] x last up is = absurd cc
goes_on (a ∷ []) x last up is = let e : a ≡ last = cc in rw e (and_true (nat_lt last x))
goes_on (a ∷ b ∷ xs) x last up is =
    let h = both (nat_lt a b) (rises (b ∷ xs)) up in
    let e : length (a ∷ b ∷ xs) - 1 ≡ suc (length (b ∷ xs) - 1) = omega arith in
    rw h.0 (goes_on (b ∷ xs) x last h.1 (rw e at is))

-- a front of a list that rises rises
pub front_rises : (xs ys : List ℕ) → rises (xs ++ ys) ≡ true → rises xs ≡ true
front_rises [] ys up = refl
front_rises (a ∷ []) ys up = refl
front_rises (a ∷ b ∷ xs) ys up =
    let h = both (nat_lt a b) (rises (b ∷ xs ++ ys)) up in
    rw h.0 (front_rises (b ∷ xs) ys h.1)

rest_rises : (a : ℕ) (xs : List ℕ) → rises (a ∷ xs) ≡ true → rises xs ≡ true
rest_rises a [] up = refl
rest_rises a (b ∷ xs) up = (both (nat_lt a b) (rises (b ∷ xs)) up).1

-- the first is less than the others
first_least : (xs : List ℕ) (a k d : ℕ) → rises (a ∷ xs) ≡ true → k < length xs → a < get_or xs k d
first_least [] a k d up within = absurd (omega arith)
first_least (b ∷ xs) a zero d up within = ltb-true a b (both (nat_lt a b) (rises (b ∷ xs)) up).0
first_least (b ∷ xs) a (suc k) d up within =
    let h = both (nat_lt a b) (rises (b ∷ xs)) up in
    let first : a < b = ltb-true a b h.0 in
    let later : b < get_or xs k d = first_least xs b k d h.1 (omega arith) in
    omega (arith, first, later)

pub strict : (xs : List ℕ) (i j d : ℕ) → rises xs ≡ true → i < j → j < length xs → get_or xs i d < get_or xs j d
strict [] i j d up less within = absurd (omega arith)
strict (a ∷ xs) i zero d up less within = absurd (omega arith)
strict (a ∷ xs) zero (suc j) d up less within = first_least xs a j d up (omega arith)
strict (a ∷ xs) (suc i) (suc j) d up less within = strict xs i j d (rest_rises a xs up) (omega arith) (omega arith)

sorted_by : (xs : List ℕ) (i j d : ℕ) (b : Bool) → nat_lt i j ≡ b → rises xs ≡ true → i ≤ j → j < length xs → get_or xs i d ≤ get_or xs j d
sorted_by xs i j d true is up le within = let h = strict xs i j d up (ltb-true i j is) within in omega (arith, h)
sorted_by xs i j d false is up le within = let same : i ≡ j = grind (arith, nat_tests) in rw same (omega arith)

pub sorted : (xs : List ℕ) → rises xs ≡ true → IsNonDecreasingBy (λ x. x) xs
sorted xs up i j d le within = sorted_by xs i j d (nat_lt i j) refl up le within

-- ---- the first place at which a test fails

pub stops_at : {X : Type 0} (p : X → Bool) (xs : List X) (i : ℕ) → i ≤ length xs → ((k : ℕ) (d : X) → k < i → p (get_or xs k d) ≡ true) → ((d : X) → i < length xs → p (get_or xs i d) ≡ false) → prefix_len p xs ≡ i
stops_at p [] i within before at_ = omega arith
stops_at p (x ∷ xs) zero within before at_ = rw (at_ x (omega arith)) refl
stops_at p (x ∷ xs) (suc i) within before at_ =
    rw (before 0 x (omega arith)) (let e = stops_at p xs i (omega arith) (λ k d lt. before (suc k) d (omega arith)) (λ d lt. at_ d (omega arith)) in omega (arith, e))

not_least : (x step : ℕ) → not (nat_le x step) ≡ nat_lt step x
not_least x step = grind (arith, nat_tests)

-- the place that a partition of the list has
pub partition_place : (xs : List ℕ) (x i : ℕ) → i ≤ length xs → IsPartitionPoint (λ y. nat_lt y x ≡ true) (λ y. nat_lt y x ≡ false) xs i → position_or_len (λ step. nat_le x step) xs ≡ i
partition_place xs x i within point =
    stops_at (λ step. not (nat_le x step)) xs i within
    (λ k d lt. not_least x (get_or xs k d) ∙ point.0 k d (omega arith) lt)
    (λ d lt. not_least x (get_or xs i d) ∙ point.1 i d (omega arith) lt)

-- ---- past the last number, and at it

no_default : (zs : List ℕ) (j e : ℕ) → j < length zs → get_or zs j e ≡ get_or zs j 0
no_default [] j e lt = absurd (omega arith)
no_default (z ∷ zs) zero e lt = refl
no_default (z ∷ zs) (suc j) e lt = no_default zs j e (omega arith)

pub past_last : (xs : List ℕ) (x : ℕ) → rises xs ≡ true → last_step xs < x → position_or_len (λ step. nat_le x step) xs ≡ length xs
past_last xs x up less =
    stops_at (λ step. not (nat_le x step)) xs (length xs) (omega arith) (λ k d lt. not_least x (get_or xs k d) ∙ lt-ltb (get_or xs k d) x (small k d lt)) (λ d lt. absurd (omega arith))
  where
    small : (k d : ℕ) → k < length xs → get_or xs k d < x
    small k d lt =
        let h = sorted xs up k (length xs - 1) d (omega arith) (omega arith) in
        let same = no_default xs (length xs - 1) d (omega arith) in
        omega (arith, h, same)

pub at_last : (xs : List ℕ) → (xs ≡ [] → ⊥) → rises xs ≡ true → position_or_len (λ step. nat_le (last_step xs) step) xs ≡ length xs - 1
at_last [] some up = absurd (some refl)
at_last (a ∷ xs) some up =
    let e : length xs ≡ length (a ∷ xs) - 1 = omega arith in
    stops_at (λ step. not (nat_le (last_step (a ∷ xs)) step)) (a ∷ xs) (length xs) (omega arith) before
    (λ d lt. not_least (last_step (a ∷ xs)) (get_or (a ∷ xs) (length xs) d) ∙ at_ d) ∙ e
  where
    last_is : (d : ℕ) → get_or (a ∷ xs) (length xs) d ≡ last_step (a ∷ xs)
    last_is d = let e : suc (length xs) - 1 ≡ length xs = omega arith in rw e (no_default (a ∷ xs) (length xs) d (omega arith))

    before : (k d : ℕ) → k < length xs → not (nat_le (last_step (a ∷ xs)) (get_or (a ∷ xs) k d)) ≡ true
    before k d lt =
        let h = strict (a ∷ xs) k (length xs) d up lt (omega arith) in
        let e = last_is d in
        not_least (last_step (a ∷ xs)) (get_or (a ∷ xs) k d) ∙ lt-ltb (get_or (a ∷ xs) k d) (last_step (a ∷ xs)) (omega (arith, h, e))

    at_ : (d : ℕ) → nat_lt (get_or (a ∷ xs) (length xs) d) (last_step (a ∷ xs)) ≡ false
    at_ d = rw last_is (grind (arith, nat_tests))
