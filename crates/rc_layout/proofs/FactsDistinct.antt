-- Lists of different names.
use Rattle.std.proofs.Common.{◌≡◌, ◌≢◌, ◌∙◌, ⊎_elim, ℕ, zero, suc, List, [], ◌∷◌, ◌++◌, map, get_or, sym, ap, subst, arith}
use Rattle.std.proofs.lemmas.List.Elements.{Contains-append_left, Contains-append_right, Contains-append_cases, Contains-get_or}
use Rattle.std.specs.Prelude.{Contains}
use Rattle.std.specs.List.{AllPairs}
use Rattle.rc_fixed.proofs.Members.{none_in, at_head, in_tail, head_or_tail, map_has, in_map}
use Rattle.rc_def.specs.Sound.{NamesDiffer}

-- each item differs from all later ones
abbrev pub AreDistinct : {X : Type 0} → List X → Type 0
AreDistinct [] = Unit {0}
AreDistinct (x ∷ xs) = (Contains xs x → ⊥) × AreDistinct xs

-- ---- from pairs, and back

later : {X : Type 0} (R : X → X → Type 0) (x : X) (xs : List X) → AllPairs R (x ∷ xs) → AllPairs R xs
later R x xs all = λ i j d before within. all (suc i) (suc j) d (omega arith) (omega arith)

pub names_distinct : {T : Type 0} (called : T → List ℕ) (xs : List T) → NamesDiffer called xs → AreDistinct (map called xs)
names_distinct called [] differ = tt
names_distinct {T} called (x ∷ xs) differ = (first, names_distinct called xs (later (λ a b. called a ≢ called b) x xs differ))
  where
    first : Contains (map called xs) (called x) → ⊥
    first has =
        let (y, (k, within, is), same) = in_map called xs (called x) has in
        differ 0 (suc k) y (omega arith) (omega arith) (sym (ap called is ∙ same))

pub names_differ : {T : Type 0} (called : T → List ℕ) (xs : List T) → AreDistinct (map called xs) → NamesDiffer called xs
names_differ called [] distinct = λ i j d before within. absurd (omega (arith, within))
names_differ {T} called (x ∷ xs) distinct = by (names_differ called xs distinct.1)
  where
    by : NamesDiffer called xs → NamesDiffer called (x ∷ xs)
    by rest zero zero d before within = absurd (omega (arith, before))
    by rest zero (suc j) d before within = λ same.
        distinct.0 (subst (λ (n : List ℕ). Contains (map called xs) n) (sym same) (map_has called xs (get_or xs j d) (Contains-get_or xs j d (omega (arith, within)))))
    by rest (suc i) zero d before within = absurd (omega (arith, before))
    by rest (suc i) (suc j) d before within = rest i j d (omega (arith, before)) (omega (arith, within))

-- ---- two lists in one

-- one more behind a list, before others
pub insert_distinct : {X : Type 0} (xs : List X) (x : X) (ys : List X) → AreDistinct (xs ++ ys) → (Contains (xs ++ ys) x → ⊥) → AreDistinct ((xs ++ x ∷ []) ++ ys)
insert_distinct [] x ys are new = (new, are)
insert_distinct {X} (z ∷ xs) x ys are new = (other, insert_distinct xs x ys are.1 (λ has. new (in_tail z (xs ++ ys) x has)))
  where
    different : x ≡ z → ⊥
    different same = new (at_head z (xs ++ ys) x (sym same))

    other : Contains ((xs ++ x ∷ []) ++ ys) z → ⊥
    other has = ⊎_elim
        (λ (front : Contains (xs ++ x ∷ []) z). ⊎_elim
        (λ (old : Contains xs z). are.0 (Contains-append_left xs ys z old))
        (λ (one : Contains (x ∷ []) z). ⊎_elim (λ (here : x ≡ z). different here) (λ (none : Contains [] z). none_in z none) (head_or_tail x [] z one))
        (Contains-append_cases xs (x ∷ []) z front))
        (λ (back : Contains ys z). are.0 (Contains-append_right xs ys z back))
        (Contains-append_cases (xs ++ x ∷ []) ys z has)
