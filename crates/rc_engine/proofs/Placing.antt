-- Setting the items at some places of a list, from the last one on.
use Rattle.std.proofs.Common.{◌≡◌, ◌<◌, ◌≤◌, ◌+◌, ⊎_elim, ℕ, List, [], ◌∷◌, ◌++◌, length, get_or, set, refl, ap, sym, subst, ◌∙◌, arith, length-set, length-append}
use Rattle.std.specs.Prelude.{All, Contains, Some, slice_get}
use Rattle.std.specs.List.Sorted.{IsStrictlyIncreasing}
use Rattle.std.proofs.lemmas.Bool.{cases_lt, cases_eq}
use Rattle.std.proofs.lemmas.List.{get_or-set_same, get_or-set_other, get_or_append_left, get_or_at, get_or_default}
use Rattle.std.proofs.lemmas.List.Kept.{AllPairs-from_increasing}
use Rattle.std.proofs.lemmas.Option.{slice_get-get_or, slice_get_past}

-- from place n on, the new items are set, and all others are as they were
pub record ArePut {X : Type 0} (list : List ℕ) (new : List X) (n : ℕ) (before after : List X) : Type 0 where
  pub long : length after ≡ length before
  pub set : (j : ℕ) (d : X) → n ≤ j → j < length list → get_or after (get_or list j 0) d ≡ get_or new j d
  pub kept : (k : ℕ) (d : X) → ((j : ℕ) → n ≤ j → j < length list → get_or list j 0 ≡ k → ⊥) → get_or after k d ≡ get_or before k d

-- those that are left are the first ones
abbrev pub AreFirst : {X : Type 0} → List X → List X → Type 0
AreFirst {X} new rest = (j : ℕ) (d : X) → j < length rest → get_or rest j d ≡ get_or new j d

pub none_put : {X : Type 0} (list : List ℕ) (new : List X) (n : ℕ) (before : List X) → length list ≤ n → ArePut list new n before before
none_put list new n before none = record {
  long = refl;
  set = λ j d low high. absurd (omega arith);
  kept = λ k d apart. refl;
}

pub rest_first : {X : Type 0} (new rest rest' : List X) (item : X) → AreFirst new rest → rest ≡ rest' ++ item ∷ [] → AreFirst new rest'
rest_first {X} new rest rest' item first is = λ j d less.
    sym (get_or_append_left rest' (item ∷ []) d j less)
    ∙ (ap (λ (ls : List X). get_or ls j d) (sym is)
    ∙ first j d (subst (λ (ls : List X). j < length ls) (sym is) (omega (arith, length-append rest' (item ∷ [])))))

pub put_more : {X : Type 0} (list : List ℕ) (new rest rest' before mid after : List X) (item : X) → IsStrictlyIncreasing list → All (λ k. k < length before) list → length rest ≤ length list → ArePut list new (length rest) before mid → AreFirst new rest → rest ≡ rest' ++ item ∷ [] → after ≡ set mid (get_or list (length rest') 0) item → ArePut list new (length rest') before after
put_more {X} list new rest rest' before mid after item rises range few so_far first is done =
    let n = length rest' in
    let at = get_or list n 0 in
    let long : length rest ≡ n + 1 = ap length is ∙ length-append rest' (item ∷ []) in
    let within : at < length mid = subst (λ (m : ℕ). at < m) (sym so_far.long) (range n 0 (omega arith)) in
    let last : (d : X) → get_or new n d ≡ item = λ d. sym (first n d (omega arith)) ∙ (ap (λ (ls : List X). get_or ls n d) is ∙ get_or_at rest' item [] d n (refl)) in
    record {
      long = ap length done ∙ (length-set mid at item ∙ so_far.long);
      set = λ j d low high. ap (λ (ls : List X). get_or ls (get_or list j 0) d) done ∙ ⊎_elim
          (λ (here : n ≡ j).
          ap (λ (i : ℕ). get_or (set mid at item) (get_or list i 0) d) (sym here)
          ∙ (get_or-set_same mid at item d within ∙ (sym (last d) ∙ ap (λ (i : ℕ). get_or new i d) here)))
          (λ (later : n ≡ j → ⊥).
          let above = AllPairs-from_increasing list rises n j 0 (omega arith) high in
          get_or-set_other mid at (get_or list j 0) item d (λ same. omega arith) ∙ so_far.set j d (omega arith) high)
          (cases_eq n j);
      kept = λ k d apart. ap (λ (ls : List X). get_or ls k d) done
          ∙ (get_or-set_other mid at k item d (λ same. apart n (omega arith) (omega arith) (sym same))
          ∙ so_far.kept k d (λ j low high. apart j (omega arith) high));
    }

-- ---- all of them

pub all_set : {X : Type 0} (d : X) (list : List ℕ) (new before after : List X) → ArePut list new 0 before after → All (λ k. k < length before) list → length new ≡ length list → (i : ℕ) → i < length list → slice_get after (get_or list i 0) ≡ slice_get new i
all_set {X} d list new before after put range count i within =
    let there : get_or list i 0 < length after = subst (λ (m : ℕ). get_or list i 0 < m) (sym put.long) (range i 0 within) in
    slice_get-get_or after (get_or list i 0) d there
    ∙ (ap Some (put.set i d (omega arith) within)
    ∙ sym (slice_get-get_or new i d (omega arith)))

pub all_kept : {X : Type 0} (d : X) (list : List ℕ) (new before after : List X) → ArePut list new 0 before after → (k : ℕ) → (Contains list k → ⊥) → slice_get after k ≡ slice_get before k
all_kept {X} d list new before after put k apart = ⊎_elim
    (λ (within : k < length before).
    slice_get-get_or after k d (omega (arith, put.long))
    ∙ (ap Some (put.kept k d (λ j _ high same. apart (j, high, get_or_default list j k 0 high ∙ same)))
    ∙ sym (slice_get-get_or before k d within)))
    (λ (past : length before ≤ k). slice_get_past after k (omega (arith, put.long)) ∙ sym (slice_get_past before k past))
    (cases_lt k (length before))

-- no list is left
pub put_whole : {X : Type 0} (list : List ℕ) (new rest before after : List X) → rest ≡ [] → ArePut list new (length rest) before after → ArePut list new 0 before after
put_whole {X} list new rest before after none put = subst (λ (n : ℕ). ArePut list new n before after) (ap length none) put
