-- What the words of a list stand for, by their places.
use Rattle.std.proofs.Common.{◌≡◌, ◌∙◌, ◌+◌, ℕ, suc, Bool, true, false, cond, List, [], ◌∷◌, length, refl, ap, sym, arith}
use Rattle.std.proofs.lemmas.Bool.Decides.{nat_tests}
use Rattle.std.specs.Prelude.{Option, Some, None, not, nat_lt, position, slice_get}
use Rattle.std.specs.List.{prefix_len, zip}
use Rattle.std.specs.Map.{lookup}

abbrev pub numbered : {K : Type 0} → List K → Option ℕ → Option K
numbered keys None = None
numbered keys (Some k) = slice_get keys k

none_there : {K : Type 0} (k : Option ℕ) → numbered {K = K} [] k ≡ None
none_there None = refl
none_there (Some k) = refl

moved_on : {K : Type 0} (key : K) (keys : List K) (b : Bool) (n : ℕ) → numbered keys (cond b (Some n) None) ≡ numbered (key ∷ keys) (cond b (Some (1 + n)) None)
moved_on key keys true n = let e : 1 + n ≡ suc n = omega arith in rw e refl
moved_on key keys false n = refl

-- the key of the first pair whose word passes is the one at the place of the first such word
pub lookup_is : {W K : Type 0} (p : W → Bool) (words : List W) (keys : List K) → lookup p (zip words keys) ≡ numbered keys (position p words)
lookup_is p [] keys = refl
lookup_is p (word ∷ words) [] = sym (none_there (position p (word ∷ words)))
lookup_is {W} {K} p (word ∷ words) (key ∷ keys) = by (p word) (lookup_is p words keys)
  where
    n : ℕ
    n = prefix_len (λ x. not (p x)) words

    by : (b : Bool) → lookup p (zip words keys) ≡ numbered keys (position p words)
        → cond b (Some key) (lookup p (zip words keys)) ≡ numbered (key ∷ keys) (cond (nat_lt (cond (not b) (1 + n) 0) (suc (length words))) (Some (cond (not b) (1 + n) 0)) None)
    by true same =
        let e : nat_lt 0 (suc (length words)) ≡ true = grind (arith, nat_tests) in
        rw e refl
    by false same =
        let e : nat_lt (1 + n) (suc (length words)) ≡ nat_lt n (length words) = grind (arith, nat_tests) in
        same ∙ moved_on key keys (nat_lt n (length words)) n ∙ ap (λ b. numbered (key ∷ keys) (cond b (Some (1 + n)) None)) (sym e)
