-- Lists of nothing.
use Rattle.std.proofs.Common.{◌≡◌, ◌+◌, ℕ, zero, suc, List, [], ◌∷◌, ◌++◌, refl, ap, sym, arith}
use Rattle.std.specs.Prelude.{Option, None}
use Rattle.rc_rules.specs.Rows.{nothing}

one_more : {A : Type 0} (n : ℕ) → nothing {A = A} n ++ None ∷ [] ≡ nothing {A = A} (suc n)
one_more zero = refl
one_more {A} (suc n) = ap (λ (list : List (Option A)). None ∷ list) (one_more {A = A} n)

pub nothing_more : {A : Type 0} (n : ℕ) → nothing {A = A} (n + 1) ≡ nothing {A = A} n ++ None ∷ []
nothing_more {A} n = let e : n + 1 ≡ suc n = omega arith in rw e (sym (one_more {A = A} n))
