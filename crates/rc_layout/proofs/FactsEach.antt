-- A list of values: each item has its value, or the first that has none tells why.
use Rattle.std.proofs.Common.{◌≡◌, ◌∙◌, List, [], ◌∷◌, ◌++◌, append_assoc, refl, sym, ap, subst}
use Rattle.std.proofs.lemmas.List.{append-nil}
use Rattle.std.specs.Prelude.{Ok, Err}
use Rattle.std.specs.List.{fold}
use Rattle.rc_keys.specs.declared.fault.Refusal.{Refusal}
use Rattle.rc_layout.specs.Refusals.{Linked, goes_on, through, adds, each, ◌>>=◌}
use Rattle.rc_layout.specs.Values.{HaveValues, IsFirstRefusal, EachHasValue, EachIsRefused}
use Rattle.rc_layout.proofs.FactsChains.{not_ok, same_ok, stays_refused}

not_err : {A : Type 0} (r : Refusal) (a : A) → ◌≡◌ {A = Linked A} (Ok a) (Err r) → ⊥
not_err r a e = cc

same_err : {A : Type 0} (r s : Refusal) → ◌≡◌ {A = Linked A} (Err r) (Err s) → r ≡ s
same_err r s e = cc

-- ---- values

-- the values of the others, behind those before
abbrev Others : {A B : Type 0} → (A → Linked B) → List B → List A → List B → Type 0
Others {A} {B} f done xs zs = (ys : List B) × (zs ≡ done ++ ys) × HaveValues f xs ys

at_value :
    {A B : Type 0} (f : A → Linked B) (done : List B) (x : A) (xs : List A) (zs : List B) (m : Linked B) → f x ≡ m
    → ((done : List B) → through (adds f) done xs ≡ Ok zs → Others f done xs zs) → fold (goes_on (adds f)) (m >>= λ y. Ok (done ++ y ∷ [])) xs ≡ Ok zs → Others f done (x ∷ xs) zs
at_value f done x xs zs (Ok y) is others e =
    let rest = others (done ++ y ∷ []) e in
    (y ∷ rest.0, rest.1 ∙ append_assoc done (y ∷ []) rest.0, (is, rest.2))
at_value f done x xs zs (Err r) is others e = absurd (not_ok r zs (sym (stays_refused (adds f) r xs) ∙ e))

others_have : {A B : Type 0} (f : A → Linked B) (done : List B) (xs : List A) (zs : List B) → through (adds f) done xs ≡ Ok zs → Others f done xs zs
others_have f done [] zs e = ([], sym (append-nil done ∙ same_ok done zs e), tt)
others_have f done (x ∷ xs) zs e = at_value f done x xs zs (f x) refl (λ more h. others_have f more xs zs h) e

pub have_values : {A B : Type 0} (f : A → Linked B) (xs : List A) (ys : List B) → each f xs ≡ Ok ys → HaveValues f xs ys
have_values {A} {B} f xs ys e = let others = others_have f [] xs ys e in subst (λ (zs : List B). HaveValues f xs zs) (sym others.1) others.2

behind : {A B : Type 0} (f : A → Linked B) (done : List B) (xs : List A) (ys : List B) → HaveValues f xs ys → through (adds f) done xs ≡ Ok (done ++ ys)
behind f done [] [] have = ap Ok (sym (append-nil done))
behind f done [] (y ∷ ys) have = absurd have
behind f done (x ∷ xs) [] have = absurd have
behind f done (x ∷ xs) (y ∷ ys) have =
    rw have.0 (behind f (done ++ y ∷ []) xs ys have.1 ∙ ap Ok (append_assoc done (y ∷ []) ys))

pub each_has_value : (A B : Type 0) → EachHasValue A B
each_has_value A B f xs ys = (have_values f xs ys, λ have. behind f [] xs ys have)

-- ---- refusals

first_refused :
    {A B : Type 0} (f : A → Linked B) (done : List B) (x : A) (xs : List A) (r : Refusal) (m : Linked B) → f x ≡ m
    → ((done : List B) → through (adds f) done xs ≡ Err r → IsFirstRefusal f xs r) → fold (goes_on (adds f)) (m >>= λ y. Ok (done ++ y ∷ [])) xs ≡ Err r → IsFirstRefusal f (x ∷ xs) r
first_refused {A} {B} f done x xs r (Ok y) is others e =
    let rest = others (done ++ y ∷ []) e in
    record { before = x ∷ rest.before; item = rest.item; behind = rest.behind; values = y ∷ rest.values; list = ap (λ (l : List A). x ∷ l) rest.list; have = (is, rest.have); refused = rest.refused }
first_refused {A} {B} f done x xs r (Err s) is others e =
    let same : s ≡ r = same_err {A = List B} s r (sym (stays_refused (adds f) s xs) ∙ e) in
    record { before = []; item = x; behind = xs; values = []; list = refl; have = tt; refused = is ∙ ap Err same }

others_refused : {A B : Type 0} (f : A → Linked B) (done : List B) (xs : List A) (r : Refusal) → through (adds f) done xs ≡ Err r → IsFirstRefusal f xs r
others_refused f done [] r e = absurd (not_err r done e)
others_refused f done (x ∷ xs) r e = first_refused f done x xs r (f x) refl (λ more h. others_refused f more xs r h) e

refused_behind :
    {A B : Type 0} (f : A → Linked B) (done : List B) (before : List A) (values : List B) (x : A) (rest : List A) (r : Refusal) → HaveValues f before values → f x ≡ Err r → through (adds f) done (before ++ x ∷ rest) ≡ Err r
refused_behind {A} {B} f done [] [] x rest r have refused =
    ap (λ (m : Linked B). fold (goes_on (adds f)) (m >>= λ y. Ok (done ++ y ∷ [])) rest) refused ∙ stays_refused (adds f) r rest
refused_behind f done [] (y ∷ values) x rest r have refused = absurd have
refused_behind f done (z ∷ before) [] x rest r have refused = absurd have
refused_behind {A} {B} f done (z ∷ before) (y ∷ values) x rest r have refused =
    ap (λ (m : Linked B). fold (goes_on (adds f)) (m >>= λ y. Ok (done ++ y ∷ [])) (before ++ x ∷ rest)) have.0 ∙ refused_behind f (done ++ y ∷ []) before values x rest r have.1 refused

pub each_is_refused : (A B : Type 0) → EachIsRefused A B
each_is_refused A B f xs r = (others_refused f [] xs r, back)
  where
    back : IsFirstRefusal f xs r → each f xs ≡ Err r
    back first = subst (λ (l : List A). each f l ≡ Err r) (sym first.list) (refused_behind f [] first.before first.values first.item first.behind r first.have first.refused)
