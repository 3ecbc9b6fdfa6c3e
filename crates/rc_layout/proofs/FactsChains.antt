-- What a chain of checks and values came to, where it came to a value; and what the steps along a list keep.
use Rattle.std.proofs.Common.{◌≡◌, ◌∙◌, Bool, true, false, List, [], ◌∷◌, ◌++◌, refl, sym, ap, subst}
use Rattle.std.proofs.lemmas.List.Elements.{All-head, All-tail, All-nil, All-push}
use Rattle.std.specs.Prelude.{All, Option, Some, None, Ok, Err}
use Rattle.std.specs.List.{fold}
use Rattle.rc_keys.specs.declared.fault.Refusal.{Refusal}
use Rattle.rc_layout.specs.Refusals.{Linked, there, unless, goes_on, through, adds, each, ◌>>=◌, ◌>>◌}

-- ---- a value and a refusal

pub not_ok : {A : Type 0} (r : Refusal) (a : A) → ◌≡◌ {A = Linked A} (Err r) (Ok a) → ⊥
not_ok r a e = cc

pub same_ok : {A : Type 0} (a b : A) → ◌≡◌ {A = Linked A} (Ok a) (Ok b) → a ≡ b
same_ok a b e = cc

pub bound : {A B : Type 0} (m : Linked A) (next : A → Linked B) (b : B) → (m >>= next) ≡ Ok b → (a : A) × (m ≡ Ok a) × (next a ≡ Ok b)
bound (Ok a) next b e = (a, refl, e)
bound (Err r) next b e = absurd (not_ok r b e)

pub passed : {B : Type 0} (test : Bool) (r : Refusal) (next : Linked B) (b : B) → (unless test r >> next) ≡ Ok b → (test ≡ true) × (next ≡ Ok b)
passed true r next b e = (refl, e)
passed false r next b e = absurd (not_ok r b e)

pub was_there : {A : Type 0} (r : Refusal) (o : Option A) (a : A) → there r o ≡ Ok a → o ≡ Some a
was_there r (Some x) a e = ap Some (same_ok x a e)
was_there r None a e = absurd (not_ok r a e)

-- ---- along a list

pub stays_refused : {S A : Type 0} (f : S → A → Linked S) (r : Refusal) (xs : List A) → fold (goes_on f) (Err r) xs ≡ Err r
stays_refused f r [] = refl
stays_refused f r (x ∷ xs) = stays_refused f r xs

goes :
    {S A : Type 0} (f : S → A → Linked S) (I : S → Type 0) (P : A → Type 0) → ((s t : S) (x : A) → I s → P x → f s x ≡ Ok t → I t)
    → (m : Linked S) (t : S) (xs : List A) → ((s : S) → m ≡ Ok s → I s) → All P xs → fold (goes_on f) m xs ≡ Ok t → I t
goes f I P step m t [] here all e = here t e
goes f I P step (Ok s) t (x ∷ xs) here all e =
    goes f I P step (f s x) t xs (λ u h. step s u x (here s refl) (All-head P x xs all) h) (All-tail P x xs all) e
goes f I P step (Err r) t (x ∷ xs) here all e = absurd (not_ok r t (sym (stays_refused f r xs) ∙ e))

-- what each step keeps, the whole list keeps
pub kept :
    {S A : Type 0} (f : S → A → Linked S) (I : S → Type 0) (P : A → Type 0) → ((s t : S) (x : A) → I s → P x → f s x ≡ Ok t → I t)
    → (s t : S) (xs : List A) → I s → All P xs → through f s xs ≡ Ok t → I t
kept {S} f I P step s t xs here all e = goes f I P step (Ok s) t xs (λ u h. subst I (same_ok s u h) here) all e

-- a property of the values, where each item has one
pub each_is :
    {A B : Type 0} (f : A → Linked B) (P : A → Type 0) (Q : B → Type 0) → ((x : A) (y : B) → P x → f x ≡ Ok y → Q y)
    → (xs : List A) (ys : List B) → All P xs → each f xs ≡ Ok ys → All Q ys
each_is {A} {B} f P Q step xs ys all e =
    kept (adds f) (λ (done : List B). All Q done) P next [] ys xs (All-nil Q) all e
  where
    next : (s t : List B) (x : A) → All Q s → P x → adds f s x ≡ Ok t → All Q t
    next s t x so_far here h =
        let (y, value, more) = bound (f x) (λ y. Ok (s ++ y ∷ [])) t h in
        subst (λ (ys : List B). All Q ys) (same_ok (s ++ y ∷ []) t more) (All-push Q s y so_far (step x y here value))
