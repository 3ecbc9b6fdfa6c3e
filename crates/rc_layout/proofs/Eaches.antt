-- The values of the items of a list.
use Rattle.std.proofs.Common.{◌≡◌, ℕ, ◌<◌, take, get_or, List, [], ◌∷◌, ◌++◌, length, map, refl, sym, ap, ◌∙◌, append_assoc}
use Rattle.std.specs.Prelude.{Ok, Err, Bool, true, false}
use Rattle.std.proofs.lemmas.Bool.{true≢false}
use Rattle.std.specs.List.{fold}
use Rattle.std.proofs.lemmas.List.{map_push, append-nil}
use Rattle.std.proofs.lemmas.List.Sums.{fold-append}
use Rattle.rc_keys.specs.declared.fault.Fault.{Fault}
use Rattle.rc_keys.specs.declared.fault.Fault.TheVariants.{Refused, NoMemory}
use Rattle.rc_keys.specs.declared.fault.Refusal.{Refusal}
use Rattle.rc_layout.proofs.Throughs.{through_refused}
use Rattle.rc_layout.specs.Refusals.{Linked, Links, Leaves, goes_on, through, adds, each, after, ◌>>=◌}

abbrev pub was_linked : {S : Type 0} → Linked S → Bool
was_linked (Ok a) = true
was_linked (Err r) = false

abbrev pub got : {S : Type 0} → S → Linked S → S
got d (Ok a) = a
got d (Err r) = d

pub ok_is : {S : Type 0} (a b : S) → ◌≡◌ {A = Linked S} (Ok a) (Ok b) → a ≡ b
ok_is a b e = ap (got a) e

-- what is refused stays refused
pub stuck : {S A : Type 0} (f : S → A → Linked S) (r : Refusal) (xs : List A) → fold (goes_on f) (Err r) xs ≡ Err r
stuck f r [] = refl
stuck f r (x ∷ xs) = stuck f r xs

-- one more item behind those that are done
pub through_next : {S A : Type 0} (f : S → A → Linked S) (s t : S) (q : Linked S) (xs : List A) (x : A) → through f s xs ≡ Ok t → f t x ≡ q → through f s (xs ++ x ∷ []) ≡ q
through_next f s t q xs x e g = fold-append (goes_on f) (Ok s) xs (x ∷ []) ∙ ap (λ r. goes_on f r x) e ∙ g

-- an item that is refused behind those that are done
pub through_broken : {S A : Type 0} (f : S → A → Linked S) (s t : S) (r : Refusal) (all xs : List A) (x : A) (rest : List A) → all ≡ xs ++ x ∷ rest → through f s xs ≡ Ok t → f t x ≡ Err r → through f s all ≡ Err r
through_broken f s t r all xs x rest split e g =
    ap (through f s) split ∙ fold-append (goes_on f) (Ok s) xs (x ∷ rest) ∙ ap (λ q. fold (goes_on f) (goes_on f q x) rest) e ∙ ap (λ q. fold (goes_on f) q rest) g ∙ stuck f r rest

pub links_broken : {S A : Type 0} (f : S → A → Linked S) (s t : S) (fault : Fault) (all xs : List A) (x : A) (rest : List A) → all ≡ xs ++ x ∷ rest → through f s xs ≡ Ok t → Links {A = S} (Err fault) (f t x) → Links {A = S} (Err fault) (through f s all)
links_broken f s t (Refused r) all xs x rest split e g = through_broken f s t r all xs x rest split e g
links_broken f s t NoMemory all xs x rest split e g = tt

pub leaves_broken : {S A : Type 0} (T : Type 0) (f : S → A → Linked S) (s t u v : S) (fault : Fault) (all xs : List A) (x : A) (rest : List A) → all ≡ xs ++ x ∷ rest → through f s xs ≡ Ok t → Leaves {T = T} (Err fault) u (f t x) → Leaves {T = T} (Err fault) v (through f s all)
leaves_broken T f s t u v (Refused r) all xs x rest split e g = through_broken f s t r all xs x rest split e g
leaves_broken T f s t u v NoMemory all xs x rest split e g = tt

-- the same of values that are listed
broken_value : {A B : Type 0} (f : A → Linked B) (done : List B) (r : Refusal) (x : A) → f x ≡ Err r → adds f done x ≡ Err r
broken_value f done r x e = ap (λ q. q >>= λ y. Ok (done ++ y ∷ [])) e

pub each_broken : {A B : Type 0} (f : A → Linked B) (done : List B) (fault : Fault) (all xs : List A) (x : A) (rest : List A) → all ≡ xs ++ x ∷ rest → each f xs ≡ Ok done → Links {A = B} (Err fault) (f x) → Links {A = List B} (Err fault) (each f all)
each_broken f done (Refused r) all xs x rest split e g = through_broken (adds f) [] done r all xs x rest split e (broken_value f done r x g)
each_broken f done NoMemory all xs x rest split e g = tt

-- the same of a place in the list
pub each_refused :
    {A B : Type 0} (f : A → Linked B) (done : List B) (fault : Fault) (xs : List A) (i : ℕ) (d : A) → i < length xs → each f (take i xs) ≡ Ok done → Links {A = B} (Err fault) (f (get_or xs i d)) → Links {A = List B} (Err fault) (each f xs)
each_refused f done (Refused r) xs i d within e g = through_refused (adds f) [] done r xs i d within e (broken_value f done r (get_or xs i d) g)
each_refused f done NoMemory xs i d within e g = tt

pub each_next : {A B : Type 0} (f : A → Linked B) (done : List B) (y : B) (xs : List A) (x : A) → each f xs ≡ Ok done → f x ≡ Ok y → each f (xs ++ x ∷ []) ≡ Ok (done ++ y ∷ [])
each_next f done y xs x e g = through_next (adds f) [] done (Ok (done ++ y ∷ [])) xs x e (ap (λ q. q >>= λ y. Ok (done ++ y ∷ [])) g)

-- ---- what g makes of each value is what it makes of all

abbrev pub mapped : {B C : Type 0} → (B → C) → Linked (List B) → Linked (List C)
mapped g (Ok ys) = Ok (map g ys)
mapped g (Err r) = Err r

through_after : {A B C : Type 0} (g : B → C) (f : A → Linked B) (done : List B) (xs : List A) → through (adds (after g f)) (map g done) xs ≡ mapped g (through (adds f) done xs)
through_after g f done [] = refl
through_after {A = A} {B = B} g f done (x ∷ xs) = by (f x) (λ d. through_after g f d xs)
  where
    by : (q : Linked B) → ((d : List B) → through (adds (after g f)) (map g d) xs ≡ mapped g (through (adds f) d xs)) → fold (goes_on (adds (after g f))) ((q >>= λ y. Ok (g y)) >>= λ z. Ok (map g done ++ z ∷ [])) xs ≡ mapped g (fold (goes_on (adds f)) (q >>= λ y. Ok (done ++ y ∷ [])) xs)
    by (Ok y) rest = ap (λ d. fold (goes_on (adds (after g f))) (Ok d) xs) (sym (map_push g done y)) ∙ rest (done ++ y ∷ [])
    by (Err r) rest = stuck (adds (after g f)) r xs ∙ ap (mapped g) (sym (stuck (adds f) r xs))

pub each_after : {A B C : Type 0} (g : B → C) (f : A → Linked B) (xs : List A) (ys : List C) (zs : Linked (List B)) → each (after g f) xs ≡ Ok ys → each f xs ≡ zs → Ok ys ≡ mapped g zs
each_after g f xs ys zs e h = sym e ∙ through_after g f [] xs ∙ ap (mapped g) h

unmapped : {B C : Type 0} (g : B → C) (m : Linked (List B)) (ys : List C) → mapped g m ≡ Ok ys → (zs : List B) × (m ≡ Ok zs) × (map g zs ≡ ys)
unmapped g (Ok zs) ys e = (zs, refl, ok_is (map g zs) ys e)
unmapped g (Err r) ys e = absurd (true≢false (ap was_linked (sym e)))

abbrev told : {A : Type 0} (B : Type 0) → Refusal → Linked A → Linked B
told B d (Ok a) = Err d
told B d (Err p) = Err p

refused_before : {B C : Type 0} (g : B → C) (m : Linked (List B)) (r : Refusal) → mapped g m ≡ Err r → m ≡ Err r
refused_before g (Ok zs) r e = absurd (true≢false (ap was_linked e))
refused_before {B = B} {C = C} g (Err q) r e = ap (λ (m : Linked (List C)). told (List B) r m) e

pub values_before : {A B C : Type 0} (g : B → C) (f : A → Linked B) (xs : List A) (ys : List C) → each (after g f) xs ≡ Ok ys → (zs : List B) × (each f xs ≡ Ok zs) × (map g zs ≡ ys)
values_before g f xs ys e = unmapped g (each f xs) ys (sym (through_after g f [] xs) ∙ e)

pub refusal_before : {A B C : Type 0} (g : B → C) (f : A → Linked B) (xs : List A) (r : Refusal) → each (after g f) xs ≡ Err r → each f xs ≡ Err r
refusal_before g f xs r e = refused_before g (each f xs) r (sym (through_after g f [] xs) ∙ e)

through_names : {A B : Type 0} (f : A → Linked B) (g : B → List ℕ) (h : A → List ℕ) → ((x : A) (y : B) → f x ≡ Ok y → g y ≡ h x) → (done : List B) (xs : List A) (ys : List B) → through (adds f) done xs ≡ Ok ys → map g ys ≡ map g done ++ map h xs
through_names f g h same done [] ys e = ap (map g) (sym (ok_is done ys e)) ∙ sym (append-nil (map g done))
through_names {A = A} {B = B} f g h same done (x ∷ xs) ys e = by (f x) refl e (λ d k. through_names f g h same d xs ys k)
  where
    by : (q : Linked B) → f x ≡ q → fold (goes_on (adds f)) (q >>= λ y. Ok (done ++ y ∷ [])) xs ≡ Ok ys
        → ((d : List B) → through (adds f) d xs ≡ Ok ys → map g ys ≡ map g d ++ map h xs) → map g ys ≡ map g done ++ h x ∷ map h xs
    by (Ok y) e k rest =
        rest (done ++ y ∷ []) k ∙ ap (λ l. l ++ map h xs) (map_push g done y) ∙ append_assoc (map g done) (g y ∷ []) (map h xs)
        ∙ ap (λ n. map g done ++ n ∷ map h xs) (same x y e)
    by (Err r) e k rest = absurd (true≢false (ap was_linked (sym k ∙ stuck (adds f) r xs)))

pub each_names : {A B : Type 0} (f : A → Linked B) (g : B → List ℕ) (h : A → List ℕ) → ((x : A) (y : B) → f x ≡ Ok y → g y ≡ h x) → (xs : List A) (ys : List B) → each f xs ≡ Ok ys → map g ys ≡ map h xs
each_names f g h same xs ys e = through_names f g h same [] xs ys e
