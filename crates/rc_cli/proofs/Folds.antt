-- A part of the work that is done for one item after another.
use Rattle.std.proofs.Common.{◌≡◌, ◌<◌, ◌+◌, ◌++◌, ◌∷◌, [], ℕ, List, length, take, drop, map, get_or, ap, ◌∙◌, refl, sym, subst}
use Rattle.std.specs.Prelude.{fold}
use Rattle.std.proofs.lemmas.Grind.{fold-append}
use Rattle.std.proofs.lemmas.List.{map-append, take-append-drop, drop_more, take_more}
use Rattle.rc_cli.specs.declared.stop.Stop.{Stop}
use Rattle.rc_cli.specs.declared.stop.Stop.TheVariants.{Refused, Fault, NoMemory}
use Rattle.rc_cli.specs.Outcome as course
use Rattle.rc_cli.specs.Outcome.{Texts, Course, Missing, Done, proceed}
use Rattle.rc_cli.specs.Answers.{Shelf, without}
use Rattle.rc_cli.specs.Work.{HasStopped}
use Rattle.rc_cli.proofs.Courses.{IsOrderly, orderly-proceed}

-- a step over the file of the next name
abbrev pub next : {A : Type 0} → (Texts → A → List ℕ → Course A) → Texts → Course A → List ℕ → Course A
next step texts c name = proceed c (λ v. step texts v name)

-- all steps
abbrev pub steps : {A : Type 0} → (Texts → A → List ℕ → Course A) → Texts → Course A → List (List ℕ) → Course A
steps step texts start names = fold (next step texts) start names

pub orderly-steps : {A : Type 0} (step : Texts → A → List ℕ → Course A) → ((v : A) (name : List ℕ) → IsOrderly (λ texts. step texts v name))
    → (names : List (List ℕ)) (start : Texts → Course A) → IsOrderly start → IsOrderly (λ texts. steps step texts (start texts) names)
orderly-steps step orderly [] start first = first
orderly-steps step orderly (name ∷ names) start first =
    orderly-steps step orderly names (λ texts. next step texts (start texts) name) (orderly-proceed start (λ texts v. step texts v name) first (λ v. orderly v name))

stays-missing : {A : Type 0} (step : Texts → A → List ℕ → Course A) (texts : Texts) (name : List ℕ) (names : List (List ℕ)) → steps step texts (Missing name) names ≡ Missing name
stays-missing step texts name [] = refl
stays-missing step texts name (n ∷ names) = stays-missing step texts name names

stays-refused : {A : Type 0} (step : Texts → A → List ℕ → Course A) (texts : Texts) (line : List ℕ) (names : List (List ℕ)) → steps step texts (course.Refused line) names ≡ course.Refused line
stays-refused step texts line [] = refl
stays-refused step texts line (n ∷ names) = stays-refused step texts line names

-- what stops at a name stops all
stops-within : {A : Type 0} (before after : Shelf) (names : List (List ℕ)) (step : Texts → A → List ℕ → Course A) (start : Course A) (front : List (List ℕ)) (name : List ℕ) (rest : List (List ℕ)) (why : Stop)
    → HasStopped before after names (λ texts. next step texts (steps step texts start front) name) why → HasStopped before after names (λ texts. steps step texts start (front ++ name ∷ rest)) why
stops-within before after names step start front name rest (Refused line) stopped = λ told.
    fold-append (next step before.texts) start front (name ∷ rest) ∙ ap (λ c. steps step before.texts c rest) (stopped told) ∙ stays-refused step before.texts line rest
stops-within before after names step start front name rest (Fault line) (file, is, has, rose, reached) = (
  file,
  is,
  has,
  rose,
  λ told.
      fold-append (next step (without file before.texts)) start front (name ∷ rest) ∙ ap (λ c. steps step (without file before.texts) c rest) (reached told) ∙ stays-missing step (without file before.texts) file rest,
)
stops-within before after names step start front name rest NoMemory stopped = tt

split : {B : Type 0} (all : List B) (i : ℕ) (x : B) → i < length all → x ≡ get_or all i x → all ≡ take i all ++ x ∷ drop (i + 1) all
split all i x lt is =
    sym (take-append-drop i all) ∙ ap (λ l. take i all ++ l) (drop_more all i x lt) ∙ ap (λ y. take i all ++ y ∷ drop (i + 1) all) (sym is)

split-names : {B : Type 0} (called : B → List ℕ) (all : List B) (i : ℕ) (x : B) → i < length all → x ≡ get_or all i x
    → map called all ≡ map called (take i all) ++ called x ∷ map called (drop (i + 1) all)
split-names called all i x lt is = ap (map called) (split all i x lt is) ∙ map-append called (take i all) (x ∷ drop (i + 1) all)

pub stops-at : {A B : Type 0} (before after : Shelf) (names : List (List ℕ)) (step : Texts → A → List ℕ → Course A) (start : Course A) (called : B → List ℕ) (all : List B) (i : ℕ) (x : B) (why : Stop)
    → i < length all → x ≡ get_or all i x
    → HasStopped before after names (λ texts. next step texts (steps step texts start (map called (take i all))) (called x)) why
    → HasStopped before after names (λ texts. steps step texts start (map called all)) why
stops-at before after names step start called all i x why lt is stopped =
    subst (λ (l : List (List ℕ)). HasStopped before after names (λ texts. steps step texts start l) why) (sym (split-names called all i x lt is))
    (stops-within before after names step start (map called (take i all)) (called x) (map called (drop (i + 1) all)) why stopped)

-- one more is done
pub done-next : {A B : Type 0} (step : Texts → A → List ℕ → Course A) (texts : Texts) (start : Course A) (called : B → List ℕ) (all : List B) (i : ℕ) (x : B) (v w : A)
    → i < length all → x ≡ get_or all i x → steps step texts start (map called (take i all)) ≡ Done v → step texts v (called x) ≡ Done w
    → steps step texts start (map called (take (i + 1) all)) ≡ Done w
done-next step texts start called all i x v w lt is done then =
    ap (λ l. steps step texts start (map called l)) (take_more all i x lt ∙ ap (λ y. take i all ++ y ∷ []) (sym is))
    ∙ ap (λ l. steps step texts start l) (map-append called (take i all) (x ∷ []))
    ∙ fold-append (next step texts) start (map called (take i all)) (called x ∷ [])
    ∙ ap (λ c. next step texts c (called x)) done ∙ then
