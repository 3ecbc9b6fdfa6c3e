-- Values in turn inside a statement, up to a token that ends them, where each list so far passes a test.
use Rattle.std.proofs.Common.{◌≡◌, ℕ, Bool, true, false, List, [], ◌∷◌, ◌++◌, refl, ap, append_assoc}
use Rattle.std.proofs.lemmas.List.{append-nil}
use Rattle.std.specs.Prelude.{map}
use Rattle.rc_keys.specs.Lexemes.{Lexeme}
use Rattle.rc_keys.specs.Course.{Turn, More, Rows}
use Rattle.rc_keys.specs.Statements.{at_line}
use Rattle.rc_keys.specs.Phrases.{Spells}
use Rattle.rc_keys.proofs.Phrasing.{On, Takes}

-- `Q xs` is the state that has read xs, and `E xs` what a token that ends them does
module _ {S A : Type 0} (rows : Rows S) (line : ℕ) (D C : S → List Lexeme → Type 0) (Is : A → Lexeme → Type 0) (ends : Lexeme → Bool) (fits : List A → Bool) (Q : List A → S) (E : List A → Lexeme → Turn S) where
  abbrev Then : List Lexeme → Turn S → Type 0
  Then words turn = On (λ s. Takes rows line D C s words) (λ s. D s words) (λ s. C s words) turn

  abbrev pub ReadsList : Type 0
  ReadsList = (xs : List A) (word : Lexeme) (words : List Lexeme) → ends word ≡ false → Then words (rows (Q xs) (at_line line word)) → (x : A) × Is x word × (fits (xs ++ x ∷ []) ≡ true) × Takes rows line D C (Q (xs ++ x ∷ [])) words

  abbrev pub ReadsListBack : Type 0
  ReadsListBack = (xs : List A) (word : Lexeme) (x : A) → Is x word → fits (xs ++ x ∷ []) ≡ true → rows (Q xs) (at_line line word) ≡ More (Q (xs ++ x ∷ []))

  abbrev pub EndsList : Type 0
  EndsList = (xs : List A) (word : Lexeme) → ends word ≡ true → rows (Q xs) (at_line line word) ≡ E xs (at_line line word)

  abbrev pub Listed : List A → List Lexeme → Type 0
  Listed xs words = (ys : List A) × (front : List Lexeme) × (last : Lexeme) × (rest : List Lexeme) × (words ≡ front ++ last ∷ rest) × Spells Is ys front × (ends last ≡ true) × (fits (xs ++ ys) ≡ true) × Then rest (E (xs ++ ys) (at_line line last))

  listed_by : EndsList → ReadsList → (xs : List A) (word : Lexeme) (words : List Lexeme) (b : Bool) → fits xs ≡ true → ends word ≡ b → ((ys : List A) → fits ys ≡ true → Takes rows line D C (Q ys) words → Listed ys words) → Then words (rows (Q xs) (at_line line word)) → Listed xs (word ∷ words)
  listed_by stops law xs word words true fit is again h = ([], [], word, words, refl, tt, is, rw (append-nil xs) fit, rw (append-nil xs) (rw (stops xs word is) at h))
  listed_by stops law xs word words false fit is again h =
      let e = law xs word words is h in
      let f = again (xs ++ e.0 ∷ []) e.2 e.3 in
      (e.0 ∷ f.0, word ∷ f.1, f.2, f.3, ap (λ ws. word ∷ ws) f.4, (e.1, f.5), f.6, rw (append_assoc xs (e.0 ∷ []) f.0) at f.7, rw (append_assoc xs (e.0 ∷ []) f.0) at f.8)

  pub listed : EndsList → ReadsList → (xs : List A) (words : List Lexeme) → fits xs ≡ true → Takes rows line D C (Q xs) words → Listed xs words
  listed stops law xs [] fit h = absurd h
  listed stops law xs (word ∷ words) fit h = listed_by stops law xs word words (ends word) fit refl (λ ys more t. listed stops law ys words more t) h

  -- and the other way round, where each front of a list that passes the test passes it
  pub listed_back : EndsList → ReadsListBack → ((xs ys : List A) → fits (xs ++ ys) ≡ true → fits xs ≡ true) → (xs ys : List A) (front : List Lexeme) (last : Lexeme) (rest : List Lexeme) → Spells Is ys front → ends last ≡ true → fits (xs ++ ys) ≡ true
      → Then rest (E (xs ++ ys) (at_line line last)) → Takes rows line D C (Q xs) (front ++ last ∷ rest)
  listed_back stops law fronts xs [] [] last rest says is fit h = rw (stops xs last is) (rw (append-nil xs) at h)
  listed_back stops law fronts xs [] (word ∷ front) last rest says is fit h = absurd says
  listed_back stops law fronts xs (y ∷ ys) [] last rest says is fit h = absurd says
  listed_back stops law fronts xs (y ∷ ys) (word ∷ front) last rest says is fit h =
      let more : fits ((xs ++ y ∷ []) ++ ys) ≡ true = rw (append_assoc xs (y ∷ []) ys) fit in
      rw (law xs word y says.0 (fronts (xs ++ y ∷ []) ys more)) (listed_back stops law fronts (xs ++ y ∷ []) ys front last rest says.1 is more (rw (append_assoc xs (y ∷ []) ys) h))

-- a part for each value, and what stands behind
pub spelled : {A P : Type 0} (Says : P → Lexeme → Type 0) (part : A → P) (values : List A) (front : List Lexeme) (parts : List P) (rest : List Lexeme)
    → Spells (λ value word. Says (part value) word) values front → Spells Says parts rest → Spells Says (map part values ++ parts) (front ++ rest)
spelled Says part [] [] parts rest says more = more
spelled Says part [] (word ∷ front) parts rest says more = absurd says
spelled Says part (value ∷ values) [] parts rest says more = absurd says
spelled Says part (value ∷ values) (word ∷ front) parts rest says more = (says.0, spelled Says part values front parts rest says.1 more)

pub unspelled : {A P : Type 0} (Says : P → Lexeme → Type 0) (part : A → P) (last : P) (values : List A) (words : List Lexeme) → Spells Says (map part values ++ last ∷ []) words
    → (front : List Lexeme) × (word : Lexeme) × (words ≡ front ++ word ∷ []) × Spells (λ value word. Says (part value) word) values front × Says last word
unspelled Says part last [] [] says = absurd says
unspelled Says part last [] (word ∷ []) says = ([], word, refl, tt, says.0)
unspelled Says part last [] (word ∷ second ∷ words) says = absurd says.1
unspelled Says part last (value ∷ values) [] says = absurd says
unspelled Says part last (value ∷ values) (word ∷ words) says =
    let more = unspelled Says part last values words says.1 in
    (word ∷ more.0, more.1, ap (λ ws. word ∷ ws) more.2, (says.0, more.3), more.4)
