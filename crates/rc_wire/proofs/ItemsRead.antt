-- Items token by token against items as a relation, both ways.
use Rattle.std.proofs.Common.{◌≡◌, ◌∙◌, ◌+◌, ℕ, Bool, true, false, cond, inl, inr, List, [], ◌∷◌, ◌++◌, length, refl, ap}
use Rattle.std.specs.Prelude.{◌⊎◌, Option, Some, None, Result, Ok, Err, nat_lt, slice_get}
use Rattle.rc_keys.specs.declared.code.Code.{Code}
use Rattle.rc_keys.specs.declared.fault.Refusal.{Refusal}
use Rattle.rc_keys.specs.Lexemes.{Lexeme}
use Rattle.rc_keys.specs.Course.{Turn, Refuse, More, Done, Close, Rows}
use Rattle.rc_keys.specs.Statements.{at_line}
use Rattle.rc_keys.proofs.Phrasing.{On, Takes}
use Rattle.rc_wire.specs.declared.part.Part.{Part}
use Rattle.rc_wire.specs.declared.operands.Operands.{Operands}
use Rattle.rc_wire.specs.Keys.{key_of}
use Rattle.rc_wire.specs.Parts.{nothing, take}
use Rattle.rc_wire.specs.Items.{Format, place_of, behind, taken, take_part, inside, begun, item_turn, Either, Spelled, IsItem}

pub same_key : (line : ℕ) (word : Lexeme) → key_of (at_line line word) ≡ key_of word
unfolding key_of
same_key line word = refl

module _ {S V K : Type 0} (made : V → Option K → ℕ → Operands → S) (format : Format V K) (rows : Rows S) (line : ℕ) (law : (v : V) (item : Option K) (place : ℕ) (said : Operands) (word : Lexeme) → rows (made v item place said) word ≡ item_turn made format v item place said word)
    (D C : S → List Lexeme → Type 0) where
  abbrev After : S → List Lexeme → Type 0
  After s words = Takes rows line D C s words

  abbrev Then : List Lexeme → Turn S → Type 0
  Then words turn = On (λ s. After s words) (λ s. D s words) (λ s. C s words) turn

  -- between two items
  abbrev pub at : V → S
  at v = made v None 0 nothing

  -- what holds behind an item
  abbrev pub Behind : Turn V → List Lexeme → Type 0
  Behind (Refuse refusal) words = ⊥
  Behind (More v) words = After (at v) words
  Behind (Done v) words = D (at v) words
  Behind (Close v) words = C (at v) words

  to_behind : (turn : Turn V) (words : List Lexeme) → Then words (behind made format turn) → Behind turn words
  to_behind (Refuse refusal) words h = h
  to_behind (More v) words h = h
  to_behind (Done v) words h = h
  to_behind (Close v) words h = h

  from_behind : (turn : Turn V) (words : List Lexeme) → Behind turn words → Then words (behind made format turn)
  from_behind (Refuse refusal) words h = h
  from_behind (More v) words h = h
  from_behind (Done v) words h = h
  from_behind (Close v) words h = h

  -- a front of the tokens spells the rest of an item
  abbrev Found : V → K → ℕ → Operands → List Lexeme → Type 0
  Found v item place said words = (front rest : List Lexeme) × (after : Operands) × (words ≡ front ++ rest) × Spelled (format.form item) place said front after × Behind (format.means item v after) rest

  abbrev Later : Bool → V → K → ℕ → Operands → List Lexeme → Type 0
  Later b v item next said words =
      (front rest : List Lexeme) × (after : Operands) × (words ≡ front ++ rest) × Either b (Spelled (format.form item) next said front after) ((front ≡ []) × (said ≡ after)) × Behind (format.means item v after) rest

  -- ---- tokens to items

  goes : (v : V) (item : K) (next : ℕ) (said : Operands) (words : List Lexeme) → (After (made v (Some item) next said) words → Found v item next said words) → (b : Bool)
      → Then words (cond b (More (made v (Some item) next said)) (behind made format (format.means item v said))) → Later b v item next said words
  goes v item next said words again true h = again h
  goes v item next said words again false h = ([], words, said, refl, (refl, refl), to_behind (format.means item v said) words h)

  took : (v : V) (item : K) (place : ℕ) (said : Operands) (word : Lexeme) (words : List Lexeme) (part : Part)
      → ((next : ℕ) (mid : Operands) → After (made v (Some item) next mid) words → Found v item next mid words)
      → slice_get (format.form item) (place_of (format.form item) place (key_of word)) ≡ Some part
      → (r : Result Operands Code) → take part said (key_of word) word.bytes ≡ r
      → Then words (taken made format v item (place_of (format.form item) place (key_of word)) (at_line line word) r) → Found v item place said (word ∷ words)
  took v item place said word words part again is (Err code) takes h = absurd h
  took v item place said word words part again is (Ok mid) takes h =
      let next : ℕ = place_of (format.form item) place (key_of word) + 1 in
      let l = goes v item next mid words (again next mid) (nat_lt next (length (format.form item))) h in
      (word ∷ l.0, l.1, l.2, ap (λ ws. word ∷ ws) l.3, (part, mid, is, takes, l.4), l.5)

  parted : (v : V) (item : K) (place : ℕ) (said : Operands) (word : Lexeme) (words : List Lexeme)
      → ((next : ℕ) (mid : Operands) → After (made v (Some item) next mid) words → Found v item next mid words)
      → (part : Option Part) → slice_get (format.form item) (place_of (format.form item) place (key_of word)) ≡ part
      → Then words (take_part made format v item (place_of (format.form item) place (key_of word)) said (key_of word) (at_line line word) part) → Found v item place said (word ∷ words)
  parted v item place said word words again None is h = absurd h
  parted v item place said word words again (Some part) is h = took v item place said word words part again is (take part said (key_of word) word.bytes) refl h

  one : (v : V) (item : K) (place : ℕ) (said : Operands) (word : Lexeme) (words : List Lexeme)
      → ((next : ℕ) (mid : Operands) → After (made v (Some item) next mid) words → Found v item next mid words)
      → Then words (inside made format v item place said (key_of word) (at_line line word)) → Found v item place said (word ∷ words)
  unfolding inside
  one v item place said word words again h = parted v item place said word words again (slice_get (format.form item) (place_of (format.form item) place (key_of word))) refl h

  opened : (v : V) (item : K) (place : ℕ) (said : Operands) (word : Lexeme) → rows (made v (Some item) place said) (at_line line word) ≡ inside made format v item place said (key_of word) (at_line line word)
  unfolding item_turn
  opened v item place said word = law v (Some item) place said (at_line line word) ∙ ap (λ key. inside made format v item place said key (at_line line word)) (same_key line word)

  found : (words : List Lexeme) (v : V) (item : K) (place : ℕ) (said : Operands) → After (made v (Some item) place said) words → Found v item place said words
  found [] v item place said h = absurd h
  found (word ∷ words) v item place said h = one v item place said word words (λ next mid. found words v item next mid) (rw (opened v item place said word) at h)

  -- between two items: a front of the tokens is one, or the next token ends the items
  abbrev pub Next : V → List Lexeme → Type 0
  Next v words = (turn : Turn V) × (front rest : List Lexeme) × (words ≡ front ++ rest) × IsItem format line v front turn × Behind turn rest

  abbrev pub Ends : V → List Lexeme → Type 0
  Ends v words = (word : Lexeme) × (rest : List Lexeme) × (words ≡ word ∷ rest) × (format.begins v (key_of word) (at_line line word) ≡ Ok None) × C (at v) rest

  first_of : (v : V) (item : K) (word : Lexeme) (words : List Lexeme) → format.begins v (key_of word) (at_line line word) ≡ Ok (Some item) → Found v item 0 (record nothing { last = format.last v; line = line }) (word ∷ words) → Next v (word ∷ words)
  first_of v item word words begins (front, rest, after, is, spells, behind_) =
      (format.means item v after, front, rest, is, by front is spells, behind_)
    where
      by : (front : List Lexeme) → word ∷ words ≡ front ++ rest → Spelled (format.form item) 0 (record nothing { last = format.last v; line = line }) front after → IsItem format line v front (format.means item v after)
      by [] is spells = absurd spells
      by (first ∷ others) is spells =
          let same : word ≡ first = cc in
          record { item = item; first = first; others = others; parts = refl; begins = rw (← same) begins; said = after; spells = spells; says = refl }

  begun_by : (v : V) (word : Lexeme) (words : List Lexeme) (r : Result (Option K) Refusal) → format.begins v (key_of word) (at_line line word) ≡ r → Then words (begun made format v 0 nothing (key_of word) (at_line line word) r) → Next v (word ∷ words) ⊎ Ends v (word ∷ words)
  begun_by v word words (Err refusal) is h = absurd h
  begun_by v word words (Ok None) is h = inr (word, words, refl, is, h)
  begun_by v word words (Ok (Some item)) is h = inl (first_of v item word words is (one v item 0 (record nothing { last = format.last v; line = line }) word words (λ next mid. found words v item next mid) h))

  closed_ : (v : V) (word : Lexeme) → rows (at v) (at_line line word) ≡ begun made format v 0 nothing (key_of word) (at_line line word) (format.begins v (key_of word) (at_line line word))
  unfolding item_turn
  closed_ v word = law v None 0 nothing (at_line line word) ∙ ap (λ key. begun made format v 0 nothing key (at_line line word) (format.begins v key (at_line line word))) (same_key line word)

  pub reads : (v : V) (words : List Lexeme) → Takes rows line D C (at v) words → Next v words ⊎ Ends v words
  reads v [] h = absurd h
  reads v (word ∷ words) h = begun_by v word words (format.begins v (key_of word) (at_line line word)) refl (rw (closed_ v word) at h)

  -- ---- items to tokens

  goes_back : (v : V) (item : K) (next : ℕ) (said after : Operands) (front rest : List Lexeme) → (Spelled (format.form item) next said front after → After (made v (Some item) next said) (front ++ rest)) → (b : Bool)
      → Either b (Spelled (format.form item) next said front after) ((front ≡ []) × (said ≡ after)) → Behind (format.means item v after) rest
      → Then (front ++ rest) (cond b (More (made v (Some item) next said)) (behind made format (format.means item v said)))
  goes_back v item next said after front rest again true spells d = again spells
  goes_back v item next said after front rest again false (none, same) d = rw (none, same) (from_behind (format.means item v after) rest d)

  one_back : (v : V) (item : K) (place : ℕ) (said after : Operands) (word : Lexeme) (front rest : List Lexeme)
      → ((next : ℕ) (mid : Operands) → Spelled (format.form item) next mid front after → After (made v (Some item) next mid) (front ++ rest))
      → Spelled (format.form item) place said (word ∷ front) after → Behind (format.means item v after) rest → Then (front ++ rest) (inside made format v item place said (key_of word) (at_line line word))
  unfolding inside
  one_back v item place said after word front rest again (part, mid, is, takes, more) d =
      let next : ℕ = place_of (format.form item) place (key_of word) + 1 in
      rw (is, takes) (goes_back v item next mid after front rest (again next mid) (nat_lt next (length (format.form item))) more d)

  found_back : (front : List Lexeme) (v : V) (item : K) (place : ℕ) (said after : Operands) (rest : List Lexeme) → Spelled (format.form item) place said front after → Behind (format.means item v after) rest → After (made v (Some item) place said) (front ++ rest)
  found_back [] v item place said after rest spells d = absurd spells
  found_back (word ∷ front) v item place said after rest spells d =
      rw (opened v item place said word) (one_back v item place said after word front rest (λ next mid more. found_back front v item next mid after rest more d) spells d)

  pub item_back : (v : V) (turn : Turn V) (front rest : List Lexeme) → IsItem format line v front turn → Behind turn rest → Takes rows line D C (at v) (front ++ rest)
  item_back v turn front rest i d =
      rw (i.parts) (rw (closed_ v i.first, i.begins) (one_back v i.item 0 (record nothing { last = format.last v; line = line }) i.said i.first i.others rest
      (λ next mid more. found_back i.others v i.item next mid i.said rest more (rw i.says d)) (rw i.parts at i.spells) (rw i.says d)))

  pub ends_back : (v : V) (word : Lexeme) (rest : List Lexeme) → format.begins v (key_of word) (at_line line word) ≡ Ok None → C (at v) rest → Takes rows line D C (at v) (word ∷ rest)
  ends_back v word rest is c = rw (closed_ v word, is) c
