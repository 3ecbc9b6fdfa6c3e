-- Statements of a fixed form: one law per token, in both directions, and the statement is their chain.
use Rattle.std.proofs.Common.{◌≡◌, ℕ, List, [], ◌∷◌, ◌++◌, refl, ap}
use Rattle.rc_keys.specs.Lexemes.{Lexeme}
use Rattle.rc_keys.specs.Course.{More, Done, Rows}
use Rattle.rc_keys.specs.Statements.{at_line}
use Rattle.rc_keys.specs.Phrases.{Spells}
use Rattle.rc_keys.proofs.Phrasing.{On, Takes}

module _ {S P : Type 0} (rows : Rows S) (line : ℕ) (Says : P → Lexeme → Type 0) where
  -- in this state a token is that part, with some value, and the statement goes on; any other is refused
  pub record Goes (s : S) (V : Type 0) (part : V → P) (next : V → S) : Type 1 where
    pub sound : (M D C : S → Type 0) (word : Lexeme) → On M D C (rows s (at_line line word)) → (v : V) × Says (part v) word × M (next v)
    pub back : (v : V) (word : Lexeme) → Says (part v) word → rows s (at_line line word) ≡ More (next v)

  -- the same of the token that ends it
  pub record Ends (s : S) (V : Type 0) (part : V → P) (next : V → S) : Type 1 where
    pub sound : (M D C : S → Type 0) (word : Lexeme) → On M D C (rows s (at_line line word)) → (v : V) × Says (part v) word × D (next v)
    pub back : (v : V) (word : Lexeme) → Says (part v) word → rows s (at_line line word) ≡ Done (next v)

  -- from this state on the tokens are these parts, with some values, up to the statement's end
  pub record Reads (s : S) (V : Type 0) (parts : V → List P) (after : V → S) : Type 1 where
    pub sound : (D C : S → List Lexeme → Type 0) (words : List Lexeme) → Takes rows line D C s words → (v : V) × (front rest : List Lexeme) × (words ≡ front ++ rest) × Spells Says (parts v) front × D (after v) rest
    pub back : (D C : S → List Lexeme → Type 0) (v : V) (front rest : List Lexeme) → Spells Says (parts v) front → D (after v) rest → Takes rows line D C s (front ++ rest)

  pub ends : (s : S) {V : Type 0} (part : V → P) (next : V → S) → Ends s V part next → Reads s V (λ v. part v ∷ []) next
  ends s {V} part next law = record { sound = sound; back = back }
    where
      sound : (D C : S → List Lexeme → Type 0) (words : List Lexeme) → Takes rows line D C s words → (v : V) × (front rest : List Lexeme) × (words ≡ front ++ rest) × Spells Says (part v ∷ []) front × D (next v) rest
      sound D C [] h = absurd h
      sound D C (word ∷ words) h =
          let e = law.sound (λ t. Takes rows line D C t words) (λ t. D t words) (λ t. C t words) word h in
          (e.0, word ∷ [], words, refl, (e.1, tt), e.2)

      back : (D C : S → List Lexeme → Type 0) (v : V) (front rest : List Lexeme) → Spells Says (part v ∷ []) front → D (next v) rest → Takes rows line D C s (front ++ rest)
      back D C v [] rest says d = absurd says
      back D C v (word ∷ []) rest says d = rw (law.back v word says.0) d
      back D C v (word ∷ second ∷ front) rest says d = absurd says.1

  pub goes : (s : S) {V W : Type 0} (part : V → P) (next : V → S) (parts : V → W → List P) (after : V → W → S) → Goes s V part next → ((v : V) → Reads (next v) W (parts v) (after v)) → Reads s (V × W) (λ v. part v.0 ∷ parts v.0 v.1) (λ v. after v.0 v.1)
  goes s {V} {W} part next parts after law more = record { sound = sound; back = back }
    where
      sound : (D C : S → List Lexeme → Type 0) (words : List Lexeme) → Takes rows line D C s words
          → (v : V × W) × (front rest : List Lexeme) × (words ≡ front ++ rest) × Spells Says (part v.0 ∷ parts v.0 v.1) front × D (after v.0 v.1) rest
      sound D C [] h = absurd h
      sound D C (word ∷ words) h =
          let e = law.sound (λ t. Takes rows line D C t words) (λ t. D t words) (λ t. C t words) word h in
          let f = (more e.0).sound D C words e.2 in
          ((e.0, f.0), word ∷ f.1, f.2, ap (λ ws. word ∷ ws) f.3, (e.1, f.4), f.5)

      back : (D C : S → List Lexeme → Type 0) (v : V × W) (front rest : List Lexeme) → Spells Says (part v.0 ∷ parts v.0 v.1) front → D (after v.0 v.1) rest → Takes rows line D C s (front ++ rest)
      back D C v [] rest says d = absurd says
      back D C v (word ∷ front) rest says d = rw (law.back v.0 word says.0) ((more v.0).back D C v.1 front rest says.1 d)
