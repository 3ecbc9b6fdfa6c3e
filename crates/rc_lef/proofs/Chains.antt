-- Rows that read a token as a value, and statements of such tokens.
use Rattle.std.proofs.Common.{◌≡◌, ◌∙◌, ℕ, Bool, true, false, cond, List, [], ◌∷◌, ◌++◌, refl, ap}
use Rattle.std.specs.Prelude.{Some, Result, Ok, Err, ℤ}
use Rattle.rc_keys.specs.declared.code.Code.{Code}
use Rattle.rc_keys.specs.Lexemes.{Lexeme}
use Rattle.rc_keys.specs.Course.{Turn, More}
use Rattle.rc_keys.specs.Statements.{at_line}
use Rattle.rc_keys.proofs.Phrasing.{On}
use Rattle.rc_keys.proofs.Ways as ways
use Rattle.rc_keys.proofs.Ways.{Goes, Reads}
use Rattle.rc_lef.specs.declared.state.Form.{Form}
use Rattle.rc_lef.specs.declared.state.Row.TheVariants as rows
use Rattle.rc_lef.specs.declared.state.State.{State}
use Rattle.rc_lef.specs.declared.tech.Layer.{Layer}
use Rattle.rc_lef.specs.declared.tech.LayerKind.{LayerKind}
use Rattle.rc_lef.specs.Keys.{key_of}
use Rattle.rc_lef.specs.Moves.{with_read, or_else, layer_kind, layer_of}
use Rattle.rc_lef.specs.Numbers.{range_of, noted, operand, number_row}
use Rattle.rc_lef.specs.Operands.{length_at, is_named, kind_named}
use Rattle.rc_lef.specs.declared.key.Key.{Key}
use Rattle.rc_lef.specs.Rows.{lef_turn, tech_with}
use Rattle.rc_lef.specs.Technology.{Technology}
use Rattle.rc_lef.specs.Phrases.{Part, Length, LayerOf, semicolon, Says}
use Rattle.rc_lef.proofs.Turns.{turns, due_ends}

-- a token that isn't refused has a value
pub read_is : {A : Type 0} (M D C : State → Type 0) (r : Result A Code) (word : Lexeme) (f : A → Turn State) → On M D C (with_read word r f) → (a : A) × (r ≡ Ok a) × On M D C (f a)
read_is M D C (Err code) word f h = absurd h
read_is M D C (Ok a) word f h = (a, refl, h)

-- ---- layers by name, those before the file and those in it

pub kinds_join : (name : List ℕ) (xs ys : List Layer) → or_else (kind_named name xs) (kind_named name ys) ≡ kind_named name (xs ++ ys)
kinds_join name [] ys = refl
kinds_join name (x ∷ xs) ys = by (is_named name x) (kinds_join name xs ys)
  where
    by : (b : Bool) → or_else (kind_named name xs) (kind_named name ys) ≡ kind_named name (xs ++ ys) → or_else (cond b (Some x.kind) (kind_named name xs)) (kind_named name ys) ≡ cond b (Some x.kind) (kind_named name (xs ++ ys))
    by true more = refl
    by false more = more

pub kind_is : (tech : Technology) (s : State) (name : List ℕ) → layer_kind tech s name ≡ kind_named name (tech_with tech s).layers
unfolding layer_kind
kind_is tech s name = kinds_join name tech.layers s.layers

-- the values of statements with two lengths, and with three behind the first
abbrev pub Two : Type 0
Two = ℤ × (ℤ × Unit {0})

abbrev pub Three : Type 0
Three = ℤ × (ℤ × (ℤ × Unit {0}))

module _ (tech : Technology) (line : ℕ) where
  -- a row that reads a token as a value is a law of the token
  pub read_goes : (s : State) {A : Type 0} (read : Lexeme → Result A Code) (part : A → Part) (next : A → State) → ((a : A) (word : Lexeme) → read word ≡ Ok a → Says (part a) word) → ((a : A) (word : Lexeme) → Says (part a) word → read word ≡ Ok a)
      → ((word : Lexeme) → lef_turn tech s (at_line line word) ≡ with_read (at_line line word) (read word) (λ a. More (next a))) → Goes (lef_turn tech) line Says s A part next
  read_goes s {A} read part next says read_back law = record {
    sound = λ M D C word h. let e = read_is M D C (read word) (at_line line word) (λ a. More (next a)) (rw law at h) in (e.0, says e.0 word e.1, e.2);
    back = λ a word is. law word ∙ rw (read_back a word is) refl;
  }

  -- a layer that is there
  pub layer_goes : (s : State) (next : LayerKind → State) → ((word : Lexeme) → lef_turn tech s (at_line line word) ≡ with_read (at_line line word) (layer_of tech s (key_of word) word) (λ kind. More (next kind)))
      → Goes (lef_turn tech) line Says s LayerKind (λ kind. LayerOf (tech_with tech s).layers kind) next
  layer_goes s next law =
      read_goes s (λ word. layer_of tech s (key_of word) word) (λ kind. LayerOf (tech_with tech s).layers kind) next (λ kind word is. rw (← (kind_is tech s word.bytes)) is) (λ kind word is. rw (kind_is tech s word.bytes) is) law

  -- ---- lengths

  -- the state behind these lengths of a statement
  abbrev pub Noted : State → Form → List ℤ → State
  Noted s form zs = record s { row = rows.Number form; numbers = zs }

  -- a length that is read
  pub number_is : (s : State) (form : Form) (key : Key) (word : Lexeme) (z : ℤ) → length_at (range_of form) s.units key word.bytes ≡ Ok z → number_row s form key word ≡ noted form (record s { numbers = s.numbers ++ z ∷ [] })
  unfolding number_row
  number_is s form key word z says = rw says refl

  pub number_goes : (s : State) (form : Form) (zs : List ℤ) (next : ℤ → State) → ((z : ℤ) → noted form (Noted s form (zs ++ z ∷ [])) ≡ More (next z)) → Goes (lef_turn tech) line Says (Noted s form zs) ℤ (λ z. Length (range_of form) s.units z) next
  unfolding number_row
  number_goes s form zs next same =
      read_goes (Noted s form zs) (λ word. operand (Noted s form zs) form (key_of word) word) (λ z. Length (range_of form) s.units z) next (λ z word is. is) (λ z word is. is)
      (λ word. turns tech line (Noted s form zs) word ∙ ap (λ (f : ℤ → Turn State). with_read (at_line line word) (operand (Noted s form zs) form (key_of word) word) f) (λ i z. same z i))

  abbrev pub Due : State → State
  Due s = record s { row = rows.Due }

  abbrev pub Begun : State → State
  Begun s = record s { row = rows.Begin }

  -- two lengths and `;`, to the state F
  pub two_read : (s : State) (form : Form) (F : ℤ → ℤ → State) → ((x : ℤ) → noted form (Noted s form (x ∷ [])) ≡ More (Noted s form (x ∷ []))) → ((x y : ℤ) → noted form (Noted s form (x ∷ y ∷ [])) ≡ More (Due (F x y)))
      → Reads (lef_turn tech) line Says (Noted s form []) Two (λ v. Length (range_of form) s.units v.0 ∷ Length (range_of form) s.units v.1.0 ∷ semicolon ∷ []) (λ v. Begun (F v.0 v.1.0))
  two_read s form F one last =
      ways.goes _ _ _ _ _ _ _ _ (number_goes s form [] (λ x. Noted s form (x ∷ [])) one) (λ x.
      ways.goes _ _ _ _ _ _ _ _ (number_goes s form (x ∷ []) (λ y. Due (F x y)) (last x)) (λ y.
      ways.ends _ _ _ _ _ _ (due_ends tech line (F x y))))

  -- three lengths behind the first, and `;`
  pub three_read : (s : State) (form : Form) (x1 : ℤ) (F : ℤ → ℤ → ℤ → State) → ((x y : ℤ) → noted form (Noted s form (x ∷ y ∷ [])) ≡ More (Noted s form (x ∷ y ∷ [])))
      → ((x y z : ℤ) → noted form (Noted s form (x ∷ y ∷ z ∷ [])) ≡ More (Noted s form (x ∷ y ∷ z ∷ []))) → ((y1 x2 y2 : ℤ) → noted form (Noted s form (x1 ∷ y1 ∷ x2 ∷ y2 ∷ [])) ≡ More (Due (F y1 x2 y2)))
      → Reads (lef_turn tech) line Says (Noted s form (x1 ∷ [])) Three (λ v. Length (range_of form) s.units v.0 ∷ Length (range_of form) s.units v.1.0 ∷ Length (range_of form) s.units v.1.1.0 ∷ semicolon ∷ [])
      (λ v. Begun (F v.0 v.1.0 v.1.1.0))
  three_read s form x1 F two three last =
      ways.goes _ _ _ _ _ _ _ _ (number_goes s form (x1 ∷ []) (λ y. Noted s form (x1 ∷ y ∷ [])) (two x1)) (λ y1.
      ways.goes _ _ _ _ _ _ _ _ (number_goes s form (x1 ∷ y1 ∷ []) (λ x. Noted s form (x1 ∷ y1 ∷ x ∷ [])) (three x1 y1)) (λ x2.
      ways.goes _ _ _ _ _ _ _ _ (number_goes s form (x1 ∷ y1 ∷ x2 ∷ []) (λ y. Due (F y1 x2 y)) (λ y2. last y1 x2 y2)) (λ y2.
      ways.ends _ _ _ _ _ _ (due_ends tech line (F y1 x2 y2)))))
