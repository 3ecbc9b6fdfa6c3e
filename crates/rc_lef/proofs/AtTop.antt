-- Between the blocks: what the rows take there, both ways.
use Rattle.std.proofs.Common.{◌≡◌, ◌∙◌, ℕ, true, false, List, [], ◌∷◌, ◌++◌, refl, ap}
use Rattle.std.specs.Prelude.{Err}
use Rattle.rc_keys.specs.declared.code.Code.TheVariants.{E05}
use Rattle.rc_keys.specs.Lexemes.{Lexeme}
use Rattle.rc_keys.specs.Course.{Turn, More}
use Rattle.rc_keys.specs.Statements.{at_line}
use Rattle.rc_keys.proofs.Phrasing.{On, only, Takes}
use Rattle.rc_lef.specs.declared.key.Key.{Key}
use Rattle.rc_lef.specs.declared.key.Key.TheVariants as keys
use Rattle.rc_lef.specs.declared.state.State.{State}
use Rattle.rc_lef.specs.declared.state.Block.TheVariants as blocks
use Rattle.rc_lef.specs.declared.state.Home.TheVariants as homes
use Rattle.rc_lef.specs.declared.state.Row.TheVariants as rows
use Rattle.rc_lef.specs.Keys.{key_of, is_name}
use Rattle.rc_lef.specs.Technology.{Technology}
use Rattle.rc_lef.specs.Moves.{other_statement}
use Rattle.rc_lef.specs.Layers.{layer_name_row}
use Rattle.rc_lef.specs.Vias.{via_name_row}
use Rattle.rc_lef.specs.Rules.{no_rule, rule_name_row}
use Rattle.rc_lef.specs.Cells.{macro_name_row}
use Rattle.rc_lef.specs.Rows.{lef_turn, top_row, end_of_file, skip_name_row}
use Rattle.rc_lef.specs.Phrases.{Word, Name, Are, IsOther}
use Rattle.rc_lef.specs.LayerBlock.{no_parts}
use Rattle.rc_lef.specs.ViaBlock.{no_parts as no_via_parts}
use Rattle.rc_lef.specs.MacroBlock.{no_parts as no_macro_parts}
use Rattle.rc_lef.specs.Skipped.{is_skipped_by_name, is_skipped_by_word, IsSkipped, ByName, ByWord, Extension}
use Rattle.rc_lef.specs.File.{begins_at_top}
use Rattle.rc_lef.proofs.Turns.{turns, other, other_back}
use Rattle.rc_lef.proofs.InLayer as layer
use Rattle.rc_lef.proofs.InVia as via
use Rattle.rc_lef.proofs.InRule as rule
use Rattle.rc_lef.proofs.InMacro as cell
use Rattle.rc_lef.proofs.Skips.{Skipping, skipped, extended, skip_back, ext_back}

abbrev pub Top : State → State
Top s = record s { block = blocks.Top; row = rows.Begin }

abbrev pub Called : State → List ℕ → State
Called s name = record (Top s) { name = name }

abbrev pub InUnits : State → State
InUnits s = record s { block = blocks.Units; row = rows.Begin }

abbrev pub InLayer : Technology → State → List ℕ → ℕ → State
InLayer tech s name line = layer.At tech (record (Top s) { name = name; line = line }) no_parts (Err E05)

abbrev pub InVia : State → List ℕ → State
InVia s name = via.At homes.Top (Called s name) s.numbers no_via_parts

abbrev pub InRule : State → List ℕ → State
InRule s name = rule.Open (record (Top s) { outer = name; rule = no_rule })

abbrev pub InMacro : State → List ℕ → ℕ → State
InMacro s name line = cell.At (record (Top s) { outer = name; line = line }) s.numbers no_macro_parts

-- tokens open a block, and this is the state in it
pub data Opens (tech : Technology) (line : ℕ) (s : State) (words : List Lexeme) (t : State) : Type 0 where
  Units : Are (Word keys.Units ∷ []) words → t ≡ InUnits s → Opens tech line s words t
  Layer : (name : List ℕ) → Are (Word keys.Layer ∷ Name name ∷ []) words → t ≡ InLayer tech s name line → Opens tech line s words t
  Via : (name : List ℕ) → Are (Word keys.Via ∷ Name name ∷ []) words → t ≡ InVia s name → Opens tech line s words t
  Rule : (name : List ℕ) → Are (Word keys.NonDefaultRule ∷ Name name ∷ []) words → t ≡ InRule s name → Opens tech line s words t
  Macro : (name : List ℕ) → Are (Word keys.Macro ∷ Name name ∷ []) words → t ≡ InMacro s name line → Opens tech line s words t

-- a front of the tokens is a statement, or is skipped, or opens a block, and `D` holds behind it, or is END LIBRARY, and `C` does
pub data Reads (tech : Technology) (line : ℕ) (D C : State → List Lexeme → Type 0) (s : State) (words : List Lexeme) : Type 0 where
  Statement : (front rest : List Lexeme) → words ≡ front ++ rest → IsOther begins_at_top front → D (Top s) rest → Reads tech line D C s words
  Skip : (name : List ℕ) (front rest : List Lexeme) → words ≡ front ++ rest → IsSkipped front → D (Called s name) rest → Reads tech line D C s words
  Head : (t : State) (front rest : List Lexeme) → words ≡ front ++ rest → Opens tech line s front t → D t rest → Reads tech line D C s words
  EndOfFile : (end library : Lexeme) (rest : List Lexeme) → words ≡ end ∷ library ∷ rest → key_of end ≡ keys.End → key_of library ≡ keys.Library → C (record (Top s) { row = rows.End }) rest → Reads tech line D C s words

module _ (tech : Technology) (line : ℕ) (D C : State → List Lexeme → Type 0) (s : State) where
  abbrev After : State → List Lexeme → Type 0
  After s words = Takes (lef_turn tech) line D C s words

  abbrev Then : List Lexeme → Turn State → Type 0
  Then words turn = On (λ s. After s words) (λ s. D s words) (λ s. C s words) turn

  abbrev Answer : List Lexeme → Type 0
  Answer words = Reads tech line D C s words

  -- ---- rows to statements

  layer_name : (front a : Lexeme) (words : List Lexeme) → key_of front ≡ keys.Layer → Then words (layer_name_row (record (Top s) { row = rows.LayerName }) (key_of a) (at_line line a)) → Answer (front ∷ a ∷ words)
  unfolding layer_name_row
  layer_name front a words is h = let e = only (λ t. After t words) (λ t. D t words) (λ t. C t words) _ _ (is_name (key_of a)) h in Head _ (front ∷ a ∷ []) words refl (Layer a.bytes (is, ((e.0, refl), tt)) refl) e.1

  via_name : (front a : Lexeme) (words : List Lexeme) → key_of front ≡ keys.Via → Then words (via_name_row (record (Top s) { row = rows.ViaName homes.Top }) homes.Top (key_of a) (at_line line a)) → Answer (front ∷ a ∷ words)
  unfolding via_name_row
  via_name front a words is h = let e = only (λ t. After t words) (λ t. D t words) (λ t. C t words) _ _ (is_name (key_of a)) h in Head _ (front ∷ a ∷ []) words refl (Via a.bytes (is, ((e.0, refl), tt)) refl) e.1

  rule_name : (front a : Lexeme) (words : List Lexeme) → key_of front ≡ keys.NonDefaultRule → Then words (rule_name_row (record (Top s) { row = rows.RuleName }) (key_of a) (at_line line a)) → Answer (front ∷ a ∷ words)
  unfolding rule_name_row
  rule_name front a words is h = let e = only (λ t. After t words) (λ t. D t words) (λ t. C t words) _ _ (is_name (key_of a)) h in Head _ (front ∷ a ∷ []) words refl (Rule a.bytes (is, ((e.0, refl), tt)) refl) e.1

  macro_name : (front a : Lexeme) (words : List Lexeme) → key_of front ≡ keys.Macro → Then words (macro_name_row (record (Top s) { row = rows.MacroName }) (key_of a) (at_line line a)) → Answer (front ∷ a ∷ words)
  unfolding macro_name_row
  macro_name front a words is h = let e = only (λ t. After t words) (λ t. D t words) (λ t. C t words) _ _ (is_name (key_of a)) h in Head _ (front ∷ a ∷ []) words refl (Macro a.bytes (is, ((e.0, refl), tt)) refl) e.1

  skip_name : (front a : Lexeme) (words : List Lexeme) → is_skipped_by_name (key_of front) ≡ true → Then words (skip_name_row (record (Top s) { row = rows.SkipName }) (key_of a) (at_line line a)) → Answer (front ∷ a ∷ words)
  unfolding skip_name_row
  skip_name front a words is h =
      let e = only (λ t. After t words) (λ t. D t words) (λ t. C t words) _ _ (is_name (key_of a)) h in
      let f = skipped tech line D C (Called s a.bytes) words e.1 in
      Skip a.bytes (front ∷ a ∷ f.0) f.1 (ap (λ ws. front ∷ a ∷ ws) f.2) (ByName front a f.0 refl is e.0 f.3) f.4

  skip_word : (front : Lexeme) (words : List Lexeme) → is_skipped_by_word (key_of front) ≡ true → After (Skipping (Called s front.bytes) false) words → Answer (front ∷ words)
  skip_word front words is h =
      let f = skipped tech line D C (Called s front.bytes) words h in
      Skip front.bytes (front ∷ f.0) f.1 (ap (λ ws. front ∷ ws) f.2) (ByWord (record { word = front; body = f.0; parts = refl; key = is; ends = f.3 })) f.4

  layers : (front : Lexeme) (words : List Lexeme) → key_of front ≡ keys.Layer → After (record (Top s) { row = rows.LayerName }) words → Answer (front ∷ words)
  layers front [] is h = absurd h
  layers front (a ∷ words) is h = layer_name front a words is (rw turns at h)

  vias : (front : Lexeme) (words : List Lexeme) → key_of front ≡ keys.Via → After (record (Top s) { row = rows.ViaName homes.Top }) words → Answer (front ∷ words)
  vias front [] is h = absurd h
  vias front (a ∷ words) is h = via_name front a words is (rw turns at h)

  rules : (front : Lexeme) (words : List Lexeme) → key_of front ≡ keys.NonDefaultRule → After (record (Top s) { row = rows.RuleName }) words → Answer (front ∷ words)
  rules front [] is h = absurd h
  rules front (a ∷ words) is h = rule_name front a words is (rw turns at h)

  macros : (front : Lexeme) (words : List Lexeme) → key_of front ≡ keys.Macro → After (record (Top s) { row = rows.MacroName }) words → Answer (front ∷ words)
  macros front [] is h = absurd h
  macros front (a ∷ words) is h = macro_name front a words is (rw turns at h)

  skips : (front : Lexeme) (words : List Lexeme) → is_skipped_by_name (key_of front) ≡ true → After (record (Top s) { row = rows.SkipName }) words → Answer (front ∷ words)
  skips front [] is h = absurd h
  skips front (a ∷ words) is h = skip_name front a words is (rw turns at h)

  end_key : (front a : Lexeme) (words : List Lexeme) (key : Key) → key_of front ≡ keys.End → key_of a ≡ key → Then words (end_of_file (record (Top s) { row = rows.End }) key (at_line line a)) → Answer (front ∷ a ∷ words)
  unfolding end_of_file
  end_key front a words keys.Library is at h = EndOfFile front a words refl is at h
  end_key front a words _ is at h = absurd h

  ends : (front : Lexeme) (words : List Lexeme) → key_of front ≡ keys.End → After (record (Top s) { row = rows.End }) words → Answer (front ∷ words)
  ends front [] is h = absurd h
  ends front (a ∷ words) is h = end_key front a words (key_of a) is refl (rw turns at h)

  by_key : (front : Lexeme) (words : List Lexeme) (key : Key) → key_of front ≡ key → Then words (top_row (Top s) key (at_line line front)) → Answer (front ∷ words)
  unfolding top_row
  by_key front words keys.Units is h = Head _ (front ∷ []) words refl (Units (is, tt) refl) h
  by_key front words keys.Layer is h = layers front words is h
  by_key front words keys.Via is h = vias front words is h
  by_key front words keys.NonDefaultRule is h = rules front words is h
  by_key front words keys.Macro is h = macros front words is h
  by_key front words keys.End is h = ends front words is h
  by_key front words keys.ViaRule is h = skips front words (rw is refl) h
  by_key front words keys.Site is h = skips front words (rw is refl) h
  by_key front words keys.Array is h = skips front words (rw is refl) h
  by_key front words keys.PropertyDefinitions is h = skip_word front words (rw is refl) h
  by_key front words keys.Spacing is h = skip_word front words (rw is refl) h
  by_key front words keys.BeginExt is h =
      let f = extended tech line D C (Top s) words h in
      Skip s.name (front ∷ f.0) f.1 (ap (λ ws. front ∷ ws) f.2) (Extension front f.0 refl is f.3) f.4
  by_key front words _ is h = let f = other tech line D C begins_at_top (Top s) front words _ is refl h in Statement f.0 f.1 f.2 f.3 f.4

  pub reads : (words : List Lexeme) → After (Top s) words → Answer words
  reads [] h = absurd h
  reads (word ∷ words) h = by_key word words (key_of word) refl (rw turns at h)

  -- ---- statements to rows

  not_own : (key : Key) (word : Lexeme) → begins_at_top key ≡ false → top_row (Top s) key word ≡ other_statement (Top s) key word
  unfolding top_row
  not_own keys.Units word un = absurd cc
  not_own keys.Layer word un = absurd cc
  not_own keys.Via word un = absurd cc
  not_own keys.NonDefaultRule word un = absurd cc
  not_own keys.Macro word un = absurd cc
  not_own keys.End word un = absurd cc
  not_own keys.ViaRule word un = absurd cc
  not_own keys.Site word un = absurd cc
  not_own keys.Array word un = absurd cc
  not_own keys.PropertyDefinitions word un = absurd cc
  not_own keys.Spacing word un = absurd cc
  not_own keys.BeginExt word un = absurd cc
  not_own _ word un = refl

  pub statement_back : (words rest : List Lexeme) → IsOther begins_at_top words → D (Top s) rest → After (Top s) (words ++ rest)
  statement_back words rest is d = other_back tech line D C begins_at_top (Top s) (λ word un. turns tech line (Top s) word ∙ not_own (key_of word) (at_line line word) un) words rest is d

  name_turn : (key : Key) (word : Lexeme) → is_skipped_by_name key ≡ true → top_row (Top s) key word ≡ More (record (Top s) { row = rows.SkipName })
  unfolding top_row
  name_turn keys.ViaRule word is = refl
  name_turn keys.Site word is = refl
  name_turn keys.Array word is = refl
  name_turn _ word is = absurd cc

  word_turn : (key : Key) (word : Lexeme) → is_skipped_by_word key ≡ true → top_row (Top s) key word ≡ More (Skipping (Called s word.bytes) false)
  unfolding top_row
  word_turn keys.PropertyDefinitions word is = refl
  word_turn keys.Spacing word is = refl
  word_turn _ word is = absurd cc

  pub skipped_back : (words rest : List Lexeme) → IsSkipped words → ((name : List ℕ) → D (Called s name) rest) → After (Top s) (words ++ rest)
  unfolding skip_name_row top_row
  skipped_back words rest (ByName word name body is key named e) d = rw (is, turns, name_turn (key_of word) (at_line line word) key, turns, named) (skip_back tech line D C (Called s name.bytes) body rest e (d name.bytes))
  skipped_back words rest (ByWord b) d = rw (b.parts, turns, word_turn (key_of b.word) (at_line line b.word) b.key) (skip_back tech line D C (Called s b.word.bytes) b.body rest b.ends (d b.word.bytes))
  skipped_back words rest (Extension word body is key e) d = rw (is, turns, key) (ext_back tech line D C (Top s) body rest e (d s.name))

  pub units_back : (words rest : List Lexeme) → Are (Word keys.Units ∷ []) words → D (InUnits s) rest → After (Top s) (words ++ rest)
  unfolding top_row
  units_back (word ∷ []) rest are d = rw (turns, are.0) d
  units_back _ rest are d = search

  pub layer_back : (name : List ℕ) (words rest : List Lexeme) → Are (Word keys.Layer ∷ Name name ∷ []) words → D (InLayer tech s name line) rest → After (Top s) (words ++ rest)
  unfolding top_row layer_name_row
  layer_back name (a ∷ b ∷ []) rest are d = rw (turns, are.0, turns, are.1.0.0, are.1.0.1) d
  layer_back name _ rest are d = search

  pub via_back : (name : List ℕ) (words rest : List Lexeme) → Are (Word keys.Via ∷ Name name ∷ []) words → D (InVia s name) rest → After (Top s) (words ++ rest)
  unfolding top_row via_name_row
  via_back name (a ∷ b ∷ []) rest are d = rw (turns, are.0, turns, are.1.0.0, are.1.0.1) d
  via_back name _ rest are d = search

  pub rule_back : (name : List ℕ) (words rest : List Lexeme) → Are (Word keys.NonDefaultRule ∷ Name name ∷ []) words → D (InRule s name) rest → After (Top s) (words ++ rest)
  unfolding top_row rule_name_row
  rule_back name (a ∷ b ∷ []) rest are d = rw (turns, are.0, turns, are.1.0.0, are.1.0.1) d
  rule_back name _ rest are d = search

  pub macro_back : (name : List ℕ) (words rest : List Lexeme) → Are (Word keys.Macro ∷ Name name ∷ []) words → D (InMacro s name line) rest → After (Top s) (words ++ rest)
  unfolding top_row macro_name_row
  macro_back name (a ∷ b ∷ []) rest are d = rw (turns, are.0, turns, are.1.0.0, are.1.0.1) d
  macro_back name _ rest are d = search

  pub end_back : (end library : Lexeme) (rest : List Lexeme) → key_of end ≡ keys.End → key_of library ≡ keys.Library → C (record (Top s) { row = rows.End }) rest → After (Top s) (end ∷ library ∷ rest)
  unfolding top_row end_of_file
  end_back end library rest is at c = rw (turns, is, turns, at) c
