-- UNITS .. END UNITS: the rows against its statements, both ways.
use Rattle.std.proofs.Common.{◌≡◌, ◌∙◌, ℕ, false, List, [], ◌∷◌, ◌++◌, refl, ap}
use Rattle.std.specs.Prelude.{Option, Some, None}
use Rattle.rc_keys.specs.Lexemes.{Lexeme}
use Rattle.rc_keys.specs.Course.{Turn}
use Rattle.rc_keys.specs.Statements.{at_line}
use Rattle.rc_keys.proofs.Phrasing.{On, unless, Takes}
use Rattle.rc_lef.specs.declared.key.Key.{Key}
use Rattle.rc_lef.specs.declared.key.Key.TheVariants as keys
use Rattle.rc_lef.specs.declared.state.State.{State}
use Rattle.rc_lef.specs.declared.state.Block.TheVariants as blocks
use Rattle.rc_lef.specs.declared.state.Row.TheVariants as rows
use Rattle.rc_lef.specs.declared.units.Units.{Units}
use Rattle.rc_lef.specs.Keys.{key_of, is_quoted}
use Rattle.rc_lef.specs.Lengths.{units_named}
use Rattle.rc_lef.specs.Technology.{Technology}
use Rattle.rc_lef.specs.Moves.{first, due_row, other_statement}
use Rattle.rc_lef.specs.Rows.{lef_turn}
use Rattle.rc_lef.specs.Layers.{units_row, database_row, microns_row, sets_units, end_of_units}
use Rattle.rc_lef.specs.Phrases.{Word, InAMicron, Are}
use Rattle.rc_lef.specs.UnitsBlock.{begins_in_units, UnitsStatement, Database, Other}
use Rattle.rc_lef.proofs.Turns.{turns, begins, ends as block_ends, due, other, other_back}

-- a front of the tokens is a statement of UNITS, or its end, and `D` holds behind it
pub data Reads (D : State → List Lexeme → Type 0) (s : State) (words : List Lexeme) : Type 0 where
  Statement : (units : Option Units) (front rest : List Lexeme) → words ≡ front ++ rest → UnitsStatement s.units front units → D (record s { row = rows.Begin; units = units }) rest → Reads D s words
  End : (front rest : List Lexeme) → words ≡ front ++ rest → Are (Word keys.End ∷ Word keys.Units ∷ []) front → D (record s { row = rows.Begin; block = blocks.Top }) rest → Reads D s words

-- ---- rows to statements

module _ (tech : Technology) (line : ℕ) (D C : State → List Lexeme → Type 0) where
  abbrev After : State → List Lexeme → Type 0
  After s words = Takes (lef_turn tech) line D C s words

  abbrev Then : List Lexeme → Turn State → Type 0
  Then words turn = On (λ s. After s words) (λ s. D s words) (λ s. C s words) turn

  end_key : (s : State) (word : Lexeme) (words : List Lexeme) (key : Key) → Then words (end_of_units s key word) → (key ≡ keys.Units) × D (record s { row = rows.Begin; block = blocks.Top }) words
  unfolding end_of_units
  end_key s word words keys.Units h = (refl, h)
  end_key s word words _ h = absurd h

  ends : (s : State) (front : Lexeme) (words : List Lexeme) → s.block ≡ blocks.Units → key_of front ≡ keys.End → After (record s { row = rows.End }) words → Reads D s (front ∷ words)
  ends s front [] block is h = absurd h
  ends s front (word ∷ words) block is h =
      let e = end_key (record s { row = rows.End }) (at_line line word) words (key_of word) (rw (block_ends tech line s blocks.Units word block) at h) in
      End (front ∷ word ∷ []) words refl (is, (e.0, tt)) e.1

  set : (s : State) (word : Lexeme) (words : List Lexeme) (named : Option Units) → Then words (sets_units s word named) → (units : Units) × (named ≡ Some units) × After (record s { row = rows.Due; units = first s.units units }) words
  set s word words (Some units) h = (units, refl, h)
  set s word words None h = absurd h

  database_key : (s : State) (word : Lexeme) (words : List Lexeme) (key : Key) → Then words (database_row s key word) → (key ≡ keys.Microns) × After (record s { row = rows.Microns }) words
  unfolding database_row
  database_key s word words keys.Microns h = (refl, h)
  database_key s word words _ h = absurd h

  microns_key : (s : State) (word : Lexeme) (words : List Lexeme) (key : Key) → Then words (microns_row s key word)
      → (is_quoted key ≡ false) × ((units : Units) × (units_named word.bytes ≡ Some units) × After (record s { row = rows.Due; units = first s.units units }) words)
  unfolding microns_row
  microns_key s word words key h = let e = unless _ _ _ _ _ (is_quoted key) h in (e.0, set s word words (units_named word.bytes) e.1)

  database : (s : State) (front : Lexeme) (words : List Lexeme) → key_of front ≡ keys.Database → After (record s { row = rows.Database }) words → Reads D s (front ∷ words)
  database s front [] is h = absurd h
  database s front (a ∷ []) is h = absurd (database_key (record s { row = rows.Database }) (at_line line a) [] (key_of a) (rw turns at h)).1
  database s front (a ∷ n ∷ words) is h =
      let e = database_key (record s { row = rows.Database }) (at_line line a) (n ∷ words) (key_of a) (rw turns at h) in
      let f = microns_key (record s { row = rows.Microns }) (at_line line n) words (key_of n) (rw turns at e.1) in
      let g = due tech line D C (record s { units = first s.units f.1.0 }) words f.1.2 in
      Statement (first s.units f.1.0) (front ∷ a ∷ n ∷ g.0 ∷ []) g.1 (ap (λ ws. front ∷ a ∷ n ∷ ws) g.2) (Database f.1.0 (is, (e.0, ((f.0, f.1.1), (g.3, tt)))) refl) g.4

  others : (s : State) (front : Lexeme) (words : List Lexeme) (key : Key) → key_of front ≡ key → Then words (units_row s key (at_line line front)) → s.block ≡ blocks.Units → Reads D s (front ∷ words)
  unfolding units_row
  others s front words keys.Database is h block = database s front words is h
  others s front words keys.End is h block = ends s front words block is h
  others s front words _ is h block = let f = other tech line D C begins_in_units s front words _ is refl h in Statement s.units f.0 f.1 f.2 (Other f.3 refl) f.4

  pub reads : (s : State) (words : List Lexeme) → s.block ≡ blocks.Units → s.row ≡ rows.Begin → Takes (lef_turn tech) line D C s words → Reads D s words
  reads s [] block row h = absurd h
  reads s (word ∷ words) block row h = others s word words (key_of word) refl (rw (begins tech line s blocks.Units word row block) at h) block

  -- ---- statements to rows

  not_own : (s : State) (key : Key) (word : Lexeme) → begins_in_units key ≡ false → units_row s key word ≡ other_statement s key word
  unfolding units_row
  not_own s keys.Database word un = absurd cc
  not_own s keys.End word un = absurd cc
  not_own s _ word un = refl

  database_back : (s : State) (units : Units) (words rest : List Lexeme) → s.block ≡ blocks.Units → s.row ≡ rows.Begin → Are (Word keys.Database ∷ Word keys.Microns ∷ InAMicron units ∷ Word keys.Semicolon ∷ []) words
      → D (record s { row = rows.Begin; units = first s.units units }) rest → After s (words ++ rest)
  unfolding units_row database_row microns_row due_row
  database_back s units (a ∷ b ∷ c ∷ e ∷ []) rest block row are d =
      rw (begins tech line s blocks.Units a row block, are.0, turns, are.1.0, turns, are.1.1.0.0, are.1.1.0.1, turns, are.1.1.1.0) d
  database_back s units _ rest block row are d = search

  pub statement_back : (s : State) (units : Option Units) (words rest : List Lexeme) → s.block ≡ blocks.Units → s.row ≡ rows.Begin → UnitsStatement s.units words units → D (record s { row = rows.Begin; units = units }) rest → After s (words ++ rest)
  statement_back s units words rest block row (Database named are same) d = database_back s named words rest block row are (rw same at d)
  statement_back s units words rest block row (Other is same) d =
      other_back tech line D C begins_in_units s (λ word un. begins tech line s blocks.Units word row block ∙ not_own s (key_of word) (at_line line word) un) words rest is (rw same at d)

  pub end_back : (s : State) (words rest : List Lexeme) → s.block ≡ blocks.Units → s.row ≡ rows.Begin → Are (Word keys.End ∷ Word keys.Units ∷ []) words → D (record s { row = rows.Begin; block = blocks.Top }) rest → After s (words ++ rest)
  unfolding units_row end_of_units
  end_back s (a ∷ b ∷ []) rest block row are d = rw (begins tech line s blocks.Units a row block, are.0, block_ends tech line s blocks.Units b block, are.1.0) d
  end_back s _ rest block row are d = search
