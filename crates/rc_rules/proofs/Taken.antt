-- What the rows take is statements.
use Rattle.std.proofs.Common.{◌≡◌, ℕ, true, false, List, [], ◌∷◌, ◌++◌, refl, ap}
use Rattle.std.proofs.lemmas.Slice.Eq.{bytes_eq-Decides}
use Rattle.std.specs.Prelude.{Option, Some, None, is_some, codes}
use Rattle.std.specs.Str.{bytes_eq}
use Rattle.rc_fixed.specs.Numeral.{is_decimal}
use Rattle.rc_keys.specs.Lexemes.{Lexeme}
use Rattle.rc_keys.specs.Course.{Turn}
use Rattle.rc_keys.specs.Statements.{at_line}
use Rattle.rc_keys.proofs.Phrasing.{On, unless, only, Takes}
use Rattle.rc_lef.specs.declared.units.Units.{Units}
use Rattle.rc_lef.specs.Technology.{Technology}
use Rattle.rc_rules.specs.declared.key.Key.{Key}
use Rattle.rc_rules.specs.declared.key.Key.TheVariants as keys
use Rattle.rc_rules.specs.declared.state.Stage.TheVariants as stages
use Rattle.rc_rules.specs.declared.state.Row.TheVariants as rows
use Rattle.rc_rules.specs.declared.state.State.{State}
use Rattle.rc_rules.specs.Keys.{key_of, is_name, is_quoted}
use Rattle.rc_rules.specs.Numbers.{resistance_of}
use Rattle.rc_rules.specs.Layers.{routing_named, cut_named}
use Rattle.rc_rules.specs.RuleFile.{layer_in, cut_in}
use Rattle.rc_rules.specs.Statements.{Statement, Heading, Layer, Via, Contact}
use Rattle.rc_rules.specs.File.{BeginsWithEnd}
use Rattle.rc_rules.specs.Rows.{heading_row, headed, version_row, entry_row, opens, takes_layer, layer_name_row, takes_cut, via_name_row, with_cut, takes_via, via_number_row, with_contact, takes_contact, contact_row, end_of_rules, close_row, unquoted, rules_turn}
use Rattle.rc_rules.proofs.Turns.{first, unquoted_some, turns, end_turn, due}

-- a front of the tokens is a statement, and `D` holds behind it, or it is END RULES, and `C` does
pub data Reads (units : Units) (tech : Technology) (D C : State → List Lexeme → Type 0) (s : State) (words : List Lexeme) : Type 0 where
  One : (t : State) (front rest : List Lexeme) → words ≡ front ++ rest → Statement units tech s.progress front t.progress → t.row ≡ rows.Begin → D t rest → Reads units tech D C s words
  End : (t : State) (rest : List Lexeme) → BeginsWithEnd words → s.progress.stage ≡ stages.Entries → t.progress ≡ s.progress → C t rest → Reads units tech D C s words

module _ (units : Units) (tech : Technology) (line : ℕ) (D C : State → List Lexeme → Type 0) where
  abbrev After : State → List Lexeme → Type 0
  After s words = Takes (rules_turn units tech) line D C s words

  abbrev Then : List Lexeme → Turn State → Type 0
  Then words turn = On (λ s. After s words) (λ s. D s words) (λ s. C s words) turn

  abbrev Answer : State → List Lexeme → Type 0
  Answer s words = Reads units tech D C s words

  -- ---- RCXRULES

  version_key : (s : State) (front a : Lexeme) (words : List Lexeme) → key_of front ≡ keys.RcxRules → s.progress.stage ≡ stages.Heading → Then words (version_row (record s { row = rows.Version }) (key_of a) (at_line line a)) → Answer s (front ∷ a ∷ words)
  unfolding version_row
  version_key s front a words is at_ h =
      let e = unless (λ t. After t words) (λ t. D t words) (λ t. C t words) _ _ (is_quoted (key_of a)) h in
      let f = first (λ t. After t words) (λ t. D t words) (λ t. C t words) _ _ _ (bytes_eq a.bytes (codes "1")) (is_decimal a.bytes) e.1 in
      let g = due units tech line D C (headed (record s { row = rows.Version })) words f.1 in
      One (record (headed s) { row = rows.Begin }) (front ∷ a ∷ g.0 ∷ []) g.1 (ap (λ ws. front ∷ a ∷ ws) g.2) (Heading (is, ((e.0, (bytes_eq-Decides a.bytes (codes "1")).0 f.0), (g.3, tt))) at_ refl) refl g.4

  version : (s : State) (front : Lexeme) (words : List Lexeme) → key_of front ≡ keys.RcxRules → s.progress.stage ≡ stages.Heading → After (record s { row = rows.Version }) words → Answer s (front ∷ words)
  version s front [] is at_ h = absurd h
  version s front (a ∷ words) is at_ h = version_key s front a words is at_ (rw turns at h)

  pub heading : (s : State) (front : Lexeme) (words : List Lexeme) (key : Key) → key_of front ≡ key → s.progress.stage ≡ stages.Heading → Then words (heading_row s key (at_line line front)) → Answer s (front ∷ words)
  unfolding heading_row
  heading s front words keys.RcxRules is at_ h = version s front words is at_ h
  heading s front words _ is at_ h = absurd h

  -- ---- LAYER

  layer_number : (s : State) (front a : Lexeme) (words : List Lexeme) (number : Option ℕ) → routing_named tech a.bytes ≡ number → key_of front ≡ keys.Layer → is_name (key_of a) ≡ true → s.progress.stage ≡ stages.Entries
      → Then words (takes_layer (record s { row = rows.LayerName }) (at_line line a) number) → Answer s (front ∷ a ∷ words)
  layer_number s front a words None same is named at_ h = absurd h
  layer_number s front a words (Some number) same is named at_ h =
      let e = unless (λ t. After t words) (λ t. D t words) (λ t. C t words) _ _ (is_some (layer_in s.progress.layers number)) h in
      let g = due units tech line D C (opens (record s { row = rows.LayerName }) number) words e.1 in
      One (record (opens s number) { row = rows.Begin }) (front ∷ a ∷ g.0 ∷ []) g.1 (ap (λ ws. front ∷ a ∷ ws) g.2) (Layer number (is, ((named, same), (g.3, tt))) at_ e.0 refl) refl g.4

  layer_key : (s : State) (front a : Lexeme) (words : List Lexeme) → key_of front ≡ keys.Layer → s.progress.stage ≡ stages.Entries → Then words (layer_name_row tech (record s { row = rows.LayerName }) (key_of a) (at_line line a)) → Answer s (front ∷ a ∷ words)
  unfolding layer_name_row
  layer_key s front a words is at_ h =
      let e = only (λ t. After t words) (λ t. D t words) (λ t. C t words) _ _ (is_name (key_of a)) h in
      layer_number s front a words (routing_named tech a.bytes) refl is e.0 at_ e.1

  layer : (s : State) (front : Lexeme) (words : List Lexeme) → key_of front ≡ keys.Layer → s.progress.stage ≡ stages.Entries → After (record s { row = rows.LayerName }) words → Answer s (front ∷ words)
  layer s front [] is at_ h = absurd h
  layer s front (a ∷ words) is at_ h = layer_key s front a words is at_ (rw turns at h)

  -- ---- VIA

  via_value : (s : State) (front a b : Lexeme) (words : List Lexeme) (number : ℕ) (resistance : Option ℕ) → unquoted (key_of b) (resistance_of b.bytes) ≡ resistance → key_of front ≡ keys.Via → (is_name (key_of a) ≡ true) × (cut_named tech a.bytes ≡ Some number)
      → s.progress.stage ≡ stages.Entries → is_some (cut_in s.progress.cuts number) ≡ false → Then words (takes_via (record s { row = rows.ViaNumber; cut = number }) (at_line line b) resistance) → Answer s (front ∷ a ∷ b ∷ words)
  via_value s front a b words number None same is named at_ new h = absurd h
  via_value s front a b words number (Some resistance) same is named at_ new h =
      let t : State = record s { row = rows.ViaNumber; cut = number } in
      let g = due units tech line D C (with_cut t resistance) words h in
      One (record (with_cut t resistance) { row = rows.Begin }) (front ∷ a ∷ b ∷ g.0 ∷ []) g.1 (ap (λ ws. front ∷ a ∷ b ∷ ws) g.2)
      (Via number resistance (is, (named, (unquoted_some (key_of b) (resistance_of b.bytes) resistance same, (g.3, tt)))) at_ new refl) refl g.4

  via_number_key : (s : State) (front a b : Lexeme) (words : List Lexeme) (number : ℕ) → key_of front ≡ keys.Via → (is_name (key_of a) ≡ true) × (cut_named tech a.bytes ≡ Some number) → s.progress.stage ≡ stages.Entries → is_some (cut_in s.progress.cuts number) ≡ false
      → Then words (via_number_row (record s { row = rows.ViaNumber; cut = number }) (key_of b) (at_line line b)) → Answer s (front ∷ a ∷ b ∷ words)
  unfolding via_number_row
  via_number_key s front a b words number is named at_ new h = via_value s front a b words number (unquoted (key_of b) (resistance_of b.bytes)) refl is named at_ new h

  via_number : (s : State) (front a : Lexeme) (words : List Lexeme) (number : ℕ) → key_of front ≡ keys.Via → (is_name (key_of a) ≡ true) × (cut_named tech a.bytes ≡ Some number) → s.progress.stage ≡ stages.Entries → is_some (cut_in s.progress.cuts number) ≡ false
      → After (record s { row = rows.ViaNumber; cut = number }) words → Answer s (front ∷ a ∷ words)
  via_number s front a [] number is named at_ new h = absurd h
  via_number s front a (b ∷ words) number is named at_ new h = via_number_key s front a b words number is named at_ new (rw turns at h)

  via_cut : (s : State) (front a : Lexeme) (words : List Lexeme) (number : Option ℕ) → cut_named tech a.bytes ≡ number → key_of front ≡ keys.Via → is_name (key_of a) ≡ true → s.progress.stage ≡ stages.Entries
      → Then words (takes_cut (record s { row = rows.ViaName }) (at_line line a) number) → Answer s (front ∷ a ∷ words)
  via_cut s front a words None same is named at_ h = absurd h
  via_cut s front a words (Some number) same is named at_ h =
      let e = unless (λ t. After t words) (λ t. D t words) (λ t. C t words) _ _ (is_some (cut_in s.progress.cuts number)) h in
      via_number s front a words number is (named, same) at_ e.0 e.1

  via_key : (s : State) (front a : Lexeme) (words : List Lexeme) → key_of front ≡ keys.Via → s.progress.stage ≡ stages.Entries → Then words (via_name_row tech (record s { row = rows.ViaName }) (key_of a) (at_line line a)) → Answer s (front ∷ a ∷ words)
  unfolding via_name_row
  via_key s front a words is at_ h =
      let e = only (λ t. After t words) (λ t. D t words) (λ t. C t words) _ _ (is_name (key_of a)) h in
      via_cut s front a words (cut_named tech a.bytes) refl is e.0 at_ e.1

  via : (s : State) (front : Lexeme) (words : List Lexeme) → key_of front ≡ keys.Via → s.progress.stage ≡ stages.Entries → After (record s { row = rows.ViaName }) words → Answer s (front ∷ words)
  via s front [] is at_ h = absurd h
  via s front (a ∷ words) is at_ h = via_key s front a words is at_ (rw turns at h)

  -- ---- CONTACT

  contact_value : (s : State) (front a : Lexeme) (words : List Lexeme) (resistance : Option ℕ) → unquoted (key_of a) (resistance_of a.bytes) ≡ resistance → key_of front ≡ keys.Contact → s.progress.stage ≡ stages.Entries → is_some s.progress.contact ≡ false
      → Then words (takes_contact (record s { row = rows.Contact }) (at_line line a) resistance) → Answer s (front ∷ a ∷ words)
  contact_value s front a words None same is at_ new h = absurd h
  contact_value s front a words (Some resistance) same is at_ new h =
      let t : State = record s { row = rows.Contact } in
      let g = due units tech line D C (with_contact t resistance) words h in
      One (record (with_contact t resistance) { row = rows.Begin }) (front ∷ a ∷ g.0 ∷ []) g.1 (ap (λ ws. front ∷ a ∷ ws) g.2)
      (Contact resistance (is, (unquoted_some (key_of a) (resistance_of a.bytes) resistance same, (g.3, tt))) at_ new refl) refl g.4

  contact_key : (s : State) (front a : Lexeme) (words : List Lexeme) → key_of front ≡ keys.Contact → s.progress.stage ≡ stages.Entries → is_some s.progress.contact ≡ false
      → Then words (contact_row (record s { row = rows.Contact }) (key_of a) (at_line line a)) → Answer s (front ∷ a ∷ words)
  unfolding contact_row
  contact_key s front a words is at_ new h = contact_value s front a words (unquoted (key_of a) (resistance_of a.bytes)) refl is at_ new h

  contact : (s : State) (front : Lexeme) (words : List Lexeme) → key_of front ≡ keys.Contact → s.progress.stage ≡ stages.Entries → is_some s.progress.contact ≡ false → After (record s { row = rows.Contact }) words → Answer s (front ∷ words)
  contact s front [] is at_ new h = absurd h
  contact s front (a ∷ words) is at_ new h = contact_key s front a words is at_ new (rw turns at h)

  -- ---- END RULES

  close_key : (s : State) (front a b : Lexeme) (words : List Lexeme) (key : Key) → key_of front ≡ keys.End → key_of a ≡ keys.Rules → key_of b ≡ key → s.progress.stage ≡ stages.Entries → Then words (close_row (record s { row = rows.Close }) key (at_line line b)) → Answer s (front ∷ a ∷ b ∷ words)
  unfolding close_row
  close_key s front a b words keys.Semicolon is next same at_ h = End (record s { row = rows.Close }) words (is, next, same) at_ refl h
  close_key s front a b words _ is next same at_ h = absurd h

  closes : (s : State) (front a : Lexeme) (words : List Lexeme) → key_of front ≡ keys.End → key_of a ≡ keys.Rules → s.progress.stage ≡ stages.Entries → After (record s { row = rows.Close }) words → Answer s (front ∷ a ∷ words)
  closes s front a [] is next at_ h = absurd h
  closes s front a (b ∷ words) is next at_ h = close_key s front a b words (key_of b) is next refl at_ (rw turns at h)

  rules_key : (s : State) (front a : Lexeme) (words : List Lexeme) (key : Key) → key_of front ≡ keys.End → key_of a ≡ key → s.progress.stage ≡ stages.Entries → Then words (end_of_rules (record s { row = rows.End }) key (at_line line a)) → Answer s (front ∷ a ∷ words)
  unfolding end_of_rules
  rules_key s front a words keys.Rules is same at_ h = closes s front a words is same at_ h
  rules_key s front a words _ is same at_ h = absurd h

  end_rules : (s : State) (front : Lexeme) (words : List Lexeme) → key_of front ≡ keys.End → s.progress.stage ≡ stages.Entries → After (record s { row = rows.End }) words → Answer s (front ∷ words)
  end_rules s front [] is at_ h = absurd h
  end_rules s front (a ∷ words) is at_ h = rules_key s front a words (key_of a) is refl at_ (rw (end_turn units tech line s stages.Entries a at_) at h)

  pub entry : (s : State) (front : Lexeme) (words : List Lexeme) (key : Key) → key_of front ≡ key → s.progress.stage ≡ stages.Entries → Then words (entry_row s key (at_line line front)) → Answer s (front ∷ words)
  unfolding entry_row
  entry s front words keys.Layer is at_ h = layer s front words is at_ h
  entry s front words keys.Via is at_ h = via s front words is at_ h
  entry s front words keys.Contact is at_ h = let e = unless (λ t. After t words) (λ t. D t words) (λ t. C t words) _ _ (is_some s.progress.contact) h in contact s front words is at_ e.0 e.1
  entry s front words keys.End is at_ h = end_rules s front words is at_ h
  entry s front words _ is at_ h = absurd h
