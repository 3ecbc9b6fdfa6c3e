-- What the rows take inside a layer's block is statements.
use Rattle.std.proofs.Common.{◌≡◌, ◌∙◌, ℕ, Bool, true, false, cond, List, [], ◌∷◌, ◌++◌, length, refl, ap, sym, append_assoc}
use Rattle.std.specs.Prelude.{Option, Some, None, ◌&&◌, ◌==◌, not, nat_le, nat_lt, is_some, position}
use Rattle.rc_keys.specs.Lexemes.{Lexeme}
use Rattle.rc_keys.specs.declared.code.Code.TheVariants.{E03}
use Rattle.rc_keys.specs.Course.{Turn, refuse}
use Rattle.rc_keys.specs.Statements.{at_line}
use Rattle.rc_keys.specs.Phrases.{Spells}
use Rattle.rc_keys.proofs.Phrasing.{On, unless, only, Takes}
use Rattle.rc_lef.specs.declared.units.Units.{Units}
use Rattle.rc_lef.specs.Technology.{Technology}
use Rattle.rc_rules.specs.declared.key.Key.{Key}
use Rattle.rc_rules.specs.declared.key.Key.TheVariants as keys
use Rattle.rc_rules.specs.declared.state.Stage.{Stage}
use Rattle.rc_rules.specs.declared.state.Stage.TheVariants as stages
use Rattle.rc_rules.specs.declared.state.Row.{Row as RowKind}
use Rattle.rc_rules.specs.declared.state.Row.TheVariants as rows
use Rattle.rc_rules.specs.declared.state.State.{State}
use Rattle.rc_rules.specs.Keys.{key_of, is_name, is_semicolon, is_nothing}
use Rattle.rc_rules.specs.Numbers.{length_of, share_of}
use Rattle.rc_rules.specs.Scales.{rises}
use Rattle.rc_rules.specs.Layers.{routing_named}
use Rattle.rc_rules.specs.LookUp.{is_for}
use Rattle.rc_rules.specs.Blocks.{is_full, is_complete}
use Rattle.rc_rules.specs.Phrases.{Part, semicolon, Length, Share, Says, IsLayerOrNone, Are}
use Rattle.rc_rules.specs.Statements.{listed, lies_below, lies_over, Widths, Distances, Resistances, Table, Row, EndLayer}
use Rattle.rc_rules.specs.Rows.{widths_row, distances_row, takes_step, with_widths, with_distances, width_row, distance_row, resistances_row, takes_number, with_resistances, resistance_row, columns, with_row, number_row, table_row, under_row, over_row, takes_under, under_layer_row, with_pair, takes_pair, takes_over, over_layer_row, closes_layer, end_of_layer, begin_in, unquoted, ends, rules_turn}
use Rattle.rc_rules.proofs.Lists as lists
use Rattle.rc_rules.proofs.Lists.{spelled}
use Rattle.rc_rules.proofs.Turns.{both, not_true, first, semicolon_key, unquoted_some, few, scales, one_more, few_none, scale_is, same_length, turns, begins, end_turn, due}
use Rattle.rc_rules.proofs.Taken.{Reads, One, heading, entry}

abbrev pub ends_list : Lexeme → Bool
ends_list word = is_semicolon (key_of word)

module _ (units : Units) (tech : Technology) (line : ℕ) (D C : State → List Lexeme → Type 0) where
  abbrev After : State → List Lexeme → Type 0
  After s words = Takes (rules_turn units tech) line D C s words

  abbrev Then : List Lexeme → Turn State → Type 0
  Then words turn = On (λ s. After s words) (λ s. D s words) (λ s. C s words) turn

  abbrev Answer : State → List Lexeme → Type 0
  Answer s words = Reads units tech D C s words

  -- ---- the next length, and the next number

  step_value : (most : ℕ) (s : State) (row : RowKind) (xs : List ℕ) (word : Lexeme) (words : List Lexeme) (step : Option ℕ) → is_semicolon (key_of word) ≡ false → unquoted (key_of word) (length_of units word.bytes) ≡ step
      → Then words (takes_step most (record s { row = row; steps = xs }) (at_line line word) step)
      → (x : ℕ) × Says units tech (Length x) word × (scales most (xs ++ x ∷ []) ≡ true) × After (record s { row = row; steps = xs ++ x ∷ [] }) words
  step_value most s row xs word words None un same h = absurd h
  step_value most s row xs word words (Some x) un same h =
      let e = only (λ t. After t words) (λ t. D t words) (λ t. C t words) _ _ (nat_lt (length xs) most && rises (xs ++ x ∷ [])) h in
      let b = both (nat_lt (length xs) most) (rises (xs ++ x ∷ [])) e.0 in
      let u = unquoted_some (key_of word) (length_of units word.bytes) x same in
      let fits : few most (xs ++ x ∷ []) ≡ true = sym (one_more most xs x) ∙ b.0 in
      (x, (un, u.0, u.1), rw (fits, b.1) refl, e.1)

  number_value : (most : ℕ) (s : State) (row : RowKind) (xs : List ℕ) (word : Lexeme) (words : List Lexeme) (number : Option ℕ) → is_semicolon (key_of word) ≡ false → unquoted (key_of word) (share_of units word.bytes) ≡ number
      → Then words (takes_number most (record s { row = row; numbers = xs }) (at_line line word) number)
      → (x : ℕ) × Says units tech (Share x) word × (few most (xs ++ x ∷ []) ≡ true) × After (record s { row = row; numbers = xs ++ x ∷ [] }) words
  number_value most s row xs word words None un same h = absurd h
  number_value most s row xs word words (Some x) un same h =
      let e = only (λ t. After t words) (λ t. D t words) (λ t. C t words) _ _ (nat_lt (length xs) most) h in
      let u = unquoted_some (key_of word) (share_of units word.bytes) x same in
      (x, (un, u.0, u.1), sym (one_more most xs x) ∙ e.0, e.1)

  -- the tokens of a list are its parts
  are_listed : (key : Key) (part : ℕ → Part) (values : List ℕ) (front : Lexeme) (words : List Lexeme) (last : Lexeme) → key_of front ≡ key → Spells (λ value word. Says units tech (part value) word) values words → ends_list last ≡ true
      → Are units tech (listed key part values) (front ∷ (words ++ last ∷ []))
  are_listed key part values front words last is says ends = (is, spelled (Says units tech) part values words (semicolon ∷ []) (last ∷ []) says (semicolon_key (key_of last) ends, tt))

  regrouped : (front : Lexeme) (words : List Lexeme) (last : Lexeme) (rest all : List Lexeme) → all ≡ words ++ last ∷ rest → front ∷ all ≡ (front ∷ (words ++ last ∷ [])) ++ rest
  regrouped front words last rest all is = ap (λ ws. front ∷ ws) (is ∙ sym (append_assoc words (last ∷ []) rest))

  -- ---- WIDTHS

  width_key : (s : State) (xs : List ℕ) (word : Lexeme) (words : List Lexeme) (key : Key) → key_of word ≡ key → is_semicolon key ≡ false → Then words (width_row units (record s { row = rows.Widths; steps = xs }) key (at_line line word))
      → (x : ℕ) × Says units tech (Length x) word × (scales 16 (xs ++ x ∷ []) ≡ true) × After (record s { row = rows.Widths; steps = xs ++ x ∷ [] }) words
  unfolding width_row
  width_key s xs word words keys.Semicolon is un h = absurd cc
  width_key s xs word words k is un h = step_value 16 s rows.Widths xs word words (unquoted k (length_of units word.bytes)) (rw is un) (rw is refl) h

  width_end : (s : State) (xs : List ℕ) (word : Lexeme) → ends_list word ≡ true → rules_turn units tech (record s { row = rows.Widths; steps = xs }) (at_line line word) ≡ width_row units (record s { row = rows.Widths; steps = xs }) keys.Semicolon (at_line line word)
  width_end s xs word is = turns units tech line (record s { row = rows.Widths; steps = xs }) word ∙ ap (λ key. width_row units (record s { row = rows.Widths; steps = xs }) key (at_line line word)) (semicolon_key (key_of word) is)

  widths_done : (s : State) (front : Lexeme) (xs : List ℕ) (words : List Lexeme) (last : Lexeme) (rest all : List Lexeme) → key_of front ≡ keys.Widths → s.progress.stage ≡ stages.Widths → all ≡ words ++ last ∷ rest
      → Spells (λ value word. Says units tech (Length value) word) xs words → ends_list last ≡ true → scales 16 xs ≡ true → Then rest (width_row units (record s { row = rows.Widths; steps = xs }) keys.Semicolon (at_line line last)) → Answer s (front ∷ all)
  unfolding width_row
  widths_done s front xs words last rest all is at_ same says stop fits h =
      let e = only (λ t. After t rest) (λ t. D t rest) (λ t. C t rest) _ _ (nat_le 1 (length xs)) h in
      One (record (with_widths (record s { row = rows.Widths; steps = xs })) { row = rows.Begin }) (front ∷ (words ++ last ∷ [])) rest (regrouped front words last rest all same)
      (Widths xs (are_listed keys.Widths (λ x. Length x) xs front words last is says stop) at_ (scale_is 16 xs e.0 fits) refl) refl e.1

  widths : (s : State) (front : Lexeme) (words : List Lexeme) → key_of front ≡ keys.Widths → s.progress.stage ≡ stages.Widths → After (record s { row = rows.Widths; steps = [] }) words → Answer s (front ∷ words)
  widths s front words is at_ h =
      let f = lists.listed (rules_turn units tech) line D C (λ value word. Says units tech (Length value) word) ends_list (scales 16) (λ xs. record s { row = rows.Widths; steps = xs }) (λ xs word. width_row units (record s { row = rows.Widths; steps = xs }) keys.Semicolon word)
      (width_end s) (λ xs word ws un t. width_key s xs word ws (key_of word) refl un (rw turns at t)) [] words refl h in
      widths_done s front f.0 f.1 f.2 f.3 words is at_ f.4 f.5 f.6 f.7 f.8

  widths_front : (s : State) (front : Lexeme) (words : List Lexeme) (key : Key) → key_of front ≡ key → s.progress.stage ≡ stages.Widths → Then words (widths_row s key (at_line line front)) → Answer s (front ∷ words)
  unfolding widths_row
  widths_front s front words keys.Widths is at_ h = widths s front words is at_ h
  widths_front s front words _ is at_ h = absurd h

  -- ---- DISTS

  distance_key : (s : State) (xs : List ℕ) (word : Lexeme) (words : List Lexeme) (key : Key) → key_of word ≡ key → is_semicolon key ≡ false → Then words (distance_row units (record s { row = rows.Distances; steps = xs }) key (at_line line word))
      → (x : ℕ) × Says units tech (Length x) word × (scales 32 (xs ++ x ∷ []) ≡ true) × After (record s { row = rows.Distances; steps = xs ++ x ∷ [] }) words
  unfolding distance_row
  distance_key s xs word words keys.Semicolon is un h = absurd cc
  distance_key s xs word words k is un h = step_value 32 s rows.Distances xs word words (unquoted k (length_of units word.bytes)) (rw is un) (rw is refl) h

  distance_end : (s : State) (xs : List ℕ) (word : Lexeme) → ends_list word ≡ true → rules_turn units tech (record s { row = rows.Distances; steps = xs }) (at_line line word) ≡ distance_row units (record s { row = rows.Distances; steps = xs }) keys.Semicolon (at_line line word)
  distance_end s xs word is = turns units tech line (record s { row = rows.Distances; steps = xs }) word ∙ ap (λ key. distance_row units (record s { row = rows.Distances; steps = xs }) key (at_line line word)) (semicolon_key (key_of word) is)

  distances_done : (s : State) (front : Lexeme) (xs : List ℕ) (words : List Lexeme) (last : Lexeme) (rest all : List Lexeme) → key_of front ≡ keys.Dists → s.progress.stage ≡ stages.Distances → all ≡ words ++ last ∷ rest
      → Spells (λ value word. Says units tech (Length value) word) xs words → ends_list last ≡ true → scales 32 xs ≡ true → Then rest (distance_row units (record s { row = rows.Distances; steps = xs }) keys.Semicolon (at_line line last)) → Answer s (front ∷ all)
  unfolding distance_row
  distances_done s front xs words last rest all is at_ same says stop fits h =
      let e = only (λ t. After t rest) (λ t. D t rest) (λ t. C t rest) _ _ (nat_le 1 (length xs)) h in
      One (record (with_distances (record s { row = rows.Distances; steps = xs })) { row = rows.Begin }) (front ∷ (words ++ last ∷ [])) rest (regrouped front words last rest all same)
      (Distances xs (are_listed keys.Dists (λ x. Length x) xs front words last is says stop) at_ (scale_is 32 xs e.0 fits) refl) refl e.1

  distances : (s : State) (front : Lexeme) (words : List Lexeme) → key_of front ≡ keys.Dists → s.progress.stage ≡ stages.Distances → After (record s { row = rows.Distances; steps = [] }) words → Answer s (front ∷ words)
  distances s front words is at_ h =
      let f = lists.listed (rules_turn units tech) line D C (λ value word. Says units tech (Length value) word) ends_list (scales 32) (λ xs. record s { row = rows.Distances; steps = xs }) (λ xs word. distance_row units (record s { row = rows.Distances; steps = xs }) keys.Semicolon word)
      (distance_end s) (λ xs word ws un t. distance_key s xs word ws (key_of word) refl un (rw turns at t)) [] words refl h in
      distances_done s front f.0 f.1 f.2 f.3 words is at_ f.4 f.5 f.6 f.7 f.8

  distances_front : (s : State) (front : Lexeme) (words : List Lexeme) (key : Key) → key_of front ≡ key → s.progress.stage ≡ stages.Distances → Then words (distances_row s key (at_line line front)) → Answer s (front ∷ words)
  unfolding distances_row
  distances_front s front words keys.Dists is at_ h = distances s front words is at_ h
  distances_front s front words _ is at_ h = absurd h

  -- ---- RES

  resistance_key : (s : State) (xs : List ℕ) (word : Lexeme) (words : List Lexeme) (key : Key) → key_of word ≡ key → is_semicolon key ≡ false → Then words (resistance_row units (record s { row = rows.Resistances; numbers = xs }) key (at_line line word))
      → (x : ℕ) × Says units tech (Share x) word × (few (length s.progress.block.widths) (xs ++ x ∷ []) ≡ true) × After (record s { row = rows.Resistances; numbers = xs ++ x ∷ [] }) words
  unfolding resistance_row
  resistance_key s xs word words keys.Semicolon is un h = absurd cc
  resistance_key s xs word words k is un h = number_value (length s.progress.block.widths) s rows.Resistances xs word words (unquoted k (share_of units word.bytes)) (rw is un) (rw is refl) h

  resistance_end : (s : State) (xs : List ℕ) (word : Lexeme) → ends_list word ≡ true → rules_turn units tech (record s { row = rows.Resistances; numbers = xs }) (at_line line word) ≡ resistance_row units (record s { row = rows.Resistances; numbers = xs }) keys.Semicolon (at_line line word)
  resistance_end s xs word is = turns units tech line (record s { row = rows.Resistances; numbers = xs }) word ∙ ap (λ key. resistance_row units (record s { row = rows.Resistances; numbers = xs }) key (at_line line word)) (semicolon_key (key_of word) is)

  resistances_done : (s : State) (front : Lexeme) (xs : List ℕ) (words : List Lexeme) (last : Lexeme) (rest all : List Lexeme) → key_of front ≡ keys.Res → s.progress.stage ≡ stages.Resistances → all ≡ words ++ last ∷ rest
      → Spells (λ value word. Says units tech (Share value) word) xs words → ends_list last ≡ true → Then rest (resistance_row units (record s { row = rows.Resistances; numbers = xs }) keys.Semicolon (at_line line last)) → Answer s (front ∷ all)
  unfolding resistance_row
  resistances_done s front xs words last rest all is at_ same says stop h =
      let e = only (λ t. After t rest) (λ t. D t rest) (λ t. C t rest) _ _ (length xs == length s.progress.block.widths) h in
      One (record (with_resistances (record s { row = rows.Resistances; numbers = xs })) { row = rows.Begin }) (front ∷ (words ++ last ∷ [])) rest (regrouped front words last rest all same)
      (Resistances xs (are_listed keys.Res (λ x. Share x) xs front words last is says stop) at_ (same_length (length xs) (length s.progress.block.widths) e.0) refl) refl e.1

  resistances : (s : State) (front : Lexeme) (words : List Lexeme) → key_of front ≡ keys.Res → s.progress.stage ≡ stages.Resistances → After (record s { row = rows.Resistances; numbers = [] }) words → Answer s (front ∷ words)
  resistances s front words is at_ h =
      let f = lists.listed (rules_turn units tech) line D C (λ value word. Says units tech (Share value) word) ends_list (few (length s.progress.block.widths)) (λ xs. record s { row = rows.Resistances; numbers = xs }) (λ xs word. resistance_row units (record s { row = rows.Resistances; numbers = xs }) keys.Semicolon word)
      (resistance_end s) (λ xs word ws un t. resistance_key s xs word ws (key_of word) refl un (rw turns at t)) [] words (few_none (length s.progress.block.widths)) h in
      resistances_done s front f.0 f.1 f.2 f.3 words is at_ f.4 f.5 f.6 f.8

  resistances_front : (s : State) (front : Lexeme) (words : List Lexeme) (key : Key) → key_of front ≡ key → s.progress.stage ≡ stages.Resistances → Then words (resistances_row s key (at_line line front)) → Answer s (front ∷ words)
  unfolding resistances_row
  resistances_front s front words keys.Res is at_ h = resistances s front words is at_ h
  resistances_front s front words _ is at_ h = absurd h

  -- ---- ROW

  number_key : (s : State) (xs : List ℕ) (word : Lexeme) (words : List Lexeme) (key : Key) → key_of word ≡ key → is_semicolon key ≡ false → Then words (number_row units (record s { row = rows.Numbers; numbers = xs }) key (at_line line word))
      → (x : ℕ) × Says units tech (Share x) word × (few (columns s.progress.block) (xs ++ x ∷ []) ≡ true) × After (record s { row = rows.Numbers; numbers = xs ++ x ∷ [] }) words
  unfolding number_row
  number_key s xs word words keys.Semicolon is un h = absurd cc
  number_key s xs word words k is un h = number_value (columns s.progress.block) s rows.Numbers xs word words (unquoted k (share_of units word.bytes)) (rw is un) (rw is refl) h

  number_end : (s : State) (xs : List ℕ) (word : Lexeme) → ends_list word ≡ true → rules_turn units tech (record s { row = rows.Numbers; numbers = xs }) (at_line line word) ≡ number_row units (record s { row = rows.Numbers; numbers = xs }) keys.Semicolon (at_line line word)
  number_end s xs word is = turns units tech line (record s { row = rows.Numbers; numbers = xs }) word ∙ ap (λ key. number_row units (record s { row = rows.Numbers; numbers = xs }) key (at_line line word)) (semicolon_key (key_of word) is)

  row_done : (s : State) (front : Lexeme) (xs : List ℕ) (words : List Lexeme) (last : Lexeme) (rest all : List Lexeme) → key_of front ≡ keys.Row → s.progress.stage ≡ stages.Tables → is_full s.progress.block ≡ false → all ≡ words ++ last ∷ rest
      → Spells (λ value word. Says units tech (Share value) word) xs words → ends_list last ≡ true → Then rest (number_row units (record s { row = rows.Numbers; numbers = xs }) keys.Semicolon (at_line line last)) → Answer s (front ∷ all)
  unfolding number_row
  row_done s front xs words last rest all is at_ missing same says stop h =
      let e = only (λ t. After t rest) (λ t. D t rest) (λ t. C t rest) _ _ (length xs == columns s.progress.block) h in
      One (record (with_row (record s { row = rows.Numbers; numbers = xs })) { row = rows.Begin }) (front ∷ (words ++ last ∷ [])) rest (regrouped front words last rest all same)
      (Row xs (are_listed keys.Row (λ x. Share x) xs front words last is says stop) at_ missing (same_length (length xs) (columns s.progress.block) e.0) refl) refl e.1

  row : (s : State) (front : Lexeme) (words : List Lexeme) → key_of front ≡ keys.Row → s.progress.stage ≡ stages.Tables → is_full s.progress.block ≡ false → After (record s { row = rows.Numbers; numbers = [] }) words → Answer s (front ∷ words)
  row s front words is at_ missing h =
      let f = lists.listed (rules_turn units tech) line D C (λ value word. Says units tech (Share value) word) ends_list (few (columns s.progress.block)) (λ xs. record s { row = rows.Numbers; numbers = xs }) (λ xs word. number_row units (record s { row = rows.Numbers; numbers = xs }) keys.Semicolon word)
      (number_end s) (λ xs word ws un t. number_key s xs word ws (key_of word) refl un (rw turns at t)) [] words (few_none (columns s.progress.block)) h in
      row_done s front f.0 f.1 f.2 f.3 words is at_ missing f.4 f.5 f.6 f.8

  -- ---- END LAYER

  layer_key : (s : State) (front a : Lexeme) (words : List Lexeme) (key : Key) → key_of front ≡ keys.End → key_of a ≡ key → s.progress.stage ≡ stages.Tables → is_full s.progress.block ≡ true → Then words (end_of_layer (record s { row = rows.End }) key (at_line line a)) → Answer s (front ∷ a ∷ words)
  unfolding end_of_layer
  layer_key s front a words keys.Layer is same at_ full h =
      let e = only (λ t. After t words) (λ t. D t words) (λ t. C t words) _ _ (is_complete s.progress.block) h in
      let g = due units tech line D C (closes_layer (record s { row = rows.End })) words e.1 in
      One (record (closes_layer s) { row = rows.Begin }) (front ∷ a ∷ g.0 ∷ []) g.1 (ap (λ ws. front ∷ a ∷ ws) g.2) (EndLayer (is, (same, (g.3, tt))) at_ full e.0 refl) refl g.4
  layer_key s front a words _ is same at_ full h = absurd h

  end_layer : (s : State) (front : Lexeme) (words : List Lexeme) → key_of front ≡ keys.End → s.progress.stage ≡ stages.Tables → is_full s.progress.block ≡ true → After (record s { row = rows.End }) words → Answer s (front ∷ words)
  end_layer s front [] is at_ full h = absurd h
  end_layer s front (a ∷ words) is at_ full h = layer_key s front a words (key_of a) is refl at_ full (rw (end_turn units tech line s stages.Tables a at_) at h)

  -- ---- TABLE

  -- what is known of a table up to its layer over
  record Begun (s : State) (front a b c : Lexeme) (under : Option ℕ) : Type 0 where
    is : key_of front ≡ keys.Table
    at_ : s.progress.stage ≡ stages.Tables
    full : is_full s.progress.block ≡ true
    a_is : key_of a ≡ keys.Under
    b_is : IsLayerOrNone tech under b
    below : lies_below under s.progress.number ≡ true
    c_is : key_of c ≡ keys.Over

  pair : (s : State) (front a b c d : Lexeme) (words : List Lexeme) (under over : Option ℕ) → Begun s front a b c under → IsLayerOrNone tech over d → lies_over over s.progress.number ≡ true
      → Then words (takes_pair (record s { row = rows.OverLayer; under = under }) (at_line line d) over) → Answer s (front ∷ a ∷ b ∷ c ∷ d ∷ words)
  unfolding takes_pair
  pair s front a b c d words under over t d_is above h =
      let e = unless (λ t. After t words) (λ t. D t words) (λ t. C t words) _ _ (is_some (position (is_for under over) s.progress.block.pairs)) h in
      let f = only (λ t. After t words) (λ t. D t words) (λ t. C t words) _ _ (nat_lt (length s.progress.block.pairs) 256) e.1 in
      let g = due units tech line D C (with_pair (record s { row = rows.OverLayer; under = under }) over) words f.1 in
      One (record (with_pair (record s { row = rows.OverLayer; under = under }) over) { row = rows.Begin }) (front ∷ a ∷ b ∷ c ∷ d ∷ g.0 ∷ []) g.1 (ap (λ ws. front ∷ a ∷ b ∷ c ∷ d ∷ ws) g.2)
      (Table under over (t.is, (t.a_is, (t.b_is, (t.c_is, (d_is, (g.3, tt)))))) t.at_ t.full f.0 t.below above e.0 refl) refl g.4

  over_value : (s : State) (front a b c d : Lexeme) (words : List Lexeme) (under number : Option ℕ) → Begun s front a b c under → routing_named tech d.bytes ≡ number → is_nothing (key_of d) ≡ false → is_name (key_of d) ≡ true
      → Then words (takes_over (record s { row = rows.OverLayer; under = under }) (at_line line d) number) → Answer s (front ∷ a ∷ b ∷ c ∷ d ∷ words)
  over_value s front a b c d words under None t same un named h = absurd h
  over_value s front a b c d words under (Some number) t same un named h =
      let e = only (λ t. After t words) (λ t. D t words) (λ t. C t words) _ _ (nat_lt s.progress.number number) h in
      pair s front a b c d words under (Some number) t (un, named, same) e.0 e.1

  over_named : (s : State) (front a b c d : Lexeme) (words : List Lexeme) (under : Option ℕ) (named : Bool) → Begun s front a b c under → is_name (key_of d) ≡ named → is_nothing (key_of d) ≡ false
      → Then words (cond named (takes_over (record s { row = rows.OverLayer; under = under }) (at_line line d) (routing_named tech d.bytes)) (refuse E03 (at_line line d))) → Answer s (front ∷ a ∷ b ∷ c ∷ d ∷ words)
  over_named s front a b c d words under true t named un h = over_value s front a b c d words under (routing_named tech d.bytes) t refl un named h
  over_named s front a b c d words under false t named un h = absurd h

  over_key : (s : State) (front a b c d : Lexeme) (words : List Lexeme) (under : Option ℕ) (key : Key) → Begun s front a b c under → key_of d ≡ key
      → Then words (over_layer_row tech (record s { row = rows.OverLayer; under = under }) key (at_line line d)) → Answer s (front ∷ a ∷ b ∷ c ∷ d ∷ words)
  unfolding over_layer_row
  over_key s front a b c d words under keys.Nothing t same h = pair s front a b c d words under None t same refl h
  over_key s front a b c d words under k t same h = over_named s front a b c d words under (is_name k) t (rw same refl) (rw same refl) h

  over_layer : (s : State) (front a b c : Lexeme) (words : List Lexeme) (under : Option ℕ) → Begun s front a b c under → After (record s { row = rows.OverLayer; under = under }) words → Answer s (front ∷ a ∷ b ∷ c ∷ words)
  over_layer s front a b c [] under t h = absurd h
  over_layer s front a b c (d ∷ words) under t h = over_key s front a b c d words under (key_of d) t refl (rw turns at h)

  -- up to the layer under
  record Named (s : State) (front a b : Lexeme) (under : Option ℕ) : Type 0 where
    is : key_of front ≡ keys.Table
    at_ : s.progress.stage ≡ stages.Tables
    full : is_full s.progress.block ≡ true
    a_is : key_of a ≡ keys.Under
    b_is : IsLayerOrNone tech under b
    below : lies_below under s.progress.number ≡ true

  over_word : (s : State) (front a b c : Lexeme) (words : List Lexeme) (under : Option ℕ) (key : Key) → Named s front a b under → key_of c ≡ key → Then words (over_row (record s { row = rows.Over; under = under }) key (at_line line c)) → Answer s (front ∷ a ∷ b ∷ c ∷ words)
  unfolding over_row
  over_word s front a b c words under keys.Over t same h = over_layer s front a b c words under (record { is = t.is; at_ = t.at_; full = t.full; a_is = t.a_is; b_is = t.b_is; below = t.below; c_is = same }) h
  over_word s front a b c words under _ t same h = absurd h

  over : (s : State) (front a b : Lexeme) (words : List Lexeme) (under : Option ℕ) → Named s front a b under → After (record s { row = rows.Over; under = under }) words → Answer s (front ∷ a ∷ b ∷ words)
  over s front a b [] under t h = absurd h
  over s front a b (c ∷ words) under t h = over_word s front a b c words under (key_of c) t refl (rw turns at h)

  module _ (s : State) (front a : Lexeme) (is : key_of front ≡ keys.Table) (at_ : s.progress.stage ≡ stages.Tables) (full : is_full s.progress.block ≡ true) (a_is : key_of a ≡ keys.Under) where
    under_value : (b : Lexeme) (words : List Lexeme) (number : Option ℕ) → routing_named tech b.bytes ≡ number → is_nothing (key_of b) ≡ false → is_name (key_of b) ≡ true
        → Then words (takes_under (record s { row = rows.UnderLayer }) (at_line line b) number) → Answer s (front ∷ a ∷ b ∷ words)
    under_value b words None same un named h = absurd h
    under_value b words (Some number) same un named h =
        let e = only (λ t. After t words) (λ t. D t words) (λ t. C t words) _ _ (nat_lt number s.progress.number) h in
        over s front a b words (Some number) (record { is = is; at_ = at_; full = full; a_is = a_is; b_is = (un, named, same); below = e.0 }) e.1

    under_named : (b : Lexeme) (words : List Lexeme) (named : Bool) → is_name (key_of b) ≡ named → is_nothing (key_of b) ≡ false
        → Then words (cond named (takes_under (record s { row = rows.UnderLayer }) (at_line line b) (routing_named tech b.bytes)) (refuse E03 (at_line line b))) → Answer s (front ∷ a ∷ b ∷ words)
    under_named b words true named un h = under_value b words (routing_named tech b.bytes) refl un named h
    under_named b words false named un h = absurd h

    under_key : (b : Lexeme) (words : List Lexeme) (key : Key) → key_of b ≡ key → Then words (under_layer_row tech (record s { row = rows.UnderLayer }) key (at_line line b)) → Answer s (front ∷ a ∷ b ∷ words)
    unfolding under_layer_row
    under_key b words keys.Nothing same h = over s front a b words None (record { is = is; at_ = at_; full = full; a_is = a_is; b_is = same; below = refl }) h
    under_key b words k same h = under_named b words (is_name k) (rw same refl) (rw same refl) h

    under_layer : (words : List Lexeme) → After (record s { row = rows.UnderLayer }) words → Answer s (front ∷ a ∷ words)
    under_layer [] h = absurd h
    under_layer (b ∷ words) h = under_key b words (key_of b) refl (rw turns at h)

  under_word : (s : State) (front a : Lexeme) (words : List Lexeme) (key : Key) → key_of front ≡ keys.Table → s.progress.stage ≡ stages.Tables → is_full s.progress.block ≡ true → key_of a ≡ key
      → Then words (under_row (record s { row = rows.Under }) key (at_line line a)) → Answer s (front ∷ a ∷ words)
  unfolding under_row
  under_word s front a words keys.Under is at_ full same h = under_layer s front a is at_ full same words h
  under_word s front a words _ is at_ full same h = absurd h

  under : (s : State) (front : Lexeme) (words : List Lexeme) → key_of front ≡ keys.Table → s.progress.stage ≡ stages.Tables → is_full s.progress.block ≡ true → After (record s { row = rows.Under }) words → Answer s (front ∷ words)
  under s front [] is at_ full h = absurd h
  under s front (a ∷ words) is at_ full h = under_word s front a words (key_of a) is at_ full refl (rw turns at h)

  -- ---- all of them

  table : (s : State) (front : Lexeme) (words : List Lexeme) (key : Key) → key_of front ≡ key → s.progress.stage ≡ stages.Tables → Then words (table_row s key (at_line line front)) → Answer s (front ∷ words)
  unfolding table_row
  table s front words keys.Row is at_ h =
      let e = first (λ t. After t words) (λ t. D t words) (λ t. C t words) _ _ _ (not (is_full s.progress.block)) (length s.progress.block.pairs == 0) h in
      row s front words is at_ (not_true (is_full s.progress.block) e.0) e.1
  table s front words keys.Table is at_ h =
      let e = only (λ t. After t words) (λ t. D t words) (λ t. C t words) _ _ (is_full s.progress.block && nat_lt (length s.progress.block.pairs) 256) h in
      under s front words is at_ (both (is_full s.progress.block) (nat_lt (length s.progress.block.pairs) 256) e.0).0 e.1
  table s front words keys.End is at_ h =
      let e = only (λ t. After t words) (λ t. D t words) (λ t. C t words) _ _ (is_full s.progress.block) h in
      end_layer s front words is at_ e.0 e.1
  table s front words _ is at_ h = absurd h

  by_stage : (s : State) (front : Lexeme) (words : List Lexeme) (stage : Stage) → s.progress.stage ≡ stage → Then words (begin_in stage s (key_of front) (at_line line front)) → Answer s (front ∷ words)
  by_stage s front words stages.Heading at_ h = heading units tech line D C s front words (key_of front) refl at_ h
  by_stage s front words stages.Entries at_ h = entry units tech line D C s front words (key_of front) refl at_ h
  by_stage s front words stages.Widths at_ h = widths_front s front words (key_of front) refl at_ h
  by_stage s front words stages.Distances at_ h = distances_front s front words (key_of front) refl at_ h
  by_stage s front words stages.Resistances at_ h = resistances_front s front words (key_of front) refl at_ h
  by_stage s front words stages.Tables at_ h = table s front words (key_of front) refl at_ h

  pub reads : (s : State) (words : List Lexeme) → s.row ≡ rows.Begin → After s words → Answer s words
  reads s [] row h = absurd h
  reads s (word ∷ words) row h = by_stage s word words s.progress.stage refl (rw (begins units tech line s s.progress.stage word row refl) at h)
