-- Every statement is taken by the rows.
use Rattle.std.proofs.Common.{◌≡◌, ◌∙◌, ℕ, Bool, true, false, cond, List, [], ◌∷◌, ◌++◌, length, map, refl, ap, sym, append_assoc}
use Rattle.std.proofs.lemmas.Slice.Eq.{bytes_eq-Decides}
use Rattle.std.specs.Prelude.{Option, Some, None, nat_le, nat_lt, is_some, codes}
use Rattle.std.specs.Str.{bytes_eq}
use Rattle.rc_keys.specs.Lexemes.{Lexeme}
use Rattle.rc_keys.specs.declared.code.Code.TheVariants.{E03}
use Rattle.rc_keys.specs.Course.{Turn, More, refuse}
use Rattle.rc_keys.specs.Statements.{at_line}
use Rattle.rc_keys.specs.Phrases.{Spells}
use Rattle.rc_keys.proofs.Phrasing.{Takes}
use Rattle.rc_lef.specs.declared.units.Units.{Units}
use Rattle.rc_lef.specs.Technology.{Technology}
use Rattle.rc_rules.specs.declared.key.Key.{Key}
use Rattle.rc_rules.specs.declared.key.Key.TheVariants as keys
use Rattle.rc_rules.specs.declared.state.Stage.TheVariants as stages
use Rattle.rc_rules.specs.declared.state.Row.{Row as RowKind}
use Rattle.rc_rules.specs.declared.state.Row.TheVariants as rows
use Rattle.rc_rules.specs.declared.state.Progress.{Progress}
use Rattle.rc_rules.specs.declared.state.State.{State}
use Rattle.rc_rules.specs.Keys.{key_of, is_name, is_quoted, is_semicolon}
use Rattle.rc_rules.specs.Numbers.{length_of, share_of, resistance_of}
use Rattle.rc_rules.specs.Scales.{rises}
use Rattle.rc_rules.specs.Layers.{routing_named, cut_named}
use Rattle.rc_rules.specs.Blocks.{is_full, is_complete}
use Rattle.rc_rules.specs.RuleFile.{layer_in, cut_in}
use Rattle.rc_rules.specs.Phrases.{Word, semicolon, Version, RoutingLayer, CutLayer, LayerOrNone, Length, Share, Resistance, Says, IsLayerOrNone}
use Rattle.rc_rules.specs.Statements.{lies_below, lies_over, has_table, Statement, Heading, Layer, Widths, Distances, Resistances, Table, Row, EndLayer, Via, Contact}
use Rattle.rc_rules.specs.Rows.{heading_row, headed, version_row, entry_row, opens, layer_name_row, via_name_row, with_cut, via_number_row, with_contact, contact_row, end_of_rules, close_row, widths_row, distances_row, takes_step, with_widths, with_distances, width_row, distance_row, resistances_row, takes_number, with_resistances, resistance_row, columns, with_row, number_row, table_row, under_row, over_row, under_layer_row, with_pair, takes_pair, takes_under, takes_over, over_layer_row, closes_layer, end_of_layer, unquoted, rules_turn}
use Rattle.rc_rules.proofs.Lists as lists
use Rattle.rc_rules.proofs.Lists.{unspelled}
use Rattle.rc_rules.proofs.Turns.{Stands, semicolon_key, unquoted_is, few, scales, one_more, few_same, fewer, front_scales, scale_parts, length_same, both, next, no_more, turns, begins, end_turn, due_back}
use Rattle.rc_rules.proofs.TakenInBlock.{ends_list}

module _ (units : Units) (tech : Technology) (line : ℕ) (D C : State → List Lexeme → Type 0) where
  abbrev After : State → List Lexeme → Type 0
  After s words = Takes (rules_turn units tech) line D C s words

  -- ---- statements of fixed form, token by token

  heading_back : (s : State) (a b c : Lexeme) (rest : List Lexeme) → s.row ≡ rows.Begin → s.progress.stage ≡ stages.Heading → key_of a ≡ keys.RcxRules → (is_quoted (key_of b) ≡ false) × (b.bytes ≡ codes "1") → key_of c ≡ keys.Semicolon
      → D (record (headed s) { row = rows.Begin }) rest → After s (a ∷ b ∷ c ∷ rest)
  unfolding heading_row version_row
  heading_back s a b c rest row at_ a_is b_is c_is d =
      let one : bytes_eq b.bytes (codes "1") ≡ true = (bytes_eq-Decides b.bytes (codes "1")).1 b_is.1 in
      rw (begins units tech line s stages.Heading a row at_, a_is, turns, b_is.0, one) (due_back units tech line D C (headed s) c rest c_is d)

  layer_back : (s : State) (a b c : Lexeme) (rest : List Lexeme) (number : ℕ) → s.row ≡ rows.Begin → s.progress.stage ≡ stages.Entries → key_of a ≡ keys.Layer → (is_name (key_of b) ≡ true) × (routing_named tech b.bytes ≡ Some number) → key_of c ≡ keys.Semicolon
      → is_some (layer_in s.progress.layers number) ≡ false → D (record (opens s number) { row = rows.Begin }) rest → After s (a ∷ b ∷ c ∷ rest)
  unfolding entry_row layer_name_row
  layer_back s a b c rest number row at_ a_is b_is c_is new d =
      rw (begins units tech line s stages.Entries a row at_, a_is, turns, b_is.0, b_is.1, new) (due_back units tech line D C (opens s number) c rest c_is d)

  via_back : (s : State) (a b c e : Lexeme) (rest : List Lexeme) (number resistance : ℕ) → s.row ≡ rows.Begin → s.progress.stage ≡ stages.Entries → key_of a ≡ keys.Via → (is_name (key_of b) ≡ true) × (cut_named tech b.bytes ≡ Some number)
      → (is_quoted (key_of c) ≡ false) × (resistance_of c.bytes ≡ Some resistance) → key_of e ≡ keys.Semicolon → is_some (cut_in s.progress.cuts number) ≡ false
      → D (record (with_cut (record s { cut = number }) resistance) { row = rows.Begin }) rest → After s (a ∷ b ∷ c ∷ e ∷ rest)
  unfolding entry_row via_name_row via_number_row
  via_back s a b c e rest number resistance row at_ a_is b_is c_is e_is new d =
      rw (begins units tech line s stages.Entries a row at_, a_is, turns, b_is.0, b_is.1, new, turns, unquoted_is (key_of c) (resistance_of c.bytes) c_is.0, c_is.1) (due_back units tech line D C (with_cut (record s { cut = number }) resistance) e rest e_is d)

  contact_back : (s : State) (a b c : Lexeme) (rest : List Lexeme) (resistance : ℕ) → s.row ≡ rows.Begin → s.progress.stage ≡ stages.Entries → key_of a ≡ keys.Contact → (is_quoted (key_of b) ≡ false) × (resistance_of b.bytes ≡ Some resistance) → key_of c ≡ keys.Semicolon
      → is_some s.progress.contact ≡ false → D (record (with_contact s resistance) { row = rows.Begin }) rest → After s (a ∷ b ∷ c ∷ rest)
  unfolding entry_row contact_row
  contact_back s a b c rest resistance row at_ a_is b_is c_is new d =
      rw (begins units tech line s stages.Entries a row at_, a_is, new, turns, unquoted_is (key_of b) (resistance_of b.bytes) b_is.0, b_is.1) (due_back units tech line D C (with_contact s resistance) c rest c_is d)

  end_layer_back : (s : State) (a b c : Lexeme) (rest : List Lexeme) → s.row ≡ rows.Begin → s.progress.stage ≡ stages.Tables → is_full s.progress.block ≡ true → is_complete s.progress.block ≡ true → key_of a ≡ keys.End → key_of b ≡ keys.Layer → key_of c ≡ keys.Semicolon
      → D (record (closes_layer s) { row = rows.Begin }) rest → After s (a ∷ b ∷ c ∷ rest)
  unfolding table_row end_of_layer
  end_layer_back s a b c rest row at_ full complete a_is b_is c_is d =
      rw (begins units tech line s stages.Tables a row at_, a_is, full, end_turn units tech line s stages.Tables b at_, b_is, complete) (due_back units tech line D C (closes_layer s) c rest c_is d)

  pub end_rules_back : (s : State) (a b c : Lexeme) (rest : List Lexeme) → s.row ≡ rows.Begin → s.progress.stage ≡ stages.Entries → key_of a ≡ keys.End → key_of b ≡ keys.Rules → key_of c ≡ keys.Semicolon
      → C (record s { row = rows.Close }) rest → After s (a ∷ b ∷ c ∷ rest)
  unfolding entry_row end_of_rules close_row
  end_rules_back s a b c rest row at_ a_is b_is c_is d =
      rw (begins units tech line s stages.Entries a row at_, a_is, end_turn units tech line s stages.Entries b at_, b_is, turns, c_is) d

  -- ---- TABLE

  over_named : (s : State) (under : Option ℕ) (number : ℕ) (word : Lexeme) (named : Bool) → named ≡ true → routing_named tech word.bytes ≡ Some number → nat_lt s.progress.number number ≡ true → has_table s.progress.block under (Some number) ≡ false → nat_lt (length s.progress.block.pairs) 256 ≡ true
      → cond named (takes_over (record s { row = rows.OverLayer; under = under }) (at_line line word) (routing_named tech word.bytes)) (refuse E03 (at_line line word)) ≡ More (record (with_pair (record s { under = under }) (Some number)) { row = rows.Due })
  unfolding takes_pair
  over_named s under number word named passed is above new room = rw (passed, is, above, new, room) refl

  over_key : (s : State) (under over : Option ℕ) (word : Lexeme) (key : Key) → key_of word ≡ key → IsLayerOrNone tech over word → lies_over over s.progress.number ≡ true → has_table s.progress.block under over ≡ false → nat_lt (length s.progress.block.pairs) 256 ≡ true
      → over_layer_row tech (record s { row = rows.OverLayer; under = under }) key (at_line line word) ≡ More (record (with_pair (record s { under = under }) over) { row = rows.Due })
  unfolding over_layer_row takes_pair
  over_key s under None word keys.Nothing same is above new room = rw (new, room) refl
  over_key s under None word _ same is above new room = let e = sym same ∙ is in absurd cc
  over_key s under (Some number) word keys.Nothing same is above new room = let e : true ≡ false = rw same at is.0 in absurd cc
  over_key s under (Some number) word k same is above new room = over_named s under number word (is_name k) (rw same at is.1) is.2 above new room

  under_named : (s : State) (number : ℕ) (word : Lexeme) (named : Bool) → named ≡ true → routing_named tech word.bytes ≡ Some number → nat_lt number s.progress.number ≡ true
      → cond named (takes_under (record s { row = rows.UnderLayer }) (at_line line word) (routing_named tech word.bytes)) (refuse E03 (at_line line word)) ≡ More (record s { row = rows.Over; under = Some number })
  under_named s number word named passed is below = rw (passed, is, below) refl

  under_key : (s : State) (under : Option ℕ) (word : Lexeme) (key : Key) → key_of word ≡ key → IsLayerOrNone tech under word → lies_below under s.progress.number ≡ true
      → under_layer_row tech (record s { row = rows.UnderLayer }) key (at_line line word) ≡ More (record s { row = rows.Over; under = under })
  unfolding under_layer_row
  under_key s None word keys.Nothing same is below = refl
  under_key s None word _ same is below = let e = sym same ∙ is in absurd cc
  under_key s (Some number) word keys.Nothing same is below = let e : true ≡ false = rw same at is.0 in absurd cc
  under_key s (Some number) word k same is below = under_named s number word (is_name k) (rw same at is.1) is.2 below

  table_back : (s : State) (a b c d e f : Lexeme) (rest : List Lexeme) (under over : Option ℕ) → s.row ≡ rows.Begin → s.progress.stage ≡ stages.Tables → is_full s.progress.block ≡ true → nat_lt (length s.progress.block.pairs) 256 ≡ true
      → lies_below under s.progress.number ≡ true → lies_over over s.progress.number ≡ true → has_table s.progress.block under over ≡ false
      → key_of a ≡ keys.Table → key_of b ≡ keys.Under → IsLayerOrNone tech under c → key_of d ≡ keys.Over → IsLayerOrNone tech over e → key_of f ≡ keys.Semicolon
      → D (record (with_pair (record s { under = under }) over) { row = rows.Begin }) rest → After s (a ∷ b ∷ c ∷ d ∷ e ∷ f ∷ rest)
  unfolding table_row under_row over_row
  table_back s a b c d e f rest under over row at_ full room below above new a_is b_is c_is d_is e_is f_is end =
      rw (begins units tech line s stages.Tables a row at_, a_is, full, room, turns, b_is, turns, under_key s under c (key_of c) refl c_is below, turns, d_is, turns, over_key s under over e (key_of e) refl e_is above new room)
      (due_back units tech line D C (with_pair (record s { under = under }) over) f rest f_is end)

  -- ---- lists

  step_is : (most : ℕ) (s : State) (row : RowKind) (xs : List ℕ) (x : ℕ) (word : Lexeme) → Says units tech (Length x) word → scales most (xs ++ x ∷ []) ≡ true
      → takes_step most (record s { row = row; steps = xs }) (at_line line word) (unquoted (key_of word) (length_of units word.bytes)) ≡ More (record s { row = row; steps = xs ++ x ∷ [] })
  step_is most s row xs x word is fits =
      let b = both (few most (xs ++ x ∷ [])) (rises (xs ++ x ∷ [])) fits in
      rw (unquoted_is (key_of word) (length_of units word.bytes) is.1, is.2, one_more most xs x, b.0, b.1) refl

  number_is : (most : ℕ) (s : State) (row : RowKind) (xs : List ℕ) (x : ℕ) (word : Lexeme) → Says units tech (Share x) word → few most (xs ++ x ∷ []) ≡ true
      → takes_number most (record s { row = row; numbers = xs }) (at_line line word) (unquoted (key_of word) (share_of units word.bytes)) ≡ More (record s { row = row; numbers = xs ++ x ∷ [] })
  number_is most s row xs x word is fits = rw (unquoted_is (key_of word) (share_of units word.bytes) is.1, is.2, one_more most xs x, fits) refl

  width_key : (s : State) (word : Lexeme) (key : Key) → is_semicolon key ≡ false → width_row units s key (at_line line word) ≡ takes_step 16 s (at_line line word) (unquoted key (length_of units word.bytes))
  unfolding width_row
  width_key s word keys.Semicolon un = absurd cc
  width_key s word _ un = refl

  distance_key : (s : State) (word : Lexeme) (key : Key) → is_semicolon key ≡ false → distance_row units s key (at_line line word) ≡ takes_step 32 s (at_line line word) (unquoted key (length_of units word.bytes))
  unfolding distance_row
  distance_key s word keys.Semicolon un = absurd cc
  distance_key s word _ un = refl

  resistance_key : (s : State) (word : Lexeme) (key : Key) → is_semicolon key ≡ false → resistance_row units s key (at_line line word) ≡ takes_number (length s.progress.block.widths) s (at_line line word) (unquoted key (share_of units word.bytes))
  unfolding resistance_row
  resistance_key s word keys.Semicolon un = absurd cc
  resistance_key s word _ un = refl

  number_key : (s : State) (word : Lexeme) (key : Key) → is_semicolon key ≡ false → number_row units s key (at_line line word) ≡ takes_number (columns s.progress.block) s (at_line line word) (unquoted key (share_of units word.bytes))
  unfolding number_row
  number_key s word keys.Semicolon un = absurd cc
  number_key s word _ un = refl

  -- a token that ends a list, as the row of lists reads it
  list_end : (s : State) (row : State → Key → Lexeme → Turn State) → ((word : Lexeme) → rules_turn units tech s (at_line line word) ≡ row s (key_of word) (at_line line word))
      → (word : Lexeme) → ends_list word ≡ true → rules_turn units tech s (at_line line word) ≡ row s keys.Semicolon (at_line line word)
  list_end s row law word is = law word ∙ ap (λ key. row s key (at_line line word)) (semicolon_key (key_of word) is)

  widths_back : (s : State) (front last : Lexeme) (words rest : List Lexeme) (xs : List ℕ) → s.row ≡ rows.Begin → s.progress.stage ≡ stages.Widths → key_of front ≡ keys.Widths → Spells (λ value word. Says units tech (Length value) word) xs words → key_of last ≡ keys.Semicolon
      → nat_le 1 (length xs) ≡ true → scales 16 xs ≡ true → D (record (with_widths (record s { steps = xs })) { row = rows.Begin }) rest → After s (front ∷ (words ++ last ∷ rest))
  unfolding widths_row width_row
  widths_back s front last words rest xs row at_ is says stop some fits d =
      rw (begins units tech line s stages.Widths front row at_, is)
      (lists.listed_back (rules_turn units tech) line D C (λ value word. Says units tech (Length value) word) ends_list (scales 16) (λ xs. record s { row = rows.Widths; steps = xs }) (λ xs word. width_row units (record s { row = rows.Widths; steps = xs }) keys.Semicolon word)
      (λ xs word e. list_end (record s { row = rows.Widths; steps = xs }) (width_row units) (turns units tech line (record s { row = rows.Widths; steps = xs })) word e)
      (λ xs word x e f. turns units tech line (record s { row = rows.Widths; steps = xs }) word ∙ width_key (record s { row = rows.Widths; steps = xs }) word (key_of word) e.0 ∙ step_is 16 s rows.Widths xs x word e f)
      (front_scales 16) [] xs words last rest says (rw stop refl) fits (rw some d))

  distances_back : (s : State) (front last : Lexeme) (words rest : List Lexeme) (xs : List ℕ) → s.row ≡ rows.Begin → s.progress.stage ≡ stages.Distances → key_of front ≡ keys.Dists → Spells (λ value word. Says units tech (Length value) word) xs words → key_of last ≡ keys.Semicolon
      → nat_le 1 (length xs) ≡ true → scales 32 xs ≡ true → D (record (with_distances (record s { steps = xs })) { row = rows.Begin }) rest → After s (front ∷ (words ++ last ∷ rest))
  unfolding distances_row distance_row
  distances_back s front last words rest xs row at_ is says stop some fits d =
      rw (begins units tech line s stages.Distances front row at_, is)
      (lists.listed_back (rules_turn units tech) line D C (λ value word. Says units tech (Length value) word) ends_list (scales 32) (λ xs. record s { row = rows.Distances; steps = xs }) (λ xs word. distance_row units (record s { row = rows.Distances; steps = xs }) keys.Semicolon word)
      (λ xs word e. list_end (record s { row = rows.Distances; steps = xs }) (distance_row units) (turns units tech line (record s { row = rows.Distances; steps = xs })) word e)
      (λ xs word x e f. turns units tech line (record s { row = rows.Distances; steps = xs }) word ∙ distance_key (record s { row = rows.Distances; steps = xs }) word (key_of word) e.0 ∙ step_is 32 s rows.Distances xs x word e f)
      (front_scales 32) [] xs words last rest says (rw stop refl) fits (rw some d))

  resistances_back : (s : State) (front last : Lexeme) (words rest : List Lexeme) (xs : List ℕ) → s.row ≡ rows.Begin → s.progress.stage ≡ stages.Resistances → key_of front ≡ keys.Res → Spells (λ value word. Says units tech (Share value) word) xs words → key_of last ≡ keys.Semicolon
      → length xs ≡ length s.progress.block.widths → D (record (with_resistances (record s { numbers = xs })) { row = rows.Begin }) rest → After s (front ∷ (words ++ last ∷ rest))
  unfolding resistances_row resistance_row
  resistances_back s front last words rest xs row at_ is says stop many d =
      rw (begins units tech line s stages.Resistances front row at_, is)
      (lists.listed_back (rules_turn units tech) line D C (λ value word. Says units tech (Share value) word) ends_list (few (length s.progress.block.widths)) (λ xs. record s { row = rows.Resistances; numbers = xs }) (λ xs word. resistance_row units (record s { row = rows.Resistances; numbers = xs }) keys.Semicolon word)
      (λ xs word e. list_end (record s { row = rows.Resistances; numbers = xs }) (resistance_row units) (turns units tech line (record s { row = rows.Resistances; numbers = xs })) word e)
      (λ xs word x e f. turns units tech line (record s { row = rows.Resistances; numbers = xs }) word ∙ resistance_key (record s { row = rows.Resistances; numbers = xs }) word (key_of word) e.0 ∙ number_is (length s.progress.block.widths) s rows.Resistances xs x word e f)
      (fewer (length s.progress.block.widths)) [] xs words last rest says (rw stop refl) (few_same (length xs) (length s.progress.block.widths) many) (rw (length_same (length xs) (length s.progress.block.widths) many) d))

  row_back : (s : State) (front last : Lexeme) (words rest : List Lexeme) (xs : List ℕ) → s.row ≡ rows.Begin → s.progress.stage ≡ stages.Tables → is_full s.progress.block ≡ false → key_of front ≡ keys.Row → Spells (λ value word. Says units tech (Share value) word) xs words → key_of last ≡ keys.Semicolon
      → length xs ≡ columns s.progress.block → D (record (with_row (record s { numbers = xs })) { row = rows.Begin }) rest → After s (front ∷ (words ++ last ∷ rest))
  unfolding table_row number_row
  row_back s front last words rest xs row at_ missing is says stop many d =
      rw (begins units tech line s stages.Tables front row at_, is, missing)
      (lists.listed_back (rules_turn units tech) line D C (λ value word. Says units tech (Share value) word) ends_list (few (columns s.progress.block)) (λ xs. record s { row = rows.Numbers; numbers = xs }) (λ xs word. number_row units (record s { row = rows.Numbers; numbers = xs }) keys.Semicolon word)
      (λ xs word e. list_end (record s { row = rows.Numbers; numbers = xs }) (number_row units) (turns units tech line (record s { row = rows.Numbers; numbers = xs })) word e)
      (λ xs word x e f. turns units tech line (record s { row = rows.Numbers; numbers = xs }) word ∙ number_key (record s { row = rows.Numbers; numbers = xs }) word (key_of word) e.0 ∙ number_is (columns s.progress.block) s rows.Numbers xs x word e f)
      (fewer (columns s.progress.block)) [] xs words last rest says (rw stop refl) (few_same (length xs) (columns s.progress.block) many) (rw (length_same (length xs) (columns s.progress.block) many) d))

  -- ---- all of them, where `D` holds of each state that stands for what is said behind the statement

  abbrev Ended : Progress → List Lexeme → Type 0
  Ended after rest = (t : State) → Stands after t → D t rest

  pub statement_back : (s : State) (words rest : List Lexeme) (after : Progress) → s.row ≡ rows.Begin → Statement units tech s.progress words after → Ended after rest → After s (words ++ rest)
  statement_back s words rest after row (Heading are at_ same) end =
      let a = next (Says units tech) (Word keys.RcxRules) (Version ∷ semicolon ∷ []) words are in let b = next (Says units tech) Version (semicolon ∷ []) a.1 a.4 in let c = next (Says units tech) semicolon [] b.1 b.4 in
      rw (a.2, b.2, c.2, no_more (Says units tech) c.1 c.4) (heading_back s a.0 b.0 c.0 rest row at_ a.3 b.3 c.3 (end _ (refl, sym same)))
  statement_back s words rest after row (Layer number are at_ new same) end =
      let a = next (Says units tech) (Word keys.Layer) (RoutingLayer number ∷ semicolon ∷ []) words are in let b = next (Says units tech) (RoutingLayer number) (semicolon ∷ []) a.1 a.4 in let c = next (Says units tech) semicolon [] b.1 b.4 in
      rw (a.2, b.2, c.2, no_more (Says units tech) c.1 c.4) (layer_back s a.0 b.0 c.0 rest number row at_ a.3 b.3 c.3 new (end _ (refl, sym same)))
  statement_back s words rest after row (Widths xs are at_ fits same) end =
      let a = next (Says units tech) (Word keys.Widths) (map (λ x. Length x) xs ++ semicolon ∷ []) words are in
      let u = unspelled (Says units tech) (λ x. Length x) semicolon xs a.1 a.4 in
      let p = scale_parts 16 xs fits in
      rw (a.2, u.2, append_assoc u.0 (u.1 ∷ []) rest) (widths_back s a.0 u.1 u.0 rest xs row at_ a.3 u.3 u.4 p.0 p.1 (end _ (refl, sym same)))
  statement_back s words rest after row (Distances xs are at_ fits same) end =
      let a = next (Says units tech) (Word keys.Dists) (map (λ x. Length x) xs ++ semicolon ∷ []) words are in
      let u = unspelled (Says units tech) (λ x. Length x) semicolon xs a.1 a.4 in
      let p = scale_parts 32 xs fits in
      rw (a.2, u.2, append_assoc u.0 (u.1 ∷ []) rest) (distances_back s a.0 u.1 u.0 rest xs row at_ a.3 u.3 u.4 p.0 p.1 (end _ (refl, sym same)))
  statement_back s words rest after row (Resistances xs are at_ many same) end =
      let a = next (Says units tech) (Word keys.Res) (map (λ x. Share x) xs ++ semicolon ∷ []) words are in
      let u = unspelled (Says units tech) (λ x. Share x) semicolon xs a.1 a.4 in
      rw (a.2, u.2, append_assoc u.0 (u.1 ∷ []) rest) (resistances_back s a.0 u.1 u.0 rest xs row at_ a.3 u.3 u.4 many (end _ (refl, sym same)))
  statement_back s words rest after row (Table under over are at_ full room below above new same) end =
      let a = next (Says units tech) (Word keys.Table) (Word keys.Under ∷ LayerOrNone under ∷ Word keys.Over ∷ LayerOrNone over ∷ semicolon ∷ []) words are in
      let b = next (Says units tech) (Word keys.Under) (LayerOrNone under ∷ Word keys.Over ∷ LayerOrNone over ∷ semicolon ∷ []) a.1 a.4 in
      let c = next (Says units tech) (LayerOrNone under) (Word keys.Over ∷ LayerOrNone over ∷ semicolon ∷ []) b.1 b.4 in
      let d = next (Says units tech) (Word keys.Over) (LayerOrNone over ∷ semicolon ∷ []) c.1 c.4 in
      let e = next (Says units tech) (LayerOrNone over) (semicolon ∷ []) d.1 d.4 in
      let f = next (Says units tech) semicolon [] e.1 e.4 in
      rw (a.2, b.2, c.2, d.2, e.2, f.2, no_more (Says units tech) f.1 f.4) (table_back s a.0 b.0 c.0 d.0 e.0 f.0 rest under over row at_ full room below above new a.3 b.3 c.3 d.3 e.3 f.3 (end _ (refl, sym same)))
  statement_back s words rest after row (Row xs are at_ missing many same) end =
      let a = next (Says units tech) (Word keys.Row) (map (λ x. Share x) xs ++ semicolon ∷ []) words are in
      let u = unspelled (Says units tech) (λ x. Share x) semicolon xs a.1 a.4 in
      rw (a.2, u.2, append_assoc u.0 (u.1 ∷ []) rest) (row_back s a.0 u.1 u.0 rest xs row at_ missing a.3 u.3 u.4 many (end _ (refl, sym same)))
  statement_back s words rest after row (EndLayer are at_ full complete same) end =
      let a = next (Says units tech) (Word keys.End) (Word keys.Layer ∷ semicolon ∷ []) words are in let b = next (Says units tech) (Word keys.Layer) (semicolon ∷ []) a.1 a.4 in let c = next (Says units tech) semicolon [] b.1 b.4 in
      rw (a.2, b.2, c.2, no_more (Says units tech) c.1 c.4) (end_layer_back s a.0 b.0 c.0 rest row at_ full complete a.3 b.3 c.3 (end _ (refl, sym same)))
  statement_back s words rest after row (Via number resistance are at_ new same) end =
      let a = next (Says units tech) (Word keys.Via) (CutLayer number ∷ Resistance resistance ∷ semicolon ∷ []) words are in let b = next (Says units tech) (CutLayer number) (Resistance resistance ∷ semicolon ∷ []) a.1 a.4 in let c = next (Says units tech) (Resistance resistance) (semicolon ∷ []) b.1 b.4 in let d = next (Says units tech) semicolon [] c.1 c.4 in
      rw (a.2, b.2, c.2, d.2, no_more (Says units tech) d.1 d.4) (via_back s a.0 b.0 c.0 d.0 rest number resistance row at_ a.3 b.3 c.3 d.3 new (end _ (refl, sym same)))
  statement_back s words rest after row (Contact resistance are at_ new same) end =
      let a = next (Says units tech) (Word keys.Contact) (Resistance resistance ∷ semicolon ∷ []) words are in let b = next (Says units tech) (Resistance resistance) (semicolon ∷ []) a.1 a.4 in let c = next (Says units tech) semicolon [] b.1 b.4 in
      rw (a.2, b.2, c.2, no_more (Says units tech) c.1 c.4) (contact_back s a.0 b.0 c.0 rest resistance row at_ a.3 b.3 c.3 new (end _ (refl, sym same)))
