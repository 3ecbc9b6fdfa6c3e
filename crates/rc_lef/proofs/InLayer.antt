-- LAYER l .. END l: the rows against its statements, both ways.
use Rattle.std.proofs.Common.{◌≡◌, ◌∙◌, ℕ, Bool, true, false, cond, List, [], ◌∷◌, ◌++◌, refl, ap, sym, arith}
use Rattle.std.proofs.lemmas.Bool.Decides.{nat_tests}
use Rattle.std.proofs.lemmas.Slice.Eq.{bytes_eq-Decides}
use Rattle.std.specs.Prelude.{Option, Some, None, ◌&&◌, ◌||◌, not, nat_lt, nat_le, is_some, is_none, option_map, Result, Ok, Err, ℤ, pos}
use Rattle.std.specs.Str.{bytes_eq}
use Rattle.std.proofs.lemmas.List.Folds.{list_any-append}
use Rattle.std.proofs.lemmas.List.Sums.{sum_by-append}
use Rattle.rc_keys.specs.declared.code.Code.{Code}
use Rattle.rc_keys.specs.declared.code.Code.TheVariants.{E03}
use Rattle.rc_keys.specs.declared.code.Quantity.TheVariants.{Layers, Cuts as CutLayers}
use Rattle.rc_keys.specs.declared.fault.Refusal.{Refusal}
use Rattle.rc_keys.specs.declared.fault.Refusal.TheVariants.{Limit}
use Rattle.rc_keys.specs.Lexemes.{Lexeme}
use Rattle.rc_keys.specs.Course.{Turn, More, Done, refuse}
use Rattle.rc_keys.specs.Statements.{at_line}
use Rattle.rc_keys.proofs.Phrasing.{On, unless, Takes, one_token, more_tokens, no_tokens, behind}
use Rattle.rc_lef.specs.declared.key.Key.{Key}
use Rattle.rc_lef.specs.declared.key.Key.TheVariants as keys
use Rattle.rc_lef.specs.declared.tech.LayerKind.{LayerKind}
use Rattle.rc_lef.specs.declared.tech.LayerKind.TheVariants as kinds
use Rattle.rc_lef.specs.declared.state.State.{State}
use Rattle.rc_lef.specs.declared.state.Block.TheVariants as blocks
use Rattle.rc_lef.specs.declared.state.Row.{Row}
use Rattle.rc_lef.specs.declared.state.Row.TheVariants as rows
use Rattle.rc_lef.specs.Keys.{key_of, is_name, is_quoted}
use Rattle.rc_lef.specs.Lengths.{length_read, positive}
use Rattle.rc_lef.specs.Technology.{Technology, is_routing, is_cut}
use Rattle.rc_lef.specs.Moves.{first, due_row, other_statement}
use Rattle.rc_lef.specs.Operands.{is_named}
use Rattle.rc_lef.specs.Rows.{lef_turn, tech_with}
use Rattle.rc_lef.specs.Layers.{layer_row, type_row, numbered_kind, takes_kind, is_known, count_of, width_row, width_end_row, takes_width, end_of_layer, with_layer, made_layer, routes, kind_or_other, width_of}
use Rattle.rc_lef.specs.Phrases.{Word, Name, AnyBut, Operand, Above0, Are, IsOver, ends_statement, is_semicolon}
use Rattle.rc_lef.specs.LayerBlock.{Purpose, Wires, Cuts, Neither, LayerParts, with_purpose, with_width, knows_layer, layers_of, has_room, begins_in_layer, names_purpose, LayerStatement, Routing, Cut, OfAnother, Width, NoWidth, Other, BeginsWith, is_for_wires, is_complete, kind_of, or_0, layer_of, with_new_layer}
use Rattle.rc_lef.proofs.SmallTests.{joins}
use Rattle.rc_lef.proofs.Turns.{turns, due, reads_over, over_back, other, other_back}

-- ---- the state of an open LAYER

-- the kind that the rows note for a purpose. That of a layer which is left out is free
abbrev pub noted_kind : Technology → State → Purpose → LayerKind
noted_kind tech s Wires = kinds.Routing (cond (is_known tech s) 0 (count_of is_routing tech s))
noted_kind tech s Cuts = kinds.Cut (cond (is_known tech s) 0 (count_of is_cut tech s))
noted_kind tech s Neither = kinds.Other

abbrev pub At : Technology → State → LayerParts → Result ℤ Code → State
At tech s parts pending =
    record s { block = blocks.Layer; row = rows.Begin; layer = record { kind = option_map (noted_kind tech s) parts.purpose; width = parts.width; pending = pending } }

abbrev pub Closed : Technology → State → LayerParts → Result ℤ Code → State
Closed tech s parts pending = record (with_layer tech (record (At tech s parts pending) { row = rows.End })) { row = rows.Begin }

-- a front of the tokens is a statement of LAYER, or its end, and `D` holds behind it
pub data Reads (tech : Technology) (D : State → List Lexeme → Type 0) (s : State) (parts : LayerParts) (pending : Result ℤ Code) (words : List Lexeme) : Type 0 where
  Statement : (after : LayerParts) (noted : Result ℤ Code) (front rest : List Lexeme) → words ≡ front ++ rest → LayerStatement (tech_with tech s) s.name parts front after → D (At tech s after noted) rest → Reads tech D s parts pending words
  End : (front rest : List Lexeme) → words ≡ front ++ rest → Are (Word keys.End ∷ Name s.name ∷ []) front → is_complete parts ≡ true → D (Closed tech s parts pending) rest → Reads tech D s parts pending words

-- ---- the layers that are there, before the file and in it

pub known : (tech : Technology) (s : State) → knows_layer (tech_with tech s) s.name ≡ is_known tech s
unfolding is_known
known tech s = list_any-append (is_named s.name) tech.layers s.layers

pub counted : (test : LayerKind → Bool) (tech : Technology) (s : State) → layers_of test (tech_with tech s) ≡ count_of test tech s
counted test tech s = sum_by-append (λ layer. cond (test layer.kind) 1 0) tech.layers s.layers

below : (n : ℕ) → nat_lt n 32 ≡ not (nat_le 32 n)
below n = grind (arith, nat_tests)

-- ---- rows to statements

both : (a b : Bool) → not (a && b) ≡ false → (a ≡ true) × (b ≡ true)
both true true is = (refl, refl)
both true false is = absurd cc
both false b is = absurd cc

not_true : (a : Bool) → not a ≡ true → a ≡ false
not_true true is = absurd cc
not_true false is = refl

semicolon_key : (key : Key) → is_semicolon key ≡ true → key ≡ keys.Semicolon
semicolon_key keys.Semicolon is = refl
semicolon_key _ is = absurd cc

not_false : (a b : Bool) → a ≡ b → b ≡ false → not a ≡ true
not_false a b same is = rw (same, is) refl

quoted_is_none : (key : Key) → key ≡ keys.Quoted → is_quoted key ≡ false → ⊥
quoted_is_none key is un = let e : true ≡ false = rw is at un in cc

first_noted : (tech : Technology) (s : State) (before : Option Purpose) (purpose : Purpose) → first (option_map (noted_kind tech s) before) (noted_kind tech s purpose) ≡ option_map (noted_kind tech s) (first before purpose)
first_noted tech s (Some earlier) purpose = refl
first_noted tech s None purpose = refl

routes_wires : (tech : Technology) (s : State) (purpose : Option Purpose) → routes (option_map (noted_kind tech s) purpose) ≡ is_for_wires purpose
routes_wires tech s (Some Wires) = refl
routes_wires tech s (Some Cuts) = refl
routes_wires tech s (Some Neither) = refl
routes_wires tech s None = refl

-- the state at a row of a statement
abbrev pub Open : Technology → State → LayerParts → Result ℤ Code → Row → State
Open tech s parts pending row = record (At tech s parts pending) { row = row }

abbrev Noted : Technology → State → LayerParts → Result ℤ Code → Purpose → State
Noted tech s parts pending purpose = record (At tech s (with_purpose purpose parts) pending) { row = rows.Due }

abbrev room : Option Purpose → Bool → ℕ → Bool
room before known count = is_some before || (known || not (nat_le 32 count))

-- a purpose is noted: where it counts and the layer is new, there is room. And the other way round
noted : (tech : Technology) (s : State) (before : Option Purpose) (width : Option ℤ) (pending : Result ℤ Code) (purpose : Purpose) (kind : ℕ → LayerKind) (count : ℕ) (limit : Refusal) (known : Bool) (M D C : State → Type 0)
    → is_known tech (Open tech s (record { purpose = before; width = width }) pending rows.Type) ≡ known → noted_kind tech s purpose ≡ kind (cond known 0 count)
    → On M D C (numbered_kind tech (Open tech s (record { purpose = before; width = width }) pending rows.Type) kind count limit)
    → (room before known count ≡ true) × M (Noted tech s (record { purpose = before; width = width }) pending purpose)
noted tech s (Some earlier) width pending purpose kind count limit known M D C is same h = (refl, h)
noted tech s None width pending purpose kind count limit true M D C is same h = (refl, rw same (rw is at h))
noted tech s None width pending purpose kind count limit false M D C is same h = let e = unless M D C _ limit (nat_le 32 count) (rw is at h) in (rw e.0 refl, rw same e.1)

noted_back : (tech : Technology) (s : State) (before : Option Purpose) (width : Option ℤ) (pending : Result ℤ Code) (purpose : Purpose) (kind : ℕ → LayerKind) (count : ℕ) (limit : Refusal) (known full : Bool)
    → is_known tech (Open tech s (record { purpose = before; width = width }) pending rows.Type) ≡ known → nat_le 32 count ≡ full → noted_kind tech s purpose ≡ kind (cond known 0 count) → (is_some before || (known || not full)) ≡ true
    → numbered_kind tech (Open tech s (record { purpose = before; width = width }) pending rows.Type) kind count limit ≡ More (Noted tech s (record { purpose = before; width = width }) pending purpose)
noted_back tech s (Some earlier) width pending purpose kind count limit known full is all same fits = refl
noted_back tech s None width pending purpose kind count limit true full is all same fits = rw (is, same) refl
noted_back tech s None width pending purpose kind count limit false true is all same fits = absurd cc
noted_back tech s None width pending purpose kind count limit false false is all same fits = rw (is, all, same) refl

-- whether there is room, as the rows have it
has_room_is : (test : LayerKind → Bool) (tech : Technology) (s : State) (parts : LayerParts) → has_room test (tech_with tech s) s.name parts ≡ room parts.purpose (is_known tech s) (count_of test tech s)
has_room_is test tech s parts = rw (known tech s, counted test tech s, below (count_of test tech s)) refl

module _ (tech : Technology) (line : ℕ) (D C : State → List Lexeme → Type 0) (s : State) (parts : LayerParts) (pending : Result ℤ Code) where
  abbrev After : State → List Lexeme → Type 0
  After s words = Takes (lef_turn tech) line D C s words

  abbrev Then : List Lexeme → Turn State → Type 0
  Then words turn = On (λ s. After s words) (λ s. D s words) (λ s. C s words) turn

  abbrev Result' : List Lexeme → Type 0
  Result' words = Reads tech D s parts pending words

  -- ---- TYPE

  abbrev Typed : Lexeme → Lexeme → List Lexeme → Purpose → Type 0
  Typed front a words purpose = After (Noted tech s parts pending purpose) words

  typed : (front a : Lexeme) (words : List Lexeme) (purpose : Purpose) → Typed front a words purpose
      → ((e : Lexeme) → key_of e ≡ keys.Semicolon → LayerStatement (tech_with tech s) s.name parts (front ∷ a ∷ e ∷ []) (with_purpose purpose parts)) → Result' (front ∷ a ∷ words)
  typed front a words purpose h makes =
      let g = due tech line D C (At tech s (with_purpose purpose parts) pending) words h in
      Statement (with_purpose purpose parts) pending (front ∷ a ∷ g.0 ∷ []) g.1 (ap (λ ws. front ∷ a ∷ ws) g.2) (makes g.0 g.3) g.4

  another : (front a : Lexeme) (words : List Lexeme) (key : Key) → key_of front ≡ keys.Type → key_of a ≡ key → names_purpose key ≡ false → (named : Bool) → is_name key ≡ named
      → Then words (cond named (takes_kind (Open tech s parts pending rows.Type) kinds.Other) (refuse E03 (at_line line a))) → Result' (front ∷ a ∷ words)
  another front a words key is at un false named h = absurd h
  another front a words key is at un true named h =
      typed front a words Neither (rw (first_noted tech s parts.purpose Neither) at h) (λ e ends. OfAnother (is, ((rw at named, rw at un), (ends, tt))) refl)

  type_key : (front a : Lexeme) (words : List Lexeme) (key : Key) → key_of front ≡ keys.Type → key_of a ≡ key → Then words (type_row tech (Open tech s parts pending rows.Type) key (at_line line a)) → Result' (front ∷ a ∷ words)
  unfolding type_row is_known
  type_key front a words keys.Routing is at h =
      let e = noted tech s parts.purpose parts.width pending Wires (λ n. kinds.Routing n) (count_of is_routing tech s) (Limit Layers) (is_known tech s) (λ t. After t words) (λ t. D t words) (λ t. C t words) refl refl h in
      typed front a words Wires e.1 (λ g ends. Routing (is, (at, (ends, tt))) (has_room_is is_routing tech s parts ∙ e.0) refl)
  type_key front a words keys.Cut is at h =
      let e = noted tech s parts.purpose parts.width pending Cuts (λ n. kinds.Cut n) (count_of is_cut tech s) (Limit CutLayers) (is_known tech s) (λ t. After t words) (λ t. D t words) (λ t. C t words) refl refl h in
      typed front a words Cuts e.1 (λ g ends. Cut (is, (at, (ends, tt))) (has_room_is is_cut tech s parts ∙ e.0) refl)
  type_key front a words _ is at h = another front a words _ is at refl _ refl h

  types : (front : Lexeme) (words : List Lexeme) → key_of front ≡ keys.Type → After (Open tech s parts pending rows.Type) words → Result' (front ∷ words)
  types front [] is h = absurd h
  types front (a ∷ words) is h = type_key front a words (key_of a) is refl (rw turns at h)

  -- ---- WIDTH

  no_width : (front a : Lexeme) (words : List Lexeme) (noted : Result ℤ Code) → key_of front ≡ keys.Width → is_semicolon (key_of a) ≡ false → (Are (Word keys.Width ∷ Operand ∷ Word keys.Semicolon ∷ []) (front ∷ a ∷ words) → ⊥)
      → IsOver words → LayerStatement (tech_with tech s) s.name parts (front ∷ a ∷ words) parts
  no_width front a words noted is un none over = NoWidth is none (more_tokens ends_statement front (a ∷ words) (rw is refl) (more_tokens ends_statement a words un over)) refl

  set_width : (front a b : Lexeme) (words : List Lexeme) (width : Result ℤ Code) → key_of front ≡ keys.Width → is_quoted (key_of a) ≡ false → is_semicolon (key_of a) ≡ false → key_of b ≡ keys.Semicolon → positive (length_read s.units a.bytes) ≡ width
      → Then words (takes_width (Open tech s parts (positive (length_read s.units a.bytes)) rows.WidthEnd) (at_line line b) width) → Result' (front ∷ a ∷ b ∷ words)
  set_width front a b words (Err code) is plain un ends same h = absurd h
  set_width front a b words (Ok width) is plain un ends same h =
      Statement (with_width width parts) (positive (length_read s.units a.bytes)) (front ∷ a ∷ b ∷ []) words refl (Width width (is, ((plain, un, same), (ends, tt))) refl) h

  width_end_key : (front a b : Lexeme) (words : List Lexeme) (key : Key) → key_of front ≡ keys.Width → is_quoted (key_of a) ≡ false → is_semicolon (key_of a) ≡ false → key_of b ≡ key
      → Then words (width_end_row (Open tech s parts (positive (length_read s.units a.bytes)) rows.WidthEnd) key (at_line line b)) → Result' (front ∷ a ∷ b ∷ words)
  unfolding width_end_row
  width_end_key front a b words keys.Semicolon is plain un at h = set_width front a b words _ is plain un at refl h
  width_end_key front a b words _ is plain un at h =
      let noted : Result ℤ Code = positive (length_read s.units a.bytes) in
      let f = reads_over tech line D C (At tech s parts noted) words h in
      Statement parts noted (front ∷ a ∷ b ∷ f.0) f.1 (ap (λ ws. front ∷ a ∷ b ∷ ws) f.2)
      (no_width front a (b ∷ f.0) noted is un (λ are. let e = sym at ∙ are.1.1.0 in cc) (more_tokens ends_statement b f.0 (rw at refl) f.3)) f.4

  width_end : (front a : Lexeme) (words : List Lexeme) → key_of front ≡ keys.Width → is_quoted (key_of a) ≡ false → is_semicolon (key_of a) ≡ false → After (Open tech s parts (positive (length_read s.units a.bytes)) rows.WidthEnd) words → Result' (front ∷ a ∷ words)
  width_end front a [] is plain un h = absurd h
  width_end front a (b ∷ words) is plain un h = width_end_key front a b words (key_of b) is plain un refl (rw turns at h)

  width_key : (front a : Lexeme) (words : List Lexeme) (key : Key) → key_of front ≡ keys.Width → key_of a ≡ key → Then words (width_row (Open tech s parts pending rows.Width) key (at_line line a)) → Result' (front ∷ a ∷ words)
  unfolding width_row
  width_key front a words keys.Semicolon is at h =
      Statement parts pending (front ∷ a ∷ []) words refl (NoWidth is (λ are. are.1.1) (more_tokens ends_statement front (a ∷ []) (rw is refl) (one_token ends_statement a (rw at refl))) refl) h
  width_key front a words keys.Quoted is at h =
      let f = reads_over tech line D C (At tech s parts pending) words h in
      Statement parts pending (front ∷ a ∷ f.0) f.1 (ap (λ ws. front ∷ a ∷ ws) f.2) (no_width front a f.0 pending is (rw at refl) (λ are. quoted_is_none (key_of a) at are.1.0.0) f.3) f.4
  width_key front a words _ is at h = width_end front a words is (rw at refl) (rw at refl) h

  widths : (front : Lexeme) (words : List Lexeme) → key_of front ≡ keys.Width → After (Open tech s parts pending rows.Width) words → Result' (front ∷ words)
  widths front [] is h = absurd h
  widths front (a ∷ words) is h = width_key front a words (key_of a) is refl (rw turns at h)

  -- ---- END

  end_key : (front a : Lexeme) (words : List Lexeme) → key_of front ≡ keys.End → Then words (end_of_layer tech (Open tech s parts pending rows.End) (key_of a) (at_line line a)) → Result' (front ∷ a ∷ words)
  unfolding end_of_layer
  end_key front a words is h =
      let e = unless (λ t. After t words) (λ t. D t words) (λ t. C t words) _ _ (not (is_name (key_of a) && bytes_eq a.bytes s.name)) h in
      let f = unless (λ t. After t words) (λ t. D t words) (λ t. C t words) _ _ (routes (option_map (noted_kind tech s) parts.purpose) && is_none parts.width) e.1 in
      let b = both (is_name (key_of a)) (bytes_eq a.bytes s.name) e.0 in
      End (front ∷ a ∷ []) words refl (is, ((b.0, (bytes_eq-Decides a.bytes s.name).0 b.1), tt))
      (not_false (is_for_wires parts.purpose && is_none parts.width) _ (ap (λ r. r && is_none parts.width) (sym (routes_wires tech s parts.purpose))) f.0) f.1

  ends : (front : Lexeme) (words : List Lexeme) → key_of front ≡ keys.End → After (Open tech s parts pending rows.End) words → Result' (front ∷ words)
  ends front [] is h = absurd h
  ends front (a ∷ words) is h = end_key front a words is (rw turns at h)

  -- ---- all of them

  by_key : (front : Lexeme) (words : List Lexeme) (key : Key) → key_of front ≡ key → Then words (layer_row (At tech s parts pending) key (at_line line front)) → Result' (front ∷ words)
  unfolding layer_row
  by_key front words keys.Type is h = types front words is h
  by_key front words keys.Width is h = widths front words is h
  by_key front words keys.End is h = ends front words is h
  by_key front words _ is h = let f = other tech line D C begins_in_layer (At tech s parts pending) front words _ is refl h in Statement parts pending f.0 f.1 f.2 (Other f.3 refl) f.4

  pub reads : (words : List Lexeme) → After (At tech s parts pending) words → Result' words
  reads [] h = absurd h
  reads (word ∷ words) h = by_key word words (key_of word) refl (rw turns at h)

  -- ---- statements to rows

  not_own : (key : Key) (word : Lexeme) → begins_in_layer key ≡ false → layer_row (At tech s parts pending) key word ≡ other_statement (At tech s parts pending) key word
  unfolding layer_row
  not_own keys.Type word un = absurd cc
  not_own keys.Width word un = absurd cc
  not_own keys.End word un = absurd cc
  not_own _ word un = refl

  routing_back : (words rest : List Lexeme) → Are (Word keys.Type ∷ Word keys.Routing ∷ Word keys.Semicolon ∷ []) words → has_room is_routing (tech_with tech s) s.name parts ≡ true → D (At tech s (with_purpose Wires parts) pending) rest → After (At tech s parts pending) (words ++ rest)
  unfolding layer_row type_row due_row is_known
  routing_back (a ∷ b ∷ c ∷ []) rest are fits d =
      let e = noted_back tech s parts.purpose parts.width pending Wires (λ n. kinds.Routing n) (count_of is_routing tech s) (Limit Layers) (is_known tech s) _ refl refl refl (sym (has_room_is is_routing tech s parts) ∙ fits) in
      rw (turns, are.0, turns, are.1.0, e, turns, are.1.1.0) d
  routing_back _ rest are fits d = search

  cut_back : (words rest : List Lexeme) → Are (Word keys.Type ∷ Word keys.Cut ∷ Word keys.Semicolon ∷ []) words → has_room is_cut (tech_with tech s) s.name parts ≡ true → D (At tech s (with_purpose Cuts parts) pending) rest → After (At tech s parts pending) (words ++ rest)
  unfolding layer_row type_row due_row is_known
  cut_back (a ∷ b ∷ c ∷ []) rest are fits d =
      let e = noted_back tech s parts.purpose parts.width pending Cuts (λ n. kinds.Cut n) (count_of is_cut tech s) (Limit CutLayers) (is_known tech s) _ refl refl refl (sym (has_room_is is_cut tech s parts) ∙ fits) in
      rw (turns, are.0, turns, are.1.0, e, turns, are.1.1.0) d
  cut_back _ rest are fits d = search

  another_turn : (key : Key) (word : Lexeme) → is_name key ≡ true → names_purpose key ≡ false → type_row tech (Open tech s parts pending rows.Type) key word ≡ More (Noted tech s parts pending Neither)
  unfolding type_row
  another_turn keys.Routing word named un = absurd cc
  another_turn keys.Cut word named un = absurd cc
  another_turn keys.Semicolon word named un = absurd cc
  another_turn keys.Open word named un = absurd cc
  another_turn keys.Close word named un = absurd cc
  another_turn keys.Plus word named un = absurd cc
  another_turn keys.Minus word named un = absurd cc
  another_turn keys.Quoted word named un = absurd cc
  another_turn _ word named un = rw (first_noted tech s parts.purpose Neither) refl

  another_back : (words rest : List Lexeme) → Are (Word keys.Type ∷ AnyBut names_purpose ∷ Word keys.Semicolon ∷ []) words → D (At tech s (with_purpose Neither parts) pending) rest → After (At tech s parts pending) (words ++ rest)
  unfolding layer_row due_row
  another_back (a ∷ b ∷ c ∷ []) rest are d = rw (turns, are.0, turns, another_turn (key_of b) (at_line line b) are.1.0.0 are.1.0.1, turns, are.1.1.0) d
  another_back _ rest are d = search

  width_turn : (key : Key) (word : Lexeme) → is_quoted key ≡ false → is_semicolon key ≡ false → width_row (Open tech s parts pending rows.Width) key word ≡ More (Open tech s parts (positive (length_read s.units word.bytes)) rows.WidthEnd)
  unfolding width_row
  width_turn keys.Semicolon word plain un = absurd cc
  width_turn keys.Quoted word plain un = absurd cc
  width_turn _ word plain un = refl

  width_back : (width : ℤ) (words rest : List Lexeme) → Are (Word keys.Width ∷ Above0 s.units width ∷ Word keys.Semicolon ∷ []) words → ((p : Result ℤ Code) → D (At tech s (with_width width parts) p) rest) → After (At tech s parts pending) (words ++ rest)
  unfolding layer_row width_end_row
  width_back width (a ∷ b ∷ c ∷ []) rest are d =
      rw (turns, are.0, turns, width_turn (key_of b) (at_line line b) are.1.0.0 are.1.0.1, turns, are.1.1.0, are.1.0.2) (d (Ok width))
  width_back width _ rest are d = search

  width_over : (noted : Result ℤ Code) (key : Key) (word : Lexeme) → is_semicolon key ≡ false → width_end_row (Open tech s parts noted rows.WidthEnd) key word ≡ More (record (At tech s parts noted) { row = rows.Over })
  unfolding width_end_row
  width_over noted keys.Semicolon word un = absurd cc
  width_over noted _ word un = refl

  width_ends : (key : Key) (word : Lexeme) → is_semicolon key ≡ true → width_row (Open tech s parts pending rows.Width) key word ≡ Done (At tech s parts pending)
  unfolding width_row
  width_ends keys.Semicolon word ends = refl
  width_ends _ word ends = absurd cc

  width_quoted : (key : Key) (word : Lexeme) → is_quoted key ≡ true → width_row (Open tech s parts pending rows.Width) key word ≡ More (record (At tech s parts pending) { row = rows.Over })
  unfolding width_row
  width_quoted keys.Quoted word quoted = refl
  width_quoted _ word quoted = absurd cc

  abbrev NotOne : List Lexeme → Type 0
  NotOne words = Are (Word keys.Width ∷ Operand ∷ Word keys.Semicolon ∷ []) words → ⊥

  third : (a b c : Lexeme) (words rest : List Lexeme) (ends : Bool) → is_semicolon (key_of c) ≡ ends → key_of a ≡ keys.Width → is_quoted (key_of b) ≡ false → is_semicolon (key_of b) ≡ false → NotOne (a ∷ b ∷ c ∷ words) → IsOver (c ∷ words)
      → ((p : Result ℤ Code) → D (At tech s parts p) rest) → After (Open tech s parts (positive (length_read s.units b.bytes)) rows.WidthEnd) (c ∷ words ++ rest)
  third a b c words rest true at is plain un none over d =
      let e : words ≡ [] = behind ends_statement c words true at over in
      absurd (none (rw e (is, ((plain, un), (semicolon_key (key_of c) at, tt)))))
  third a b c words rest false at is plain un none over d =
      let noted : Result ℤ Code = positive (length_read s.units b.bytes) in
      rw (turns, width_over noted (key_of c) (at_line line c) at) (over_back tech line D C (At tech s parts noted) words rest (behind ends_statement c words false at over) (d noted))

  second : (a b : Lexeme) (words rest : List Lexeme) (ends quoted : Bool) → is_semicolon (key_of b) ≡ ends → is_quoted (key_of b) ≡ quoted → key_of a ≡ keys.Width → NotOne (a ∷ b ∷ words) → IsOver (b ∷ words)
      → ((p : Result ℤ Code) → D (At tech s parts p) rest) → After (Open tech s parts pending rows.Width) (b ∷ words ++ rest)
  second a b words rest true quoted at q is none over d =
      let e : words ≡ [] = behind ends_statement b words true at over in
      rw (turns, width_ends (key_of b) (at_line line b) at, e) (d pending)
  second a b words rest false true at q is none over d =
      rw (turns, width_quoted (key_of b) (at_line line b) q) (over_back tech line D C (At tech s parts pending) words rest (behind ends_statement b words false at over) (d pending))
  second a b [] rest false false at q is none over d = absurd (no_tokens ends_statement (behind ends_statement b [] false at over))
  second a b (c ∷ words) rest false false at q is none over d =
      rw (turns, width_turn (key_of b) (at_line line b) q at) (third a b c words rest (is_semicolon (key_of c)) refl is q at none (behind ends_statement b (c ∷ words) false at over) d)

  no_width_back : (words rest : List Lexeme) → BeginsWith keys.Width words → NotOne words → IsOver words → ((p : Result ℤ Code) → D (At tech s parts p) rest) → After (At tech s parts pending) (words ++ rest)
  unfolding layer_row
  no_width_back [] rest is none over d = absurd is
  no_width_back (a ∷ []) rest is none over d = absurd (no_tokens ends_statement (behind ends_statement a [] false (rw is refl) over))
  no_width_back (a ∷ b ∷ words) rest is none over d =
      rw (turns, is) (second a b words rest (is_semicolon (key_of b)) (is_quoted (key_of b)) refl refl is none (behind ends_statement a (b ∷ words) false (rw is refl) over) d)

  pub statement_back : (after : LayerParts) (words rest : List Lexeme) → LayerStatement (tech_with tech s) s.name parts words after → ((p : Result ℤ Code) → D (At tech s after p) rest) → After (At tech s parts pending) (words ++ rest)
  statement_back after words rest (Routing are fits same) d = routing_back words rest are fits (rw same at (d pending))
  statement_back after words rest (Cut are fits same) d = cut_back words rest are fits (rw same at (d pending))
  statement_back after words rest (OfAnother are same) d = another_back words rest are (rw same at (d pending))
  statement_back after words rest (Width width are same) d = width_back width words rest are (λ p. rw same at (d p))
  statement_back after words rest (NoWidth begins none over same) d = no_width_back words rest begins none over (λ p. rw same at (d p))
  statement_back after words rest (Other is same) d =
      other_back tech line D C begins_in_layer (At tech s parts pending) (λ word un. turns tech line (At tech s parts pending) word ∙ not_own (key_of word) (at_line line word) un) words rest is (rw same at (d pending))

  end_turn : (key : Key) (word : Lexeme) → is_name key ≡ true → word.bytes ≡ s.name → is_complete parts ≡ true → end_of_layer tech (Open tech s parts pending rows.End) key word ≡ Done (Closed tech s parts pending)
  unfolding end_of_layer
  end_turn key word named same complete =
      let e : bytes_eq word.bytes s.name ≡ true = (bytes_eq-Decides word.bytes s.name).1 same in
      let f : (is_for_wires parts.purpose && is_none parts.width) ≡ false = not_true (is_for_wires parts.purpose && is_none parts.width) complete in
      rw (named, e, routes_wires tech s parts.purpose, f) refl

  pub end_back : (words rest : List Lexeme) → Are (Word keys.End ∷ Name s.name ∷ []) words → is_complete parts ≡ true → D (Closed tech s parts pending) rest → After (At tech s parts pending) (words ++ rest)
  unfolding layer_row
  end_back (a ∷ b ∷ []) rest are complete d = rw (turns, are.0, turns, end_turn (key_of b) (at_line line b) are.1.0.0 are.1.0.1 complete) d
  end_back _ rest are complete d = search

-- ---- the technology after a LAYER

kinds_are : (tech : Technology) (s : State) (purpose : Option Purpose) → is_known tech s ≡ false → kind_or_other (option_map (noted_kind tech s) purpose) ≡ kind_of (tech_with tech s) purpose
kinds_are tech s (Some Wires) un = rw (un, counted is_routing tech s) refl
kinds_are tech s (Some Cuts) un = rw (un, counted is_cut tech s) refl
kinds_are tech s (Some Neither) un = refl
kinds_are tech s None un = refl

widths_are : (tech : Technology) (s : State) (purpose : Option Purpose) (width : Option ℤ) (pending : Result ℤ Code)
    → width_of (record { kind = option_map (noted_kind tech s) purpose; width = width; pending = pending }) ≡ cond (is_for_wires purpose) (or_0 width) (pos 0)
widths_are tech s (Some Wires) (Some width) pending = refl
widths_are tech s (Some Wires) None pending = refl
widths_are tech s (Some Cuts) width pending = refl
widths_are tech s (Some Neither) width pending = refl
widths_are tech s None width pending = refl

made : (tech : Technology) (s : State) (parts : LayerParts) (pending : Result ℤ Code) → is_known tech s ≡ false → made_layer (Open tech s parts pending rows.End) ≡ layer_of (tech_with tech s) s.name parts
made tech s parts pending un = rw (kinds_are tech s parts.purpose un, widths_are tech s parts.purpose parts.width pending) refl

pub closed_tech : (tech : Technology) (s : State) (parts : LayerParts) (pending : Result ℤ Code) → tech_with tech (Closed tech s parts pending) ≡ with_new_layer (tech_with tech s) s.name parts
unfolding is_known
closed_tech tech s parts pending =
    ap (λ ls. record (tech_with tech s) { layers = ls })
    (joins (is_known tech (Open tech s parts pending rows.End)) tech.layers s.layers (made_layer (Open tech s parts pending rows.End)) (layer_of (tech_with tech s) s.name parts) (λ un. made tech s parts pending un) ∙ rw (known tech s) refl)
