-- VIA v .. END v: the rows against its statements, both ways.
use Rattle.std.proofs.Common.{◌≡◌, ◌∙◌, ℕ, true, false, List, [], ◌∷◌, ◌++◌, refl, ap}
use Rattle.std.proofs.lemmas.Slice.Eq.{bytes_eq-Decides}
use Rattle.std.proofs.lemmas.List.Folds.{list_any-append}
use Rattle.std.specs.Prelude.{Some, ◌&&◌, is_some, is_none, Ok, ℤ}
use Rattle.std.specs.Str.{bytes_eq}
use Rattle.rc_keys.specs.Lexemes.{Lexeme}
use Rattle.rc_keys.specs.Course.{Turn, More}
use Rattle.rc_keys.specs.Statements.{at_line}
use Rattle.rc_keys.proofs.Phrasing.{On, unless, only, Takes, more_tokens}
use Rattle.rc_keys.proofs.Ways as ways
use Rattle.rc_keys.proofs.Ways.{Reads as Chain}
use Rattle.rc_lef.specs.declared.key.Key.{Key}
use Rattle.rc_lef.specs.declared.key.Key.TheVariants as keys
use Rattle.rc_lef.specs.declared.state.State.{State}
use Rattle.rc_lef.specs.declared.state.ViaDraft.{ViaDraft}
use Rattle.rc_lef.specs.declared.state.Block.TheVariants as blocks
use Rattle.rc_lef.specs.declared.state.Form.TheVariants as forms
use Rattle.rc_lef.specs.declared.state.Home.{Home}
use Rattle.rc_lef.specs.declared.state.Row.{Row}
use Rattle.rc_lef.specs.declared.state.Row.TheVariants as rows
use Rattle.rc_lef.specs.declared.tech.LayerKind.{LayerKind}
use Rattle.rc_lef.specs.Keys.{key_of, is_name}
use Rattle.rc_lef.specs.Technology.{Technology}
use Rattle.rc_lef.specs.Moves.{other_statement, first}
use Rattle.rc_lef.specs.Numbers.{rect_in_via, cut_size_in, spacing_in, enclosure_in, number_row, noted}
use Rattle.rc_lef.specs.Operands.{length_at, count_at, whole_at}
use Rattle.rc_lef.specs.Vias.{via_head_row, via_stack_row, via_row, via_layer_row, via_rect_row, via_mask_row, via_rule_row, first_layer_row, second_layer_row, third_layer_row, rows_row, columns_row, is_via, knows_via, with_via, end_of_via, via_of}
use Rattle.rc_lef.specs.Rows.{lef_turn, row_in, tech_with}
use Rattle.rc_lef.specs.Phrases.{Word, semicolon, Name, AnyName, LayerOf, Coordinate, Size, Distance, Whole, Count, Says, Are, IsOver, ends_statement, is_semicolon}
use Rattle.rc_lef.specs.ViaBlock.{Stage, Head, Stack, Body, may_stand, ViaParts, body as with_body, makes_unusable, begins_in_body, begins_in_via, begins_unusable, is_mask, is_masked, ViaStatement, Default, TopOfStackOnly, OnLayer, Rect, MaskedRect, Rule, CutSize, Layers, CutSpacing, Enclosure, RowCol, Unusable, Other, with_new_via}
use Rattle.rc_lef.proofs.SmallTests.{both, neither, some_is, none_is, joins}
use Rattle.rc_lef.proofs.Turns.{turns, due, due_ends, reads_over, over_back, other, other_back}
use Rattle.rc_lef.proofs.Chains.{read_is, read_goes, layer_goes, number_is, number_goes, two_read, three_read, Two, Three}

-- ---- the state of an open VIA

abbrev row_of : Stage → Row
row_of Head = rows.ViaHead
row_of Stack = rows.ViaStack
row_of Body = rows.Begin

abbrev pub At : Home → State → List ℤ → ViaParts → State
At home s numbers parts = record s { block = blocks.Via home; row = row_of parts.stage; via = parts.via; numbers = numbers }

-- the state at a row of a statement
abbrev In : Home → State → List ℤ → ViaDraft → Row → State
In home s numbers via row = record s { block = blocks.Via home; row = row; via = via; numbers = numbers }

abbrev pub Closed : Technology → Home → State → List ℤ → ViaParts → State
Closed tech home s numbers parts = record (with_via tech home (In home s numbers parts.via rows.End)) { row = rows.Begin }

-- a front of the tokens is a statement of VIA, or its end, and `D` holds behind it
pub data Reads (tech : Technology) (home : Home) (D : State → List Lexeme → Type 0) (s : State) (numbers : List ℤ) (parts : ViaParts) (words : List Lexeme) : Type 0 where
  Statement : (after : ViaParts) (noted : List ℤ) (front rest : List Lexeme) → words ≡ front ++ rest → ViaStatement (tech_with tech s) parts front after → D (At home s noted after) rest → Reads tech home D s numbers parts words
  End : (front rest : List Lexeme) → words ≡ front ++ rest → Are (Word keys.End ∷ Name s.name ∷ []) front → D (Closed tech home s numbers parts) rest → Reads tech home D s numbers parts words

own : (stage : Stage) (key : Key) → begins_in_body key ≡ true → may_stand stage key ≡ false
own Head keys.Default is = absurd cc
own Head keys.TopOfStackOnly is = absurd cc
own Head _ is = refl
own Stack keys.TopOfStackOnly is = absurd cc
own Stack _ is = refl
own Body _ is = refl

-- a word that is none of those which may stand yet begins a statement
begins : (tech : Technology) (home : Home) (s : State) (numbers : List ℤ) (stage : Stage) (via : ViaDraft) (key : Key) (word : Lexeme) → may_stand stage key ≡ false
    → row_in tech (row_of stage) (In home s numbers via (row_of stage)) key word ≡ via_row (In home s numbers via rows.Begin) key word
unfolding via_head_row via_stack_row
begins tech home s numbers Head via keys.Default word un = absurd cc
begins tech home s numbers Head via keys.TopOfStackOnly word un = absurd cc
begins tech home s numbers Head via _ word un = refl
begins tech home s numbers Stack via keys.TopOfStackOnly word un = absurd cc
begins tech home s numbers Stack via _ word un = refl
begins tech home s numbers Body via _ word un = refl

module _ (tech : Technology) (home : Home) (line : ℕ) (D C : State → List Lexeme → Type 0) (s : State) (numbers : List ℤ) where
  abbrev After : State → List Lexeme → Type 0
  After s words = Takes (lef_turn tech) line D C s words

  abbrev Then : List Lexeme → Turn State → Type 0
  Then words turn = On (λ s. After s words) (λ s. D s words) (λ s. C s words) turn

  abbrev Answer : Stage → ViaDraft → List Lexeme → Type 0
  Answer stage via words = Reads tech home D s numbers (record { stage = stage; via = via }) words

  -- ---- statements of fixed form, from the token behind their keyword on

  abbrev Reading : State → (V : Type 0) → (V → List Rattle.rc_lef.specs.Phrases.Part) → (V → State) → Type 1
  Reading s V parts after = Chain (lef_turn tech) line Says s V parts after

  corners : (via : ViaDraft) (x1 : ℤ) → Reading (In home s (x1 ∷ []) via (rows.Number forms.ViaRect)) Three (λ v. Coordinate s.units v.0 ∷ Coordinate s.units v.1.0 ∷ Coordinate s.units v.1.1.0 ∷ semicolon ∷ [])
      (λ v. At home s (x1 ∷ v.0 ∷ v.1.0 ∷ v.1.1.0 ∷ []) (with_body (rect_in_via via (x1 ∷ v.0 ∷ v.1.0 ∷ v.1.1.0 ∷ []))))
  corners via x1 =
      three_read tech line (In home s [] via rows.Begin) forms.ViaRect x1 (λ y1 x2 y2. In home s (x1 ∷ y1 ∷ x2 ∷ y2 ∷ []) (rect_in_via via (x1 ∷ y1 ∷ x2 ∷ y2 ∷ [])) rows.Due) (λ x y. refl) (λ x y z. refl) (λ y1 x2 y2. refl)

  cut_sizes : (via : ViaDraft) → Reading (In home s [] via (rows.Number forms.CutSize)) Two (λ v. Size s.units v.0 ∷ Size s.units v.1.0 ∷ semicolon ∷ []) (λ v. At home s (v.0 ∷ v.1.0 ∷ []) (with_body (cut_size_in via (v.0 ∷ v.1.0 ∷ []))))
  cut_sizes via = two_read tech line (In home s [] via rows.Begin) forms.CutSize (λ x y. In home s (x ∷ y ∷ []) (cut_size_in via (x ∷ y ∷ [])) rows.Due) (λ x. refl) (λ x y. refl)

  spacings : (via : ViaDraft) → Reading (In home s [] via (rows.Number forms.CutSpacing)) Two (λ v. Distance s.units v.0 ∷ Distance s.units v.1.0 ∷ semicolon ∷ []) (λ v. At home s (v.0 ∷ v.1.0 ∷ []) (with_body (spacing_in via (v.0 ∷ v.1.0 ∷ []))))
  spacings via = two_read tech line (In home s [] via rows.Begin) forms.CutSpacing (λ x y. In home s (x ∷ y ∷ []) (spacing_in via (x ∷ y ∷ [])) rows.Due) (λ x. refl) (λ x y. refl)

  abbrev Four : Type 0
  Four = ℤ × Three

  enclosures : (via : ViaDraft) → Reading (In home s [] via (rows.Number forms.Enclosure)) Four (λ v. Distance s.units v.0 ∷ Distance s.units v.1.0 ∷ Distance s.units v.1.1.0 ∷ Distance s.units v.1.1.1.0 ∷ semicolon ∷ [])
      (λ v. At home s (v.0 ∷ v.1.0 ∷ v.1.1.0 ∷ v.1.1.1.0 ∷ []) (with_body (enclosure_in via (v.0 ∷ v.1.0 ∷ v.1.1.0 ∷ v.1.1.1.0 ∷ []))))
  enclosures via =
      ways.goes _ _ _ _ _ _ _ _ (number_goes tech line (In home s [] via rows.Begin) forms.Enclosure [] (λ x. In home s (x ∷ []) via (rows.Number forms.Enclosure)) (λ x. refl)) (λ x1.
      three_read tech line (In home s [] via rows.Begin) forms.Enclosure x1 (λ y1 x2 y2. In home s (x1 ∷ y1 ∷ x2 ∷ y2 ∷ []) (enclosure_in via (x1 ∷ y1 ∷ x2 ∷ y2 ∷ [])) rows.Due) (λ x y. refl) (λ x y z. refl) (λ y1 x2 y2. refl))

  layer_reads : (via : ViaDraft) → Reading (In home s numbers via rows.ViaLayer) (LayerKind × Unit {0}) (λ v. LayerOf (tech_with tech s).layers v.0 ∷ semicolon ∷ []) (λ v. At home s numbers (with_body (record via { layer = Some v.0 })))
  unfolding via_layer_row
  layer_reads via =
      ways.goes _ _ _ _ _ _ _ _ (layer_goes tech line (In home s numbers via rows.ViaLayer) (λ kind. In home s numbers (record via { layer = Some kind }) rows.Due) (λ word. turns tech line (In home s numbers via rows.ViaLayer) word)) (λ kind.
      ways.ends _ _ _ _ _ _ (due_ends tech line (In home s numbers (record via { layer = Some kind }) rows.Due)))

  abbrev Three_layers : Type 0
  Three_layers = LayerKind × (LayerKind × (LayerKind × Unit {0}))

  layers_read : (via : ViaDraft) → Reading (In home s numbers via rows.FirstLayer) Three_layers (λ v. LayerOf (tech_with tech s).layers v.0 ∷ LayerOf (tech_with tech s).layers v.1.0 ∷ LayerOf (tech_with tech s).layers v.1.1.0 ∷ semicolon ∷ [])
      (λ v. At home s numbers (with_body (record via { layers = first via.layers (v.0, v.1.0, v.1.1.0) })))
  unfolding first_layer_row second_layer_row third_layer_row
  layers_read via =
      ways.goes _ _ _ _ _ _ _ _ (layer_goes tech line (In home s numbers via rows.FirstLayer) (λ b. In home s numbers via (rows.SecondLayer b)) (λ word. turns tech line (In home s numbers via rows.FirstLayer) word)) (λ b.
      ways.goes _ _ _ _ _ _ _ _ (layer_goes tech line (In home s numbers via (rows.SecondLayer b)) (λ c. In home s numbers via (rows.ThirdLayer b c)) (λ word. turns tech line (In home s numbers via (rows.SecondLayer b)) word)) (λ c.
      ways.goes _ _ _ _ _ _ _ _
      (layer_goes tech line (In home s numbers via (rows.ThirdLayer b c)) (λ t. In home s numbers (record via { layers = first via.layers (b, c, t) }) rows.Due) (λ word. turns tech line (In home s numbers via (rows.ThirdLayer b c)) word)) (λ t.
      ways.ends _ _ _ _ _ _ (due_ends tech line (In home s numbers (record via { layers = first via.layers (b, c, t) }) rows.Due)))))

  counts_read : (via : ViaDraft) → Reading (In home s numbers via rows.Rows) (ℕ × (ℕ × Unit {0})) (λ v. Count v.0 ∷ Count v.1.0 ∷ semicolon ∷ []) (λ v. At home s numbers (with_body (record via { rows_columns = first via.rows_columns (v.0, v.1.0) })))
  unfolding rows_row columns_row
  counts_read via =
      ways.goes _ _ _ _ _ _ _ _ (read_goes tech line (In home s numbers via rows.Rows) (λ word. count_at (key_of word) word.bytes) (λ n. Count n) (λ n. In home s numbers via (rows.Columns n)) (λ n w is. is) (λ n w is. is) (λ word. turns tech line (In home s numbers via rows.Rows) word)) (λ n.
      ways.goes _ _ _ _ _ _ _ _
      (read_goes tech line (In home s numbers via (rows.Columns n)) (λ word. count_at (key_of word) word.bytes) (λ m. Count m) (λ m. In home s numbers (record via { rows_columns = first via.rows_columns (n, m) }) rows.Due) (λ m w is. is) (λ m w is. is)
      (λ word. turns tech line (In home s numbers via (rows.Columns n)) word)) (λ m.
      ways.ends _ _ _ _ _ _ (due_ends tech line (In home s numbers (record via { rows_columns = first via.rows_columns (n, m) }) rows.Due))))

  -- ---- RECT

  module _ (stage : Stage) (via : ViaDraft) (front : Lexeme) (placed : is_some via.layer ≡ true) (is : key_of front ≡ keys.Rect) where
    plain_rect : (a : Lexeme) (words : List Lexeme) (key : Key) → key_of a ≡ key → is_mask key ≡ false → Then words (number_row (In home s [] via rows.ViaRect) forms.ViaRect key (at_line line a)) → Answer stage via (front ∷ a ∷ words)
    unfolding number_row
    plain_rect a words key at un h =
        let e = read_is (λ t. After t words) (λ t. D t words) (λ t. C t words) (length_at Rattle.rc_lef.specs.declared.length.Range.TheVariants.Any s.units key a.bytes) (at_line line a) (λ z. noted forms.ViaRect (In home s (z ∷ []) via rows.ViaRect)) h in
        let f = (corners via e.0).sound D C words e.2 in
        Statement _ _ (front ∷ a ∷ f.1) f.2 (ap (λ ws. front ∷ a ∷ ws) f.3) (Rect e.0 f.0.0 f.0.1.0 f.0.1.1.0 (is, (rw at e.1, f.4)) (rw at un) placed refl) f.5

    first_masked : (a b c : Lexeme) (words : List Lexeme) → key_of a ≡ keys.Mask → Says Whole b → Then words (number_row (In home s [] via (rows.Number forms.ViaRect)) forms.ViaRect (key_of c) (at_line line c)) → Answer stage via (front ∷ a ∷ b ∷ c ∷ words)
    unfolding number_row
    first_masked a b c words at n h =
        let e = read_is (λ t. After t words) (λ t. D t words) (λ t. C t words) (length_at Rattle.rc_lef.specs.declared.length.Range.TheVariants.Any s.units (key_of c) c.bytes) (at_line line c) (λ z. noted forms.ViaRect (In home s (z ∷ []) via (rows.Number forms.ViaRect))) h in
        let f = (corners via e.0).sound D C words e.2 in
        Statement _ _ (front ∷ a ∷ b ∷ c ∷ f.1) f.2 (ap (λ ws. front ∷ a ∷ b ∷ c ∷ ws) f.3) (MaskedRect e.0 f.0.0 f.0.1.0 f.0.1.1.0 (is, (at, (n, (e.1, f.4)))) placed refl) f.5

    masked_rect : (a b : Lexeme) (words : List Lexeme) → key_of a ≡ keys.Mask → Then words (via_mask_row (In home s [] via rows.ViaMask) (key_of b) (at_line line b)) → Answer stage via (front ∷ a ∷ b ∷ words)
    unfolding via_mask_row
    masked_rect a b [] at h = absurd (read_is (λ t. After t []) (λ t. D t []) (λ t. C t []) (whole_at (key_of b) b.bytes) (at_line line b) (λ _. More (In home s [] via (rows.Number forms.ViaRect))) h).2
    masked_rect a b (c ∷ words) at h =
        let m = read_is (λ t. After t (c ∷ words)) (λ t. D t (c ∷ words)) (λ t. C t (c ∷ words)) (whole_at (key_of b) b.bytes) (at_line line b) (λ _. More (In home s [] via (rows.Number forms.ViaRect))) h in
        first_masked a b c words at m.1 (rw turns at m.2)

    mask : (a : Lexeme) (words : List Lexeme) → key_of a ≡ keys.Mask → After (In home s [] via rows.ViaMask) words → Answer stage via (front ∷ a ∷ words)
    mask a [] at h = absurd h
    mask a (b ∷ words) at h = masked_rect a b words at (rw turns at h)

    rect_key : (a : Lexeme) (words : List Lexeme) (key : Key) → key_of a ≡ key → Then words (via_rect_row (In home s [] via rows.ViaRect) key (at_line line a)) → Answer stage via (front ∷ a ∷ words)
    unfolding via_rect_row
    rect_key a words keys.Mask at h = mask a words at h
    rect_key a words _ at h = plain_rect a words _ at refl h

    rects : (words : List Lexeme) → After (In home s [] via rows.ViaRect) words → Answer stage via (front ∷ words)
    rects [] h = absurd h
    rects (a ∷ words) h = rect_key a words (key_of a) refl (rw turns at h)

  -- ---- VIARULE, POLYGON and the like, END

  rule_name : (stage : Stage) (via : ViaDraft) (front a : Lexeme) (words : List Lexeme) → key_of front ≡ keys.ViaRule → Then words (via_rule_row (In home s numbers via rows.ViaRule) (key_of a) (at_line line a)) → Answer stage via (front ∷ a ∷ words)
  unfolding via_rule_row
  rule_name stage via front a words is h =
      let e = only (λ t. After t words) (λ t. D t words) (λ t. C t words) _ _ (is_name (key_of a)) h in
      let g = due tech line D C (In home s numbers (record via { has_rule = true }) rows.ViaRule) words e.1 in
      Statement (with_body (record via { has_rule = true })) numbers (front ∷ a ∷ g.0 ∷ []) g.1 (ap (λ ws. front ∷ a ∷ ws) g.2) (Rule (is, (e.0, (g.3, tt))) refl) g.4

  rules : (stage : Stage) (via : ViaDraft) (front : Lexeme) (words : List Lexeme) → key_of front ≡ keys.ViaRule → After (In home s numbers via rows.ViaRule) words → Answer stage via (front ∷ words)
  rules stage via front [] is h = absurd h
  rules stage via front (a ∷ words) is h = rule_name stage via front a words is (rw turns at h)

  unusable : (stage : Stage) (via : ViaDraft) (front : Lexeme) (words : List Lexeme) (key : Key) → key_of front ≡ key → makes_unusable key ≡ true → is_semicolon key ≡ false → After (In home s numbers (record via { is_plain = false }) rows.Over) words → Answer stage via (front ∷ words)
  unusable stage via front words key is makes un h =
      let f = reads_over tech line D C (In home s numbers (record via { is_plain = false }) rows.Begin) words h in
      Statement (with_body (record via { is_plain = false })) numbers (front ∷ f.0) f.1 (ap (λ ws. front ∷ ws) f.2)
      (Unusable (rw is makes) (more_tokens ends_statement front f.0 (rw is un) f.3) refl) f.4

  end_key : (stage : Stage) (via : ViaDraft) (front a : Lexeme) (words : List Lexeme) → key_of front ≡ keys.End → Then words (end_of_via tech home (In home s numbers via rows.End) (key_of a) (at_line line a)) → Answer stage via (front ∷ a ∷ words)
  unfolding end_of_via
  end_key stage via front a words is h =
      let e = only (λ t. After t words) (λ t. D t words) (λ t. C t words) _ _ (is_name (key_of a) && bytes_eq a.bytes s.name) h in
      let b = both (is_name (key_of a)) (bytes_eq a.bytes s.name) e.0 in
      End (front ∷ a ∷ []) words refl (is, ((b.0, (bytes_eq-Decides a.bytes s.name).0 b.1), tt)) e.1

  ends : (stage : Stage) (via : ViaDraft) (front : Lexeme) (words : List Lexeme) → key_of front ≡ keys.End → After (In home s numbers via rows.End) words → Answer stage via (front ∷ words)
  ends stage via front [] is h = absurd h
  ends stage via front (a ∷ words) is h = end_key stage via front a words is (rw turns at h)

  -- ---- all of them

  body : (stage : Stage) (via : ViaDraft) (front : Lexeme) (words : List Lexeme) (key : Key) → key_of front ≡ key → may_stand stage key ≡ false → Then words (via_row (In home s numbers via rows.Begin) key (at_line line front)) → Answer stage via (front ∷ words)
  unfolding via_row
  body stage via front words keys.Layer is un h = let e = (layer_reads via).sound D C words h in Statement _ _ (front ∷ e.1) e.2 (ap (λ ws. front ∷ ws) e.3) (OnLayer e.0.0 (is, e.4) refl) e.5
  body stage via front words keys.Rect is un h =
      let e = unless (λ t. After t words) (λ t. D t words) (λ t. C t words) _ _ (is_none via.layer) h in
      rects stage via front (some_is via.layer e.0) is words e.1
  body stage via front words keys.End is un h = ends stage via front words is h
  body stage via front words keys.Polygon is un h = unusable stage via front words keys.Polygon is refl refl h
  body stage via front words keys.Origin is un h = unusable stage via front words keys.Origin is refl refl h
  body stage via front words keys.Offset is un h = unusable stage via front words keys.Offset is refl refl h
  body stage via front words keys.Pattern is un h = unusable stage via front words keys.Pattern is refl refl h
  body stage via front words keys.ViaRule is un h = rules stage via front words is h
  body stage via front words keys.CutSize is un h = let e = (cut_sizes via).sound D C words h in Statement _ _ (front ∷ e.1) e.2 (ap (λ ws. front ∷ ws) e.3) (CutSize e.0.0 e.0.1.0 (is, e.4) refl) e.5
  body stage via front words keys.Layers is un h = let e = (layers_read via).sound D C words h in Statement _ _ (front ∷ e.1) e.2 (ap (λ ws. front ∷ ws) e.3) (Layers e.0.0 e.0.1.0 e.0.1.1.0 (is, e.4) refl) e.5
  body stage via front words keys.CutSpacing is un h = let e = (spacings via).sound D C words h in Statement _ _ (front ∷ e.1) e.2 (ap (λ ws. front ∷ ws) e.3) (CutSpacing e.0.0 e.0.1.0 (is, e.4) refl) e.5
  body stage via front words keys.Enclosure is un h = let e = (enclosures via).sound D C words h in Statement _ _ (front ∷ e.1) e.2 (ap (λ ws. front ∷ ws) e.3) (Enclosure e.0.0 e.0.1.0 e.0.1.1.0 e.0.1.1.1.0 (is, e.4) refl) e.5
  body stage via front words keys.RowCol is un h = let e = (counts_read via).sound D C words h in Statement _ _ (front ∷ e.1) e.2 (ap (λ ws. front ∷ ws) e.3) (RowCol e.0.0 e.0.1.0 (is, e.4) refl) e.5
  body stage via front words _ is un h =
      let f = other tech line D C (begins_in_via stage) (In home s numbers via rows.Begin) front words _ is (rw un refl) h in
      Statement (with_body via) numbers f.0 f.1 f.2 (Other f.3 refl) f.4

  by_stage : (stage : Stage) (via : ViaDraft) (front : Lexeme) (words : List Lexeme) (key : Key) → key_of front ≡ key → Then words (row_in tech (row_of stage) (In home s numbers via (row_of stage)) key (at_line line front)) → Answer stage via (front ∷ words)
  unfolding via_head_row via_stack_row
  by_stage Head via front words keys.Default is h = Statement (record { stage = Stack; via = via }) numbers (front ∷ []) words refl (Default (is, tt) refl refl) h
  by_stage Head via front words keys.TopOfStackOnly is h = Statement (with_body via) numbers (front ∷ []) words refl (TopOfStackOnly (is, tt) refl refl) h
  by_stage Head via front words _ is h = body Head via front words _ is refl h
  by_stage Stack via front words keys.TopOfStackOnly is h = Statement (with_body via) numbers (front ∷ []) words refl (TopOfStackOnly (is, tt) refl refl) h
  by_stage Stack via front words _ is h = body Stack via front words _ is refl h
  by_stage Body via front words key is h = body Body via front words key is refl h

  pub reads : (parts : ViaParts) (words : List Lexeme) → After (At home s numbers parts) words → Answer parts.stage parts.via words
  reads parts [] h = absurd h
  reads parts (word ∷ words) h = by_stage parts.stage parts.via word words (key_of word) refl (rw turns at h)

  -- ---- statements to rows

  begun : (stage : Stage) (via : ViaDraft) (word : Lexeme) → may_stand stage (key_of word) ≡ false → lef_turn tech (In home s numbers via (row_of stage)) (at_line line word) ≡ via_row (In home s numbers via rows.Begin) (key_of word) (at_line line word)
  begun stage via word un = turns tech line (In home s numbers via (row_of stage)) word ∙ begins tech home s numbers stage via (key_of word) (at_line line word) un

  begun_by : (stage : Stage) (via : ViaDraft) (word : Lexeme) (key : Key) → key_of word ≡ key → begins_in_body key ≡ true → lef_turn tech (In home s numbers via (row_of stage)) (at_line line word) ≡ via_row (In home s numbers via rows.Begin) key (at_line line word)
  begun_by stage via word key is own_ = begun stage via word (rw is (own stage key own_)) ∙ ap (λ k. via_row (In home s numbers via rows.Begin) k (at_line line word)) is

  rect_turn : (via : ViaDraft) (word : Lexeme) → is_some via.layer ≡ true → via_row (In home s numbers via rows.Begin) keys.Rect word ≡ More (In home s [] via rows.ViaRect)
  unfolding via_row
  rect_turn via word placed = rw (none_is via.layer placed) refl

  first_number : (via : ViaDraft) (key : Key) (word : Lexeme) (x1 : ℤ) → is_mask key ≡ false → length_at Rattle.rc_lef.specs.declared.length.Range.TheVariants.Any s.units key word.bytes ≡ Ok x1 → via_rect_row (In home s [] via rows.ViaRect) key word ≡ More (In home s (x1 ∷ []) via (rows.Number forms.ViaRect))
  unfolding via_rect_row
  first_number via keys.Mask word x1 un says = absurd cc
  first_number via _ word x1 un says = number_is tech line (In home s [] via rows.ViaRect) forms.ViaRect _ word x1 says

  rect_back : (stage : Stage) (via : ViaDraft) (x1 y1 x2 y2 : ℤ) (words rest : List Lexeme)
      → Are (Word keys.Rect ∷ Coordinate s.units x1 ∷ Coordinate s.units y1 ∷ Coordinate s.units x2 ∷ Coordinate s.units y2 ∷ semicolon ∷ []) words → is_masked words ≡ false → is_some via.layer ≡ true
      → D (At home s (x1 ∷ y1 ∷ x2 ∷ y2 ∷ []) (with_body (rect_in_via via (x1 ∷ y1 ∷ x2 ∷ y2 ∷ [])))) rest → After (In home s numbers via (row_of stage)) (words ++ rest)
  rect_back stage via x1 y1 x2 y2 (r ∷ w ∷ words) rest are un placed d =
      rw (begun_by stage via r keys.Rect are.0 refl, rect_turn via (at_line line r) placed, turns, first_number via (key_of w) (at_line line w) x1 un are.1.0)
      ((corners via x1).back D C (y1, (x2, (y2, tt))) words rest are.1.1 d)
  rect_back stage via x1 y1 x2 y2 _ rest are un placed d = search

  mask_turns : (via : ViaDraft) (word : Lexeme) → Says Whole word → via_mask_row (In home s [] via rows.ViaMask) (key_of word) (at_line line word) ≡ More (In home s [] via (rows.Number forms.ViaRect))
  unfolding via_mask_row
  mask_turns via word says = rw says refl

  masked_back : (stage : Stage) (via : ViaDraft) (x1 y1 x2 y2 : ℤ) (words rest : List Lexeme)
      → Are (Word keys.Rect ∷ Word keys.Mask ∷ Whole ∷ Coordinate s.units x1 ∷ Coordinate s.units y1 ∷ Coordinate s.units x2 ∷ Coordinate s.units y2 ∷ semicolon ∷ []) words → is_some via.layer ≡ true
      → D (At home s (x1 ∷ y1 ∷ x2 ∷ y2 ∷ []) (with_body (rect_in_via via (x1 ∷ y1 ∷ x2 ∷ y2 ∷ [])))) rest → After (In home s numbers via (row_of stage)) (words ++ rest)
  unfolding via_rect_row
  masked_back stage via x1 y1 x2 y2 (r ∷ m ∷ n ∷ w ∷ words) rest are placed d =
      rw (begun_by stage via r keys.Rect are.0 refl, rect_turn via (at_line line r) placed, turns, are.1.0, turns, mask_turns via n are.1.1.0, turns, number_is tech line (In home s [] via (rows.Number forms.ViaRect)) forms.ViaRect (key_of w) (at_line line w) x1 are.1.1.1.0)
      ((corners via x1).back D C (y1, (x2, (y2, tt))) words rest are.1.1.1.1 d)
  masked_back stage via x1 y1 x2 y2 _ rest are placed d = search

  rule_back : (stage : Stage) (via : ViaDraft) (words rest : List Lexeme) → Are (Word keys.ViaRule ∷ AnyName ∷ semicolon ∷ []) words → D (At home s numbers (with_body (record via { has_rule = true }))) rest → After (In home s numbers via (row_of stage)) (words ++ rest)
  unfolding via_row via_rule_row Rattle.rc_lef.specs.Moves.due_row
  rule_back stage via (a ∷ b ∷ c ∷ []) rest are d = rw (begun_by stage via a keys.ViaRule are.0 refl, turns, are.1.0, turns, are.1.1.0) d
  rule_back stage via _ rest are d = search

  -- a statement of fixed form: its keyword, and what stands behind it
  module _ {V : Type 0} (parts : V → List Rattle.rc_lef.specs.Phrases.Part) (after : V → State) (key : Key) (own_ : begins_in_body key ≡ true) (row : State) where
    fixed_back : (stage : Stage) (via : ViaDraft) → Chain (lef_turn tech) line Says row V parts after → ((word : Lexeme) → via_row (In home s numbers via rows.Begin) key word ≡ More row) → (v : V) (words rest : List Lexeme) → Are (Word key ∷ parts v) words → D (after v) rest
        → After (In home s numbers via (row_of stage)) (words ++ rest)
    fixed_back stage via chain turn v [] rest are d = absurd are
    fixed_back stage via chain turn v (word ∷ words) rest are d = rw (begun_by stage via word key are.0 own_, turn (at_line line word)) (chain.back D C v words rest are.1 d)

  unusable_turn : (via : ViaDraft) (key : Key) (word : Lexeme) → makes_unusable key ≡ true → via_row (In home s numbers via rows.Begin) key word ≡ More (In home s numbers (record via { is_plain = false }) rows.Over)
  unfolding via_row
  unusable_turn via keys.Polygon word makes = refl
  unusable_turn via keys.Origin word makes = refl
  unusable_turn via keys.Offset word makes = refl
  unusable_turn via keys.Pattern word makes = refl
  unusable_turn via _ word makes = absurd cc

  makes_own : (key : Key) → makes_unusable key ≡ true → begins_in_body key ≡ true
  makes_own keys.Polygon makes = refl
  makes_own keys.Origin makes = refl
  makes_own keys.Offset makes = refl
  makes_own keys.Pattern makes = refl
  makes_own _ makes = absurd cc

  no_semicolon : (key : Key) → makes_unusable key ≡ true → is_semicolon key ≡ false
  no_semicolon keys.Semicolon makes = absurd cc
  no_semicolon _ makes = refl

  unusable_back : (stage : Stage) (via : ViaDraft) (words rest : List Lexeme) → begins_unusable words ≡ true → IsOver words → D (At home s numbers (with_body (record via { is_plain = false }))) rest → After (In home s numbers via (row_of stage)) (words ++ rest)
  unusable_back stage via [] rest makes over d = absurd cc
  unusable_back stage via (word ∷ words) rest makes over d =
      rw (begun_by stage via word (key_of word) refl (makes_own (key_of word) makes), unusable_turn via (key_of word) (at_line line word) makes)
      (over_back tech line D C (In home s numbers (record via { is_plain = false }) rows.Begin) words rest (Rattle.rc_keys.proofs.Phrasing.behind ends_statement word words false (no_semicolon (key_of word) makes) over) d)

  not_own : (via : ViaDraft) (key : Key) (word : Lexeme) → begins_in_body key ≡ false → via_row (In home s numbers via rows.Begin) key word ≡ other_statement (In home s numbers via rows.Begin) key word
  unfolding via_row
  not_own via keys.Layer word un = absurd cc
  not_own via keys.Rect word un = absurd cc
  not_own via keys.End word un = absurd cc
  not_own via keys.Polygon word un = absurd cc
  not_own via keys.Origin word un = absurd cc
  not_own via keys.Offset word un = absurd cc
  not_own via keys.Pattern word un = absurd cc
  not_own via keys.ViaRule word un = absurd cc
  not_own via keys.CutSize word un = absurd cc
  not_own via keys.Layers word un = absurd cc
  not_own via keys.CutSpacing word un = absurd cc
  not_own via keys.Enclosure word un = absurd cc
  not_own via keys.RowCol word un = absurd cc
  not_own via _ word un = refl

  same_over : (via : ViaDraft) (row : Row) (key : Key) (word : Lexeme) → other_statement (In home s numbers via rows.Begin) key word ≡ other_statement (In home s numbers via row) key word
  same_over via row keys.Semicolon word = refl
  same_over via row keys.Quoted word = refl
  same_over via row _ word = refl

  others_law : (stage : Stage) (via : ViaDraft) (word : Lexeme) → begins_in_via stage (key_of word) ≡ false → lef_turn tech (In home s numbers via (row_of stage)) (at_line line word) ≡ other_statement (In home s numbers via (row_of stage)) (key_of word) (at_line line word)
  others_law stage via word un =
      let e = neither (may_stand stage (key_of word)) (begins_in_body (key_of word)) un in
      begun stage via word e.0 ∙ not_own via (key_of word) (at_line line word) e.1 ∙ same_over via (row_of stage) (key_of word) (at_line line word)

  default_back : (stage : Stage) (via : ViaDraft) (words rest : List Lexeme) → Are (Word keys.Default ∷ []) words → may_stand stage keys.Default ≡ true → D (At home s numbers (record { stage = Stack; via = via })) rest → After (In home s numbers via (row_of stage)) (words ++ rest)
  unfolding via_head_row
  default_back Head via (word ∷ []) rest are may d = rw (turns, are.0) d
  default_back Head via _ rest are may d = search
  default_back Stack via words rest are may d = absurd cc
  default_back Body via words rest are may d = absurd cc

  stack_back : (stage : Stage) (via : ViaDraft) (words rest : List Lexeme) → Are (Word keys.TopOfStackOnly ∷ []) words → may_stand stage keys.TopOfStackOnly ≡ true → D (At home s numbers (with_body via)) rest → After (In home s numbers via (row_of stage)) (words ++ rest)
  unfolding via_head_row via_stack_row
  stack_back Head via (word ∷ []) rest are may d = rw (turns, are.0) d
  stack_back Head via _ rest are may d = search
  stack_back Stack via (word ∷ []) rest are may d = rw (turns, are.0) d
  stack_back Stack via _ rest are may d = search
  stack_back Body via words rest are may d = absurd cc

  pub statement_back : (parts after : ViaParts) (words rest : List Lexeme) → ViaStatement (tech_with tech s) parts words after → ((noted : List ℤ) → D (At home s noted after) rest) → After (At home s numbers parts) (words ++ rest)
  unfolding via_row
  statement_back parts after words rest (Default are may same) d = default_back parts.stage parts.via words rest are may (rw same at (d numbers))
  statement_back parts after words rest (TopOfStackOnly are may same) d = stack_back parts.stage parts.via words rest are may (rw same at (d numbers))
  statement_back parts after words rest (OnLayer kind are same) d = fixed_back _ _ keys.Layer refl _ parts.stage parts.via (layer_reads parts.via) (λ w. refl) (kind, tt) words rest are (rw same at (d numbers))
  statement_back parts after words rest (Rect x1 y1 x2 y2 are un placed same) d = rect_back parts.stage parts.via x1 y1 x2 y2 words rest are un placed (rw same at (d (x1 ∷ y1 ∷ x2 ∷ y2 ∷ [])))
  statement_back parts after words rest (MaskedRect x1 y1 x2 y2 are placed same) d = masked_back parts.stage parts.via x1 y1 x2 y2 words rest are placed (rw same at (d (x1 ∷ y1 ∷ x2 ∷ y2 ∷ [])))
  statement_back parts after words rest (Rule are same) d = rule_back parts.stage parts.via words rest are (rw same at (d numbers))
  statement_back parts after words rest (CutSize x y are same) d = fixed_back _ _ keys.CutSize refl _ parts.stage parts.via (cut_sizes parts.via) (λ w. refl) (x, (y, tt)) words rest are (rw same at (d (x ∷ y ∷ [])))
  statement_back parts after words rest (Layers a b c are same) d = fixed_back _ _ keys.Layers refl _ parts.stage parts.via (layers_read parts.via) (λ w. refl) (a, (b, (c, tt))) words rest are (rw same at (d numbers))
  statement_back parts after words rest (CutSpacing x y are same) d = fixed_back _ _ keys.CutSpacing refl _ parts.stage parts.via (spacings parts.via) (λ w. refl) (x, (y, tt)) words rest are (rw same at (d (x ∷ y ∷ [])))
  statement_back parts after words rest (Enclosure a b x y are same) d = fixed_back _ _ keys.Enclosure refl _ parts.stage parts.via (enclosures parts.via) (λ w. refl) (a, (b, (x, (y, tt)))) words rest are (rw same at (d (a ∷ b ∷ x ∷ y ∷ [])))
  statement_back parts after words rest (RowCol n m are same) d = fixed_back _ _ keys.RowCol refl _ parts.stage parts.via (counts_read parts.via) (λ w. refl) (n, (m, tt)) words rest are (rw same at (d numbers))
  statement_back parts after words rest (Unusable makes over same) d = unusable_back parts.stage parts.via words rest makes over (rw same at (d numbers))
  statement_back parts after words rest (Other is same) d =
      other_back tech line D C (begins_in_via parts.stage) (At home s numbers parts) (λ word un. others_law parts.stage parts.via word un) words rest is (rw same at (d numbers))

  pub end_back : (parts : ViaParts) (words rest : List Lexeme) → Are (Word keys.End ∷ Name s.name ∷ []) words → D (Closed tech home s numbers parts) rest → After (At home s numbers parts) (words ++ rest)
  unfolding via_row end_of_via
  end_back parts (a ∷ b ∷ []) rest are d =
      let e : bytes_eq b.bytes s.name ≡ true = (bytes_eq-Decides b.bytes s.name).1 are.1.0.1 in
      rw (begun_by parts.stage parts.via a keys.End are.0 refl, turns, are.1.0.0, e) d
  end_back parts _ rest are d = search

-- ---- the technology after a VIA

pub closed_tech : (tech : Technology) (home : Home) (s : State) (numbers : List ℤ) (parts : ViaParts) → tech_with tech (Closed tech home s numbers parts) ≡ with_new_via (tech_with tech s) s.name parts.via
unfolding knows_via
closed_tech tech home s numbers parts =
    ap (λ vs. record (tech_with tech s) { vias = vs })
    (joins (knows_via tech (In home s numbers parts.via rows.End)) tech.vias s.vias (via_of s.name parts.via) (via_of s.name parts.via) (λ un. refl) ∙ rw (list_any-append (is_via s.name) tech.vias s.vias) refl)
