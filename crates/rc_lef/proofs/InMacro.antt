-- MACRO c .. END c with its pins: the rows against its statements, both ways.
use Rattle.std.proofs.Common.{◌≡◌, ◌∙◌, ℕ, true, false, List, [], ◌∷◌, ◌++◌, refl, ap}
use Rattle.std.proofs.lemmas.Slice.Eq.{bytes_eq-Decides}
use Rattle.std.proofs.lemmas.List.Folds.{list_any-append}
use Rattle.std.specs.Prelude.{Option, Some, None, ◌&&◌, is_some, is_none, Ok, ℤ}
use Rattle.std.specs.Str.{bytes_eq}
use Rattle.rc_geom.specs.declared.rect.Pt.{Pt}
use Rattle.rc_keys.specs.Lexemes.{Lexeme}
use Rattle.rc_keys.specs.Course.{Turn, More, Done}
use Rattle.rc_keys.specs.Statements.{at_line}
use Rattle.rc_keys.proofs.Phrasing.{On, unless, only, Takes}
use Rattle.rc_keys.proofs.Ways as ways
use Rattle.rc_keys.proofs.Ways.{Reads as Chain, Goes}
use Rattle.rc_lef.specs.declared.cell.Dir.{Dir}
use Rattle.rc_lef.specs.declared.cell.Dir.TheVariants as dirs
use Rattle.rc_lef.specs.declared.key.Key.{Key}
use Rattle.rc_lef.specs.declared.key.Key.TheVariants as keys
use Rattle.rc_lef.specs.declared.length.Range.TheVariants as ranges
use Rattle.rc_lef.specs.declared.state.State.{State}
use Rattle.rc_lef.specs.declared.state.Block.{Block}
use Rattle.rc_lef.specs.declared.state.Block.TheVariants as blocks
use Rattle.rc_lef.specs.declared.state.CellDraft.{CellDraft}
use Rattle.rc_lef.specs.declared.state.Form.TheVariants as forms
use Rattle.rc_lef.specs.declared.state.PinDraft.{PinDraft}
use Rattle.rc_lef.specs.declared.state.Row.{Row}
use Rattle.rc_lef.specs.declared.state.Row.TheVariants as rows
use Rattle.rc_lef.specs.declared.tech.LayerKind.{LayerKind}
use Rattle.rc_lef.specs.Keys.{key_of, is_name}
use Rattle.rc_lef.specs.Technology.{Technology}
use Rattle.rc_lef.specs.Moves.{other_statement, first, layer_of, layer_kind}
use Rattle.rc_lef.specs.Numbers.{rect_in_pin, origin_in, size_in, noted, number_row, size_by_row}
use Rattle.rc_lef.specs.Operands.{length_at, whole_at}
use Rattle.rc_lef.specs.Cells.{no_pin, macro_row, pin_name_row, pin_row, direction_row, tri_state_row, port_row, port_layer_row, port_rect_row, port_mask_row, pin_joins, end_of_pin, is_macro, knows_macro, macro_of, with_macro, with_size_of, end_of_macro}
use Rattle.rc_lef.specs.Rows.{lef_turn, tech_with}
use Rattle.rc_lef.specs.Phrases.{Part, Word, semicolon, Name, LayerOf, Coordinate, Size, Whole, Says, Are, IsOver}
use Rattle.rc_lef.specs.MacroBlock.{begins_in_macro, is_timing, is_obstruction, CellStatement, Origin, SizeBy, Obstruction, Timing, Other as OtherInCell, begins_in_pin, direction_of, with_dir, PinStatement, Direction, Output, TriState, Other as OtherInPin, begins_in_port, is_plain, second_is, PortStatement, OnLayer, Rect, MaskedRect, Iterated, Other as OtherInPort, Place, Between, InPin, InPort, MacroParts, MacroStatement, InCell, PinHead, PinPart, PortHead, PortPart, PortEnd, PinEnd, with_new_macro}
use Rattle.rc_lef.proofs.SmallTests.{both, some_is, none_is, joins}
use Rattle.rc_lef.proofs.Turns.{turns, due, due_ends, reads_over, over_back, other, other_back}
use Rattle.rc_lef.proofs.Chains.{read_is, kind_is, number_is, number_goes, two_read, three_read, Two, Three}
use Rattle.rc_lef.proofs.Skips.{Skipping, skipped, skip_back, Passing, passed, pass_back}

-- ---- the states of an open macro

abbrev block_of : Place → Block
block_of Between = blocks.Macro
block_of InPin = blocks.Pin
block_of InPort = blocks.Port

abbrev pub At : State → List ℤ → MacroParts → State
At s numbers v = record s { block = block_of v.place; row = rows.Begin; cell = v.cell; pin = v.pin; numbers = numbers }

-- the state at a row
abbrev In : State → List ℤ → Block → Row → CellDraft → PinDraft → State
In s numbers block row cell pin = record s { block = block; row = row; cell = cell; pin = pin; numbers = numbers }

abbrev pub Closed : Technology → State → List ℤ → MacroParts → Pt → State
Closed tech s numbers v size = record (with_macro tech size (In s numbers blocks.Macro rows.End v.cell v.pin)) { row = rows.Begin }

-- a front of the tokens is a statement of the macro, or its end, and `D` holds behind it. `name` is free: what is skipped takes it
pub data Reads (tech : Technology) (D : State → List Lexeme → Type 0) (s : State) (v : MacroParts) (numbers : List ℤ) (words : List Lexeme) : Type 0 where
  Statement : (after : MacroParts) (noted : List ℤ) (name : List ℕ) (front rest : List Lexeme) → words ≡ front ++ rest → MacroStatement (tech_with tech s) v front after → D (At (record s { name = name }) noted after) rest → Reads tech D s v numbers words
  End : (size : Pt) (front rest : List Lexeme) → words ≡ front ++ rest → Are (Word keys.End ∷ Name s.outer ∷ []) front → v.place ≡ Between → v.cell.size ≡ Some size → D (Closed tech s numbers v size) rest → Reads tech D s v numbers words

module _ (tech : Technology) (line : ℕ) (D C : State → List Lexeme → Type 0) (s : State) where
  abbrev After : State → List Lexeme → Type 0
  After s words = Takes (lef_turn tech) line D C s words

  abbrev Then : List Lexeme → Turn State → Type 0
  Then words turn = On (λ s. After s words) (λ s. D s words) (λ s. C s words) turn

  abbrev Reading : State → (V : Type 0) → (V → List Part) → (V → State) → Type 1
  Reading s V parts after = Chain (lef_turn tech) line Says s V parts after

  -- ---- statements of fixed form, from the token behind their keyword on

  origins : (cell : CellDraft) (pin : PinDraft) → Reading (In s [] blocks.Macro (rows.Number forms.Origin) cell pin) Two (λ v. Coordinate s.units v.0 ∷ Coordinate s.units v.1.0 ∷ semicolon ∷ []) (λ v. In s (v.0 ∷ v.1.0 ∷ []) blocks.Macro rows.Begin (origin_in cell (v.0 ∷ v.1.0 ∷ [])) pin)
  origins cell pin = two_read tech line (In s [] blocks.Macro rows.Begin cell pin) forms.Origin (λ x y. In s (x ∷ y ∷ []) blocks.Macro rows.Due (origin_in cell (x ∷ y ∷ [])) pin) (λ x. refl) (λ x y. refl)

  by_goes : (cell : CellDraft) (pin : PinDraft) (w : ℤ) → Goes (lef_turn tech) line Says (In s (w ∷ []) blocks.Macro rows.SizeBy cell pin) (Unit {0}) (λ _. Word keys.By) (λ _. In s (w ∷ []) blocks.Macro (rows.Number forms.Size) cell pin)
  unfolding size_by_row
  by_goes cell pin w = record {
    sound = λ M N O word h. by_key M N O word (key_of word) refl (rw turns at h);
    back = λ v word is. rw (turns, is) refl;
  }
    where
      by_key : (M N O : State → Type 0) (word : Lexeme) (key : Key) → key_of word ≡ key → On M N O (size_by_row (In s (w ∷ []) blocks.Macro rows.SizeBy cell pin) key (at_line line word)) → (v : Unit {0}) × Says (Word keys.By) word × M (In s (w ∷ []) blocks.Macro (rows.Number forms.Size) cell pin)
      by_key M N O word keys.By is h = (tt, is, h)
      by_key M N O word _ is h = absurd h

  abbrev SizeValues : Type 0
  SizeValues = ℤ × (Unit {0} × (ℤ × Unit {0}))

  sizes : (cell : CellDraft) (pin : PinDraft) → Reading (In s [] blocks.Macro (rows.Number forms.Size) cell pin) SizeValues (λ v. Size s.units v.0 ∷ Word keys.By ∷ Size s.units v.1.1.0 ∷ semicolon ∷ [])
      (λ v. In s (v.0 ∷ v.1.1.0 ∷ []) blocks.Macro rows.Begin (size_in cell (v.0 ∷ v.1.1.0 ∷ [])) pin)
  sizes cell pin =
      ways.goes _ _ _ _ _ _ _ _ (number_goes tech line (In s [] blocks.Macro rows.Begin cell pin) forms.Size [] (λ w. In s (w ∷ []) blocks.Macro rows.SizeBy cell pin) (λ w. refl)) (λ w.
      ways.goes _ _ _ _ _ _ _ _ (by_goes cell pin w) (λ b.
      ways.goes _ _ _ _ _ _ _ _ (number_goes tech line (In s [] blocks.Macro rows.Begin cell pin) forms.Size (w ∷ []) (λ h. In s (w ∷ h ∷ []) blocks.Macro rows.Due (size_in cell (w ∷ h ∷ [])) pin) (λ h. refl)) (λ h.
      ways.ends _ _ _ _ _ _ (due_ends tech line (In s (w ∷ h ∷ []) blocks.Macro rows.Due (size_in cell (w ∷ h ∷ [])) pin)))))

  corners : (cell : CellDraft) (pin : PinDraft) (x1 : ℤ) → Reading (In s (x1 ∷ []) blocks.Port (rows.Number forms.PinRect) cell pin) Three (λ v. Coordinate s.units v.0 ∷ Coordinate s.units v.1.0 ∷ Coordinate s.units v.1.1.0 ∷ semicolon ∷ [])
      (λ v. In s (x1 ∷ v.0 ∷ v.1.0 ∷ v.1.1.0 ∷ []) blocks.Port rows.Begin cell (rect_in_pin pin (x1 ∷ v.0 ∷ v.1.0 ∷ v.1.1.0 ∷ [])))
  corners cell pin x1 =
      three_read tech line (In s [] blocks.Port rows.Begin cell pin) forms.PinRect x1 (λ y1 x2 y2. In s (x1 ∷ y1 ∷ x2 ∷ y2 ∷ []) blocks.Port rows.Due cell (rect_in_pin pin (x1 ∷ y1 ∷ x2 ∷ y2 ∷ []))) (λ x y. refl) (λ x y z. refl) (λ y1 x2 y2. refl)

  -- ---- between the pins

  module _ (cell : CellDraft) (pin : PinDraft) (numbers : List ℤ) where
    abbrev Here : MacroParts
    Here = record { cell = cell; place = Between; pin = pin }

    abbrev Answer : List Lexeme → Type 0
    Answer words = Reads tech D s Here numbers words

    pin_name : (front a : Lexeme) (words : List Lexeme) → key_of front ≡ keys.Pin → Then words (pin_name_row (In s numbers blocks.Macro rows.PinName cell pin) (key_of a) (at_line line a)) → Answer (front ∷ a ∷ words)
    unfolding pin_name_row
    pin_name front a words is h =
        let e = only (λ t. After t words) (λ t. D t words) (λ t. C t words) _ _ (is_name (key_of a)) h in
        Statement (record { cell = cell; place = InPin; pin = no_pin a.bytes }) numbers s.name (front ∷ a ∷ []) words refl (PinHead a.bytes refl (is, ((e.0, refl), tt)) refl) e.1

    pins : (front : Lexeme) (words : List Lexeme) → key_of front ≡ keys.Pin → After (In s numbers blocks.Macro rows.PinName cell pin) words → Answer (front ∷ words)
    pins front [] is h = absurd h
    pins front (a ∷ words) is h = pin_name front a words is (rw turns at h)

    sized : (front a : Lexeme) (words : List Lexeme) (size : Option Pt) → cell.size ≡ size → Are (Word keys.End ∷ Name s.outer ∷ []) (front ∷ a ∷ []) → Then words (with_size_of tech (In s numbers blocks.Macro rows.End cell pin) size) → Answer (front ∷ a ∷ words)
    sized front a words None has are h = absurd h
    sized front a words (Some size) has are h = End size (front ∷ a ∷ []) words refl are refl has h

    end_key : (front a : Lexeme) (words : List Lexeme) → key_of front ≡ keys.End → Then words (end_of_macro tech (In s numbers blocks.Macro rows.End cell pin) (key_of a) (at_line line a)) → Answer (front ∷ a ∷ words)
    unfolding end_of_macro
    end_key front a words is h =
        let e = only (λ t. After t words) (λ t. D t words) (λ t. C t words) _ _ (is_name (key_of a) && bytes_eq a.bytes s.outer) h in
        let b = both (is_name (key_of a)) (bytes_eq a.bytes s.outer) e.0 in
        sized front a words cell.size refl (is, ((b.0, (bytes_eq-Decides a.bytes s.outer).0 b.1), tt)) e.1

    ends : (front : Lexeme) (words : List Lexeme) → key_of front ≡ keys.End → After (In s numbers blocks.Macro rows.End cell pin) words → Answer (front ∷ words)
    ends front [] is h = absurd h
    ends front (a ∷ words) is h = end_key front a words is (rw turns at h)

    obstructed : (front : Lexeme) (words : List Lexeme) → is_obstruction (key_of front) ≡ true → After (In s numbers blocks.Macro rows.SkipStatements cell pin) words → Answer (front ∷ words)
    obstructed front words is h =
        let f = passed tech line D C (In s numbers blocks.Macro rows.Begin cell pin) words h in
        Statement Here numbers s.name (front ∷ f.0) f.1 (ap (λ ws. front ∷ ws) f.2)
        (InCell cell refl (Obstruction (record { word = front; statements = f.3.statements; end = f.3.end; parts = ap (λ ws. front ∷ ws) f.3.parts; key = is; each = f.3.each; ends = f.3.ends }) refl) refl) f.4

    cell_key : (front : Lexeme) (words : List Lexeme) (key : Key) → key_of front ≡ key → Then words (macro_row (In s numbers blocks.Macro rows.Begin cell pin) key (at_line line front)) → Answer (front ∷ words)
    unfolding macro_row
    cell_key front words keys.Origin is h =
        let e = (origins cell pin).sound D C words h in
        Statement (record Here { cell = origin_in cell (e.0.0 ∷ e.0.1.0 ∷ []) }) _ s.name (front ∷ e.1) e.2 (ap (λ ws. front ∷ ws) e.3) (InCell _ refl (Origin e.0.0 e.0.1.0 (is, e.4) refl) refl) e.5
    cell_key front words keys.Size is h =
        let e = (sizes cell pin).sound D C words h in
        Statement (record Here { cell = size_in cell (e.0.0 ∷ e.0.1.1.0 ∷ []) }) _ s.name (front ∷ e.1) e.2 (ap (λ ws. front ∷ ws) e.3) (InCell _ refl (SizeBy e.0.0 e.0.1.1.0 (is, e.4) refl) refl) e.5
    cell_key front words keys.Pin is h = pins front words is h
    cell_key front words keys.Obs is h = obstructed front words (rw is refl) h
    cell_key front words keys.Density is h = obstructed front words (rw is refl) h
    cell_key front words keys.Timing is h =
        let f = skipped tech line D C (record (In s numbers blocks.Macro rows.Begin cell pin) { name = front.bytes }) words h in
        Statement Here numbers front.bytes (front ∷ f.0) f.1 (ap (λ ws. front ∷ ws) f.2) (InCell cell refl (Timing (record { word = front; body = f.0; parts = refl; key = rw is refl; ends = f.3 }) refl) refl) f.4
    cell_key front words keys.End is h = ends front words is h
    cell_key front words _ is h =
        let f = other tech line D C begins_in_macro (In s numbers blocks.Macro rows.Begin cell pin) front words _ is refl h in
        Statement Here numbers s.name f.0 f.1 f.2 (InCell cell refl (OtherInCell f.3 refl) refl) f.4

    -- ---- in a PIN

    abbrev Pinned : MacroParts
    Pinned = record { cell = cell; place = InPin; pin = pin }

    abbrev PinAnswer : List Lexeme → Type 0
    PinAnswer words = Reads tech D s Pinned numbers words

    directed : (front a : Lexeme) (words : List Lexeme) (key : Key) (dir : Dir) → key_of front ≡ keys.Direction → key_of a ≡ key → direction_of key ≡ Some dir → After (In s numbers blocks.Pin rows.Due cell (with_dir dir pin)) words → PinAnswer (front ∷ a ∷ words)
    directed front a words key dir is at gives h =
        let g = due tech line D C (In s numbers blocks.Pin rows.Due cell (with_dir dir pin)) words h in
        Statement (record Pinned { pin = with_dir dir pin }) numbers s.name (front ∷ a ∷ g.0 ∷ []) g.1 (ap (λ ws. front ∷ a ∷ ws) g.2) (PinPart _ refl (Direction key dir (is, (at, (g.3, tt))) gives refl) refl) g.4

    tri_key : (front a b : Lexeme) (words : List Lexeme) (key : Key) → key_of front ≡ keys.Direction → key_of a ≡ keys.Output → key_of b ≡ key → Then words (tri_state_row (In s numbers blocks.Pin rows.TriState cell (with_dir dirs.O pin)) key (at_line line b)) → PinAnswer (front ∷ a ∷ b ∷ words)
    unfolding tri_state_row
    tri_key front a b words keys.TriState is at at' h =
        let g = due tech line D C (In s numbers blocks.Pin rows.Due cell (with_dir dirs.O pin)) words h in
        Statement (record Pinned { pin = with_dir dirs.O pin }) numbers s.name (front ∷ a ∷ b ∷ g.0 ∷ []) g.1 (ap (λ ws. front ∷ a ∷ b ∷ ws) g.2) (PinPart _ refl (TriState (is, (at, (at', (g.3, tt)))) refl) refl) g.4
    tri_key front a b words keys.Semicolon is at at' h = Statement (record Pinned { pin = with_dir dirs.O pin }) numbers s.name (front ∷ a ∷ b ∷ []) words refl (PinPart _ refl (Output (is, (at, (at', tt))) refl) refl) h
    tri_key front a b words _ is at at' h = absurd h

    tri_states : (front a : Lexeme) (words : List Lexeme) → key_of front ≡ keys.Direction → key_of a ≡ keys.Output → After (In s numbers blocks.Pin rows.TriState cell (with_dir dirs.O pin)) words → PinAnswer (front ∷ a ∷ words)
    tri_states front a [] is at h = absurd h
    tri_states front a (b ∷ words) is at h = tri_key front a b words (key_of b) is at refl (rw turns at h)

    direction_key : (front a : Lexeme) (words : List Lexeme) (key : Key) → key_of front ≡ keys.Direction → key_of a ≡ key → Then words (direction_row (In s numbers blocks.Pin rows.Direction cell pin) key (at_line line a)) → PinAnswer (front ∷ a ∷ words)
    unfolding direction_row
    direction_key front a words keys.Input is at h = directed front a words keys.Input dirs.I is at refl h
    direction_key front a words keys.Output is at h = tri_states front a words is at h
    direction_key front a words keys.InOut is at h = directed front a words keys.InOut dirs.B is at refl h
    direction_key front a words keys.FeedThru is at h = directed front a words keys.FeedThru dirs.B is at refl h
    direction_key front a words _ is at h = absurd h

    directions : (front : Lexeme) (words : List Lexeme) → key_of front ≡ keys.Direction → After (In s numbers blocks.Pin rows.Direction cell pin) words → PinAnswer (front ∷ words)
    directions front [] is h = absurd h
    directions front (a ∷ words) is h = direction_key front a words (key_of a) is refl (rw turns at h)

    pin_end_key : (front a : Lexeme) (words : List Lexeme) → key_of front ≡ keys.End → Then words (end_of_pin (In s numbers blocks.Pin rows.End cell pin) (key_of a) (at_line line a)) → PinAnswer (front ∷ a ∷ words)
    unfolding end_of_pin
    pin_end_key front a words is h =
        let e = only (λ t. After t words) (λ t. D t words) (λ t. C t words) _ _ (is_name (key_of a) && bytes_eq a.bytes pin.name) h in
        let b = both (is_name (key_of a)) (bytes_eq a.bytes pin.name) e.0 in
        Statement (record { cell = pin_joins cell pin; place = Between; pin = no_pin [] }) numbers s.name (front ∷ a ∷ []) words refl (PinEnd refl (is, ((b.0, (bytes_eq-Decides a.bytes pin.name).0 b.1), tt)) refl) e.1

    pin_ends : (front : Lexeme) (words : List Lexeme) → key_of front ≡ keys.End → After (In s numbers blocks.Pin rows.End cell pin) words → PinAnswer (front ∷ words)
    pin_ends front [] is h = absurd h
    pin_ends front (a ∷ words) is h = pin_end_key front a words is (rw turns at h)

    pin_key : (front : Lexeme) (words : List Lexeme) (key : Key) → key_of front ≡ key → Then words (pin_row (In s numbers blocks.Pin rows.Begin cell pin) key (at_line line front)) → PinAnswer (front ∷ words)
    unfolding pin_row
    pin_key front words keys.Direction is h = directions front words is h
    pin_key front words keys.Port is h = Statement (record { cell = cell; place = InPort; pin = record pin { layer = None } }) numbers s.name (front ∷ []) words refl (PortHead refl (is, tt) refl) h
    pin_key front words keys.End is h = pin_ends front words is h
    pin_key front words _ is h =
        let f = other tech line D C begins_in_pin (In s numbers blocks.Pin rows.Begin cell pin) front words _ is refl h in
        Statement Pinned numbers s.name f.0 f.1 f.2 (PinPart pin refl (OtherInPin f.3 refl) refl) f.4

    -- ---- in a PORT

    abbrev Ported : MacroParts
    Ported = record { cell = cell; place = InPort; pin = pin }

    abbrev PortAnswer : List Lexeme → Type 0
    PortAnswer words = Reads tech D s Ported numbers words

    port_layer : (front a : Lexeme) (words : List Lexeme) → key_of front ≡ keys.Layer → Then words (port_layer_row tech (In s numbers blocks.Port rows.PortLayer cell pin) (key_of a) (at_line line a)) → PortAnswer (front ∷ a ∷ words)
    unfolding port_layer_row layer_kind
    port_layer front a words is h =
        let e = read_is (λ t. After t words) (λ t. D t words) (λ t. C t words) (layer_of tech s (key_of a) a) (at_line line a) (λ kind. More (In s numbers blocks.Port rows.Over cell (record pin { layer = Some kind }))) h in
        let f = reads_over tech line D C (In s numbers blocks.Port rows.Begin cell (record pin { layer = Some e.0 })) words e.2 in
        let k : Says (LayerOf (tech_with tech s).layers e.0) a = rw (← (kind_is tech s a.bytes)) e.1 in
        Statement (record Ported { pin = record pin { layer = Some e.0 } }) numbers s.name (front ∷ a ∷ f.0) f.1 (ap (λ ws. front ∷ a ∷ ws) f.2) (PortPart _ refl (OnLayer e.0 front a f.0 refl (is, (k, tt)) f.3 refl) refl) f.4

    port_layers : (front : Lexeme) (words : List Lexeme) → key_of front ≡ keys.Layer → After (In s numbers blocks.Port rows.PortLayer cell pin) words → PortAnswer (front ∷ words)
    port_layers front [] is h = absurd h
    port_layers front (a ∷ words) is h = port_layer front a words is (rw turns at h)

    plain_rect : (front a : Lexeme) (words : List Lexeme) (key : Key) → key_of front ≡ keys.Rect → key_of a ≡ key → is_plain key ≡ true → is_some pin.layer ≡ true → Then words (number_row (In s [] blocks.Port rows.PortRect cell pin) forms.PinRect key (at_line line a)) → PortAnswer (front ∷ a ∷ words)
    unfolding number_row
    plain_rect front a words key is at plain placed h =
        let e = read_is (λ t. After t words) (λ t. D t words) (λ t. C t words) (length_at ranges.Any s.units key a.bytes) (at_line line a) (λ z. noted forms.PinRect (In s (z ∷ []) blocks.Port rows.PortRect cell pin)) h in
        let f = (corners cell pin e.0).sound D C words e.2 in
        Statement (record Ported { pin = rect_in_pin pin (e.0 ∷ f.0.0 ∷ f.0.1.0 ∷ f.0.1.1.0 ∷ []) }) _ s.name (front ∷ a ∷ f.1) f.2 (ap (λ ws. front ∷ a ∷ ws) f.3) (PortPart _ refl (Rect e.0 f.0.0 f.0.1.0 f.0.1.1.0 (is, (rw at e.1, f.4)) (rw at plain) placed refl) refl) f.5

    first_masked : (front a b c : Lexeme) (words : List Lexeme) → key_of front ≡ keys.Rect → key_of a ≡ keys.Mask → Says Whole b → is_some pin.layer ≡ true → Then words (number_row (In s [] blocks.Port (rows.Number forms.PinRect) cell pin) forms.PinRect (key_of c) (at_line line c)) → PortAnswer (front ∷ a ∷ b ∷ c ∷ words)
    unfolding number_row
    first_masked front a b c words is at n placed h =
        let e = read_is (λ t. After t words) (λ t. D t words) (λ t. C t words) (length_at ranges.Any s.units (key_of c) c.bytes) (at_line line c) (λ z. noted forms.PinRect (In s (z ∷ []) blocks.Port (rows.Number forms.PinRect) cell pin)) h in
        let f = (corners cell pin e.0).sound D C words e.2 in
        Statement (record Ported { pin = rect_in_pin pin (e.0 ∷ f.0.0 ∷ f.0.1.0 ∷ f.0.1.1.0 ∷ []) }) _ s.name (front ∷ a ∷ b ∷ c ∷ f.1) f.2 (ap (λ ws. front ∷ a ∷ b ∷ c ∷ ws) f.3) (PortPart _ refl (MaskedRect e.0 f.0.0 f.0.1.0 f.0.1.1.0 (is, (at, (n, (e.1, f.4)))) placed refl) refl) f.5

    masked_rect : (front a b : Lexeme) (words : List Lexeme) → key_of front ≡ keys.Rect → key_of a ≡ keys.Mask → is_some pin.layer ≡ true → Then words (port_mask_row (In s [] blocks.Port rows.PortMask cell pin) (key_of b) (at_line line b)) → PortAnswer (front ∷ a ∷ b ∷ words)
    unfolding port_mask_row
    masked_rect front a b [] is at placed h = absurd (read_is (λ t. After t []) (λ t. D t []) (λ t. C t []) (whole_at (key_of b) b.bytes) (at_line line b) (λ _. More (In s [] blocks.Port (rows.Number forms.PinRect) cell pin)) h).2
    masked_rect front a b (c ∷ words) is at placed h =
        let m = read_is (λ t. After t (c ∷ words)) (λ t. D t (c ∷ words)) (λ t. C t (c ∷ words)) (whole_at (key_of b) b.bytes) (at_line line b) (λ _. More (In s [] blocks.Port (rows.Number forms.PinRect) cell pin)) h in
        first_masked front a b c words is at m.1 placed (rw turns at m.2)

    mask : (front a : Lexeme) (words : List Lexeme) → key_of front ≡ keys.Rect → key_of a ≡ keys.Mask → is_some pin.layer ≡ true → After (In s [] blocks.Port rows.PortMask cell pin) words → PortAnswer (front ∷ a ∷ words)
    mask front a [] is at placed h = absurd h
    mask front a (b ∷ words) is at placed h = masked_rect front a b words is at placed (rw turns at h)

    rect_key : (front a : Lexeme) (words : List Lexeme) (key : Key) → key_of front ≡ keys.Rect → key_of a ≡ key → Then words (port_rect_row (In s [] blocks.Port rows.PortRect cell pin) key (at_line line a)) → PortAnswer (front ∷ a ∷ words)
    unfolding port_rect_row
    rect_key front a words keys.Iterate is at h =
        let f = reads_over tech line D C (In s [] blocks.Port rows.Begin cell pin) words h in
        Statement Ported [] s.name (front ∷ a ∷ f.0) f.1 (ap (λ ws. front ∷ a ∷ ws) f.2) (PortPart pin refl (Iterated front a f.0 refl (is, (at, tt)) f.3 refl) refl) f.4
    rect_key front a words keys.Mask is at h =
        let e = unless (λ t. After t words) (λ t. D t words) (λ t. C t words) _ _ (is_none pin.layer) h in
        mask front a words is at (some_is pin.layer e.0) e.1
    rect_key front a words _ is at h =
        let e = unless (λ t. After t words) (λ t. D t words) (λ t. C t words) _ _ (is_none pin.layer) h in
        plain_rect front a words _ is at refl (some_is pin.layer e.0) e.1

    rects : (front : Lexeme) (words : List Lexeme) → key_of front ≡ keys.Rect → After (In s [] blocks.Port rows.PortRect cell pin) words → PortAnswer (front ∷ words)
    rects front [] is h = absurd h
    rects front (a ∷ words) is h = rect_key front a words (key_of a) is refl (rw turns at h)

    port_key : (front : Lexeme) (words : List Lexeme) (key : Key) → key_of front ≡ key → Then words (port_row (In s numbers blocks.Port rows.Begin cell pin) key (at_line line front)) → PortAnswer (front ∷ words)
    unfolding port_row
    port_key front words keys.Layer is h = port_layers front words is h
    port_key front words keys.Rect is h = rects front words is h
    port_key front words keys.End is h = Statement (record Ported { place = InPin }) numbers s.name (front ∷ []) words refl (PortEnd refl (is, tt) refl) h
    port_key front words _ is h =
        let f = other tech line D C begins_in_port (In s numbers blocks.Port rows.Begin cell pin) front words _ is refl h in
        Statement Ported numbers s.name f.0 f.1 f.2 (PortPart pin refl (OtherInPort f.3 refl) refl) f.4

    by_place : (place : Place) (words : List Lexeme) → After (At s numbers (record { cell = cell; place = place; pin = pin })) words → Reads tech D s (record { cell = cell; place = place; pin = pin }) numbers words
    by_place place [] h = absurd h
    by_place Between (word ∷ words) h = cell_key word words (key_of word) refl (rw turns at h)
    by_place InPin (word ∷ words) h = pin_key word words (key_of word) refl (rw turns at h)
    by_place InPort (word ∷ words) h = port_key word words (key_of word) refl (rw turns at h)

  pub reads : (v : MacroParts) (numbers : List ℤ) (words : List Lexeme) → After (At s numbers v) words → Reads tech D s v numbers words
  reads v numbers words h = by_place v.cell v.pin numbers v.place words h

  -- ---- statements to rows

  -- a statement of fixed form: its keyword, and what stands behind it
  module _ {V : Type 0} (parts : V → List Part) (after : V → State) (key : Key) (here row : State) where
    fixed_back : Chain (lef_turn tech) line Says row V parts after → ((word : Lexeme) → key_of word ≡ key → lef_turn tech here (at_line line word) ≡ More row) → (v : V) (words rest : List Lexeme) → Are (Word key ∷ parts v) words → D (after v) rest → After here (words ++ rest)
    fixed_back chain turn v [] rest are d = absurd are
    fixed_back chain turn v (word ∷ words) rest are d = rw (turn word are.0) (chain.back D C v words rest are.1 d)

  module _ (cell : CellDraft) (pin : PinDraft) (numbers : List ℤ) where
    abbrev InMacroAt : State
    InMacroAt = In s numbers blocks.Macro rows.Begin cell pin

    abbrev InPinAt : State
    InPinAt = In s numbers blocks.Pin rows.Begin cell pin

    abbrev InPortAt : State
    InPortAt = In s numbers blocks.Port rows.Begin cell pin

    not_own : (key : Key) (word : Lexeme) → begins_in_macro key ≡ false → macro_row InMacroAt key word ≡ other_statement InMacroAt key word
    unfolding macro_row
    not_own keys.Origin word un = absurd cc
    not_own keys.Size word un = absurd cc
    not_own keys.Pin word un = absurd cc
    not_own keys.Obs word un = absurd cc
    not_own keys.Density word un = absurd cc
    not_own keys.Timing word un = absurd cc
    not_own keys.End word un = absurd cc
    not_own _ word un = refl

    not_own_pin : (key : Key) (word : Lexeme) → begins_in_pin key ≡ false → pin_row InPinAt key word ≡ other_statement InPinAt key word
    unfolding pin_row
    not_own_pin keys.Direction word un = absurd cc
    not_own_pin keys.Port word un = absurd cc
    not_own_pin keys.End word un = absurd cc
    not_own_pin _ word un = refl

    not_own_port : (key : Key) (word : Lexeme) → begins_in_port key ≡ false → port_row InPortAt key word ≡ other_statement InPortAt key word
    unfolding port_row
    not_own_port keys.Layer word un = absurd cc
    not_own_port keys.Rect word un = absurd cc
    not_own_port keys.End word un = absurd cc
    not_own_port _ word un = refl

    obstruction_turn : (key : Key) (word : Lexeme) → is_obstruction key ≡ true → macro_row InMacroAt key word ≡ More (Passing InMacroAt false)
    unfolding macro_row
    obstruction_turn keys.Obs word is = refl
    obstruction_turn keys.Density word is = refl
    obstruction_turn _ word is = absurd cc

    timing_turn : (key : Key) (word : Lexeme) → is_timing key ≡ true → macro_row InMacroAt key word ≡ More (Skipping (record InMacroAt { name = word.bytes }) false)
    unfolding macro_row
    timing_turn keys.Timing word is = refl
    timing_turn _ word is = absurd cc

    cell_back : (after : CellDraft) (words rest : List Lexeme) → CellStatement (tech_with tech s) cell words after → ((noted_ : List ℤ) (name : List ℕ) → D (In (record s { name = name }) noted_ blocks.Macro rows.Begin after pin) rest) → After InMacroAt (words ++ rest)
    unfolding macro_row
    cell_back after words rest (Origin x y are is) d = fixed_back _ _ keys.Origin InMacroAt _ (origins cell pin) (λ w at. turns tech line InMacroAt w ∙ rw at refl) (x, (y, tt)) words rest are (rw is at (d (x ∷ y ∷ []) s.name))
    cell_back after words rest (SizeBy w h are is) d = fixed_back _ _ keys.Size InMacroAt _ (sizes cell pin) (λ w at. turns tech line InMacroAt w ∙ rw at refl) (w, (tt, (h, tt))) words rest are (rw is at (d (w ∷ h ∷ []) s.name))
    cell_back after words rest (Obstruction b is) d =
        rw (b.parts, turns, obstruction_turn (key_of b.word) (at_line line b.word) b.key)
        (pass_back tech line D C InMacroAt _ rest (record { statements = b.statements; end = b.end; parts = refl; each = b.each; ends = b.ends }) (rw is at (d numbers s.name)))
    cell_back after words rest (Timing b is) d =
        rw (b.parts, turns, timing_turn (key_of b.word) (at_line line b.word) b.key) (skip_back tech line D C (record InMacroAt { name = b.word.bytes }) b.body rest b.ends (rw is at (d numbers b.word.bytes)))
    cell_back after words rest (OtherInCell other_ is) d =
        other_back tech line D C begins_in_macro InMacroAt (λ word un. turns tech line InMacroAt word ∙ not_own (key_of word) (at_line line word) un) words rest other_ (rw is at (d numbers s.name))

    pin_head_back : (name : List ℕ) (words rest : List Lexeme) → Are (Word keys.Pin ∷ Name name ∷ []) words → D (In s numbers blocks.Pin rows.Begin cell (no_pin name)) rest → After InMacroAt (words ++ rest)
    unfolding macro_row pin_name_row
    pin_head_back name (a ∷ b ∷ []) rest are d = rw (turns, are.0, turns, are.1.0.0, are.1.0.1) d
    pin_head_back name _ rest are d = search

    direction_turn : (key : Key) (dir : Dir) (word : Lexeme) → direction_of key ≡ Some dir → direction_row (In s numbers blocks.Pin rows.Direction cell pin) key word ≡ More (In s numbers blocks.Pin rows.Due cell (with_dir dir pin))
    unfolding direction_row
    direction_turn keys.Input dir word gives = let e : dirs.I ≡ dir = cc in rw e refl
    direction_turn keys.InOut dir word gives = let e : dirs.B ≡ dir = cc in rw e refl
    direction_turn keys.FeedThru dir word gives = let e : dirs.B ≡ dir = cc in rw e refl
    direction_turn _ dir word gives = absurd cc

    direction_back : (key : Key) (dir : Dir) (words rest : List Lexeme) → Are (Word keys.Direction ∷ Word key ∷ semicolon ∷ []) words → direction_of key ≡ Some dir → D (In s numbers blocks.Pin rows.Begin cell (with_dir dir pin)) rest → After InPinAt (words ++ rest)
    unfolding pin_row Rattle.rc_lef.specs.Moves.due_row
    direction_back key dir (a ∷ b ∷ c ∷ []) rest are gives d = rw (turns, are.0, turns, direction_turn (key_of b) dir (at_line line b) (rw are.1.0 gives), turns, are.1.1.0) d
    direction_back key dir _ rest are gives d = search

    output_back : (words rest : List Lexeme) → Are (Word keys.Direction ∷ Word keys.Output ∷ semicolon ∷ []) words → D (In s numbers blocks.Pin rows.Begin cell (with_dir dirs.O pin)) rest → After InPinAt (words ++ rest)
    unfolding pin_row direction_row tri_state_row
    output_back (a ∷ b ∷ c ∷ []) rest are d = rw (turns, are.0, turns, are.1.0, turns, are.1.1.0) d
    output_back _ rest are d = search

    tri_state_back : (words rest : List Lexeme) → Are (Word keys.Direction ∷ Word keys.Output ∷ Word keys.TriState ∷ semicolon ∷ []) words → D (In s numbers blocks.Pin rows.Begin cell (with_dir dirs.O pin)) rest → After InPinAt (words ++ rest)
    unfolding pin_row direction_row tri_state_row Rattle.rc_lef.specs.Moves.due_row
    tri_state_back (a ∷ b ∷ c ∷ e ∷ []) rest are d = rw (turns, are.0, turns, are.1.0, turns, are.1.1.0, turns, are.1.1.1.0) d
    tri_state_back _ rest are d = search

    pin_back : (after : PinDraft) (words rest : List Lexeme) → PinStatement pin words after → D (In s numbers blocks.Pin rows.Begin cell after) rest → After InPinAt (words ++ rest)
    pin_back after words rest (Direction key dir are gives is) d = direction_back key dir words rest are gives (rw is at d)
    pin_back after words rest (Output are is) d = output_back words rest are (rw is at d)
    pin_back after words rest (TriState are is) d = tri_state_back words rest are (rw is at d)
    pin_back after words rest (OtherInPin other_ is) d =
        other_back tech line D C begins_in_pin InPinAt (λ word un. turns tech line InPinAt word ∙ not_own_pin (key_of word) (at_line line word) un) words rest other_ (rw is at d)

    port_head_back : (words rest : List Lexeme) → Are (Word keys.Port ∷ []) words → D (In s numbers blocks.Port rows.Begin cell (record pin { layer = None })) rest → After InPinAt (words ++ rest)
    unfolding pin_row
    port_head_back (a ∷ []) rest are d = rw (turns, are.0) d
    port_head_back _ rest are d = search

    pin_end_back : (words rest : List Lexeme) → Are (Word keys.End ∷ Name pin.name ∷ []) words → D (In s numbers blocks.Macro rows.Begin (pin_joins cell pin) (no_pin [])) rest → After InPinAt (words ++ rest)
    unfolding pin_row end_of_pin
    pin_end_back (a ∷ b ∷ []) rest are d =
        let e : bytes_eq b.bytes pin.name ≡ true = (bytes_eq-Decides b.bytes pin.name).1 are.1.0.1 in
        rw (turns, are.0, turns, are.1.0.0, e) d
    pin_end_back _ rest are d = search

    port_end_back : (words rest : List Lexeme) → Are (Word keys.End ∷ []) words → D (In s numbers blocks.Pin rows.Begin cell pin) rest → After InPortAt (words ++ rest)
    unfolding port_row
    port_end_back (a ∷ []) rest are d = rw (turns, are.0) d
    port_end_back _ rest are d = search

    on_layer_back : (kind : LayerKind) (a b : Lexeme) (over rest : List Lexeme) → Are (Word keys.Layer ∷ LayerOf (tech_with tech s).layers kind ∷ []) (a ∷ b ∷ []) → IsOver over → D (In s numbers blocks.Port rows.Begin cell (record pin { layer = Some kind })) rest → After InPortAt (a ∷ b ∷ over ++ rest)
    unfolding port_row port_layer_row layer_kind
    on_layer_back kind a b over rest are over_ d =
        let e : layer_of tech s (key_of b) b ≡ Ok kind = rw (kind_is tech s b.bytes) are.1.0 in
        rw (turns, are.0, turns, e) (over_back tech line D C (In s numbers blocks.Port rows.Begin cell (record pin { layer = Some kind })) over rest over_ d)

    rect_turn : (key : Key) (word : Lexeme) (x1 : ℤ) → is_plain key ≡ true → is_some pin.layer ≡ true → length_at ranges.Any s.units key word.bytes ≡ Ok x1 → port_rect_row (In s [] blocks.Port rows.PortRect cell pin) key word ≡ More (In s (x1 ∷ []) blocks.Port (rows.Number forms.PinRect) cell pin)
    unfolding port_rect_row
    rect_turn keys.Iterate word x1 plain placed says = absurd cc
    rect_turn keys.Mask word x1 plain placed says = absurd cc
    rect_turn _ word x1 plain placed says = rw (none_is pin.layer placed) (number_is tech line (In s [] blocks.Port rows.PortRect cell pin) forms.PinRect _ word x1 says)

    rect_back : (x1 y1 x2 y2 : ℤ) (words rest : List Lexeme) → Are (Word keys.Rect ∷ Coordinate s.units x1 ∷ Coordinate s.units y1 ∷ Coordinate s.units x2 ∷ Coordinate s.units y2 ∷ semicolon ∷ []) words → second_is is_plain words ≡ true → is_some pin.layer ≡ true
        → D (In s (x1 ∷ y1 ∷ x2 ∷ y2 ∷ []) blocks.Port rows.Begin cell (rect_in_pin pin (x1 ∷ y1 ∷ x2 ∷ y2 ∷ []))) rest → After InPortAt (words ++ rest)
    unfolding port_row
    rect_back x1 y1 x2 y2 (r ∷ w ∷ words) rest are plain placed d =
        rw (turns, are.0, turns, rect_turn (key_of w) (at_line line w) x1 plain placed are.1.0) ((corners cell pin x1).back D C (y1, (x2, (y2, tt))) words rest are.1.1 d)
    rect_back x1 y1 x2 y2 _ rest are plain placed d = search

    mask_turn : (word : Lexeme) → is_some pin.layer ≡ true → port_rect_row (In s [] blocks.Port rows.PortRect cell pin) keys.Mask word ≡ More (In s [] blocks.Port rows.PortMask cell pin)
    unfolding port_rect_row
    mask_turn word placed = rw (none_is pin.layer placed) refl

    masked_turn : (word : Lexeme) → Says Whole word → port_mask_row (In s [] blocks.Port rows.PortMask cell pin) (key_of word) (at_line line word) ≡ More (In s [] blocks.Port (rows.Number forms.PinRect) cell pin)
    unfolding port_mask_row
    masked_turn word says = rw says refl

    masked_back : (x1 y1 x2 y2 : ℤ) (words rest : List Lexeme)
        → Are (Word keys.Rect ∷ Word keys.Mask ∷ Whole ∷ Coordinate s.units x1 ∷ Coordinate s.units y1 ∷ Coordinate s.units x2 ∷ Coordinate s.units y2 ∷ semicolon ∷ []) words → is_some pin.layer ≡ true
        → D (In s (x1 ∷ y1 ∷ x2 ∷ y2 ∷ []) blocks.Port rows.Begin cell (rect_in_pin pin (x1 ∷ y1 ∷ x2 ∷ y2 ∷ []))) rest → After InPortAt (words ++ rest)
    unfolding port_row
    masked_back x1 y1 x2 y2 (r ∷ m ∷ n ∷ w ∷ words) rest are placed d =
        rw (turns, are.0, turns, are.1.0, mask_turn (at_line line m) placed, turns, masked_turn n are.1.1.0, turns, number_is tech line (In s [] blocks.Port (rows.Number forms.PinRect) cell pin) forms.PinRect (key_of w) (at_line line w) x1 are.1.1.1.0)
        ((corners cell pin x1).back D C (y1, (x2, (y2, tt))) words rest are.1.1.1.1 d)
    masked_back x1 y1 x2 y2 _ rest are placed d = search

    iterated_back : (a b : Lexeme) (over rest : List Lexeme) → Are (Word keys.Rect ∷ Word keys.Iterate ∷ []) (a ∷ b ∷ []) → IsOver over → D (In s [] blocks.Port rows.Begin cell pin) rest → After InPortAt (a ∷ b ∷ over ++ rest)
    unfolding port_row port_rect_row
    iterated_back a b over rest are over_ d = rw (turns, are.0, turns, are.1.0) (over_back tech line D C (In s [] blocks.Port rows.Begin cell pin) over rest over_ d)

    port_back : (after : PinDraft) (words rest : List Lexeme) → PortStatement (tech_with tech s) pin words after → ((noted_ : List ℤ) → D (In s noted_ blocks.Port rows.Begin cell after) rest) → After InPortAt (words ++ rest)
    port_back after words rest (OnLayer kind a b over parts are over_ is) d = rw parts (on_layer_back kind a b over rest are over_ (rw is at (d numbers)))
    port_back after words rest (Rect x1 y1 x2 y2 are plain placed is) d = rect_back x1 y1 x2 y2 words rest are plain placed (rw is at (d (x1 ∷ y1 ∷ x2 ∷ y2 ∷ [])))
    port_back after words rest (MaskedRect x1 y1 x2 y2 are placed is) d = masked_back x1 y1 x2 y2 words rest are placed (rw is at (d (x1 ∷ y1 ∷ x2 ∷ y2 ∷ [])))
    port_back after words rest (Iterated a b over parts are over_ is) d = rw parts (iterated_back a b over rest are over_ (rw is at (d [])))
    port_back after words rest (OtherInPort other_ is) d =
        other_back tech line D C begins_in_port InPortAt (λ word un. turns tech line InPortAt word ∙ not_own_port (key_of word) (at_line line word) un) words rest other_ (rw is at (d numbers))

    by_here : (place : Place) (after : MacroParts) (words rest : List Lexeme) → MacroStatement (tech_with tech s) (record { cell = cell; place = place; pin = pin }) words after → ((noted_ : List ℤ) (name : List ℕ) → D (At (record s { name = name }) noted_ after) rest)
        → After (At s numbers (record { cell = cell; place = place; pin = pin })) (words ++ rest)
    by_here place after words rest (InCell next here statement is) d = rw here (cell_back next words rest statement (λ n m. rw (is, here) at (d n m)))
    by_here place after words rest (PinHead name here are is) d = rw here (pin_head_back name words rest are (rw is at (d numbers s.name)))
    by_here place after words rest (PinPart next here statement is) d = rw here (pin_back next words rest statement (rw (is, here) at (d numbers s.name)))
    by_here place after words rest (PortHead here are is) d = rw here (port_head_back words rest are (rw is at (d numbers s.name)))
    by_here place after words rest (PortPart next here statement is) d = rw here (port_back next words rest statement (λ n. rw (is, here) at (d n s.name)))
    by_here place after words rest (PortEnd here are is) d = rw here (port_end_back words rest are (rw is at (d numbers s.name)))
    by_here place after words rest (PinEnd here are is) d = rw here (pin_end_back words rest are (rw is at (d numbers s.name)))

  pub statement_back : (v after : MacroParts) (numbers : List ℤ) (words rest : List Lexeme) → MacroStatement (tech_with tech s) v words after → ((noted_ : List ℤ) (name : List ℕ) → D (At (record s { name = name }) noted_ after) rest) → After (At s numbers v) (words ++ rest)
  statement_back v after numbers words rest statement d = by_here v.cell v.pin numbers v.place after words rest statement d

  sized_turn : (cell : CellDraft) (pin : PinDraft) (numbers : List ℤ) (size : Pt) (word : Lexeme) → is_name (key_of word) ≡ true → word.bytes ≡ s.outer → cell.size ≡ Some size
      → end_of_macro tech (In s numbers blocks.Macro rows.End cell pin) (key_of word) (at_line line word) ≡ Done (Closed tech s numbers (record { cell = cell; place = Between; pin = pin }) size)
  unfolding end_of_macro
  sized_turn cell pin numbers size word named same has =
      let e : bytes_eq word.bytes s.outer ≡ true = (bytes_eq-Decides word.bytes s.outer).1 same in
      rw (named, e) (ap (λ (o : Option Pt). with_size_of tech (In s numbers blocks.Macro rows.End cell pin) o) has)

  closing_back : (cell : CellDraft) (pin : PinDraft) (numbers : List ℤ) (size : Pt) (words rest : List Lexeme) → Are (Word keys.End ∷ Name s.outer ∷ []) words → cell.size ≡ Some size → D (Closed tech s numbers (record { cell = cell; place = Between; pin = pin }) size) rest
      → After (In s numbers blocks.Macro rows.Begin cell pin) (words ++ rest)
  unfolding macro_row
  closing_back cell pin numbers size (a ∷ b ∷ []) rest are has d = rw (turns, are.0, turns, sized_turn cell pin numbers size b are.1.0.0 are.1.0.1 has) d
  closing_back cell pin numbers size _ rest are has d = search

  pub end_back : (v : MacroParts) (numbers : List ℤ) (size : Pt) (words rest : List Lexeme) → Are (Word keys.End ∷ Name s.outer ∷ []) words → v.place ≡ Between → v.cell.size ≡ Some size → D (Closed tech s numbers v size) rest → After (At s numbers v) (words ++ rest)
  end_back v numbers size words rest are between has d = rw between (closing_back v.cell v.pin numbers size words rest are has d)

-- ---- the technology after a macro

pub closed_tech : (tech : Technology) (s : State) (numbers : List ℤ) (v : MacroParts) (size : Pt) → tech_with tech (Closed tech s numbers v size) ≡ with_new_macro (tech_with tech s) s.outer size v.cell
unfolding knows_macro
closed_tech tech s numbers v size =
    ap (λ ms. record (tech_with tech s) { macros = ms })
    (joins (knows_macro tech (In s numbers blocks.Macro rows.End v.cell v.pin)) tech.macros s.macros (macro_of s.outer size v.cell) (macro_of s.outer size v.cell) (λ un. refl) ∙ rw (list_any-append (is_macro s.outer) tech.macros s.macros) refl)
