-- MACRO c .. END c with PIN p .. END p and PORT .. END, statement by statement.
use Rattle.std.specs.Prelude.{◌≡◌, ◌++◌, ℕ, ℤ, Bool, true, false, Option, Some, None, is_some, List, [], ◌∷◌, if◌then◌else◌}
use Rattle.std.specs.List.{list_any}
use Rattle.rc_geom.specs.declared.rect.Pt.{Pt}
use Rattle.rc_keys.specs.Lexemes.{Lexeme}
use Rattle.rc_keys.specs.Phrases.{Block}
use Rattle.rc_lef.specs.declared.cell.Dir.{Dir}
use Rattle.rc_lef.specs.declared.cell.Dir.TheVariants as dirs
use Rattle.rc_lef.specs.declared.key.Key.{Key}
use Rattle.rc_lef.specs.declared.key.Key.TheVariants as keys
use Rattle.rc_lef.specs.declared.state.CellDraft.{CellDraft}
use Rattle.rc_lef.specs.declared.state.PinDraft.{PinDraft}
use Rattle.rc_lef.specs.declared.tech.LayerKind.{LayerKind}
use Rattle.rc_lef.specs.Cells.{no_cell, no_pin, pin_joins, is_macro, macro_of}
use Rattle.rc_lef.specs.Keys.{key_of}
use Rattle.rc_lef.specs.Moves.{first}
use Rattle.rc_lef.specs.Numbers.{rect_in_pin, origin_in, size_in}
use Rattle.rc_lef.specs.Technology.{Technology}
use Rattle.rc_lef.specs.Phrases.{Word, semicolon, Name, LayerOf, Coordinate, Size, Whole, Are, IsOver, IsOther}
use Rattle.rc_lef.specs.Skipped.{IsSkippedBlock, IsSkippedStatements}

-- ---- in the MACRO itself

abbrev pub begins_in_macro : Key → Bool
begins_in_macro keys.Origin = true
begins_in_macro keys.Size = true
begins_in_macro keys.Pin = true
begins_in_macro keys.Obs = true
begins_in_macro keys.Density = true
begins_in_macro keys.Timing = true
begins_in_macro keys.End = true
begins_in_macro _ = false

abbrev pub is_timing : Key → Bool
is_timing keys.Timing = true
is_timing _ = false

abbrev pub is_obstruction : Key → Bool
is_obstruction keys.Obs = true
is_obstruction keys.Density = true
is_obstruction _ = false

pub data CellStatement (tech : Technology) (before : CellDraft) (words : List Lexeme) (after : CellDraft) : Type 0 where
  -- ORIGIN x y ;
  Origin : (x y : ℤ) → Are (Word keys.Origin ∷ Coordinate tech.units x ∷ Coordinate tech.units y ∷ semicolon ∷ []) words → after ≡ origin_in before (x ∷ y ∷ []) → CellStatement tech before words after
  -- SIZE w BY h ;
  SizeBy : (w h : ℤ) → Are (Word keys.Size ∷ Size tech.units w ∷ Word keys.By ∷ Size tech.units h ∷ semicolon ∷ []) words → after ≡ size_in before (w ∷ h ∷ []) → CellStatement tech before words after
  -- OBS .. END and DENSITY .. END are skipped up to a statement that begins with END
  Obstruction : IsSkippedStatements is_obstruction words → after ≡ before → CellStatement tech before words after
  -- TIMING .. END TIMING is skipped
  Timing : IsSkippedBlock is_timing words → after ≡ before → CellStatement tech before words after
  -- others are read over
  Other : IsOther begins_in_macro words → after ≡ before → CellStatement tech before words after

-- ---- in a PIN

abbrev pub begins_in_pin : Key → Bool
begins_in_pin keys.Direction = true
begins_in_pin keys.Port = true
begins_in_pin keys.End = true
begins_in_pin _ = false

-- INPUT, INOUT, FEEDTHRU, each with the direction that it gives
abbrev pub direction_of : Key → Option Dir
direction_of keys.Input = Some dirs.I
direction_of keys.InOut = Some dirs.B
direction_of keys.FeedThru = Some dirs.B
direction_of _ = None

-- the first DIRECTION counts
abbrev pub with_dir : Dir → PinDraft → PinDraft
with_dir dir before = record before { dir = first before.dir dir }

pub data PinStatement (before : PinDraft) (words : List Lexeme) (after : PinDraft) : Type 0 where
  -- DIRECTION INPUT ;  DIRECTION INOUT ;  DIRECTION FEEDTHRU ;
  Direction : (key : Key) (dir : Dir) → Are (Word keys.Direction ∷ Word key ∷ semicolon ∷ []) words → direction_of key ≡ Some dir → after ≡ with_dir dir before → PinStatement before words after
  -- DIRECTION OUTPUT ;  DIRECTION OUTPUT TRISTATE ;
  Output : Are (Word keys.Direction ∷ Word keys.Output ∷ semicolon ∷ []) words → after ≡ with_dir dirs.O before → PinStatement before words after
  TriState : Are (Word keys.Direction ∷ Word keys.Output ∷ Word keys.TriState ∷ semicolon ∷ []) words → after ≡ with_dir dirs.O before → PinStatement before words after
  -- others are read over
  Other : IsOther begins_in_pin words → after ≡ before → PinStatement before words after

-- ---- in a PORT

abbrev pub begins_in_port : Key → Bool
begins_in_port keys.Layer = true
begins_in_port keys.Rect = true
begins_in_port keys.End = true
begins_in_port _ = false

abbrev pub is_iterate : Key → Bool
is_iterate keys.Iterate = true
is_iterate _ = false

-- the token behind RECT is MASK, or ITERATE
abbrev pub is_plain : Key → Bool
is_plain keys.Mask = false
is_plain keys.Iterate = false
is_plain _ = true

abbrev pub second_is : (Key → Bool) → List Lexeme → Bool
second_is test (rect ∷ word ∷ words) = test (key_of word)
second_is test _ = false

pub data PortStatement (tech : Technology) (before : PinDraft) (words : List Lexeme) (after : PinDraft) : Type 0 where
  -- LAYER l .. ;
  OnLayer : (kind : LayerKind) (layer name : Lexeme) (over : List Lexeme) → words ≡ layer ∷ name ∷ over → Are (Word keys.Layer ∷ LayerOf tech.layers kind ∷ []) (layer ∷ name ∷ []) → IsOver over
      → after ≡ record before { layer = Some kind } → PortStatement tech before words after
  -- RECT x1 y1 x2 y2 ;  RECT MASK n x1 y1 x2 y2 ; where a layer stands before it
  Rect : (x1 y1 x2 y2 : ℤ) → Are (Word keys.Rect ∷ Coordinate tech.units x1 ∷ Coordinate tech.units y1 ∷ Coordinate tech.units x2 ∷ Coordinate tech.units y2 ∷ semicolon ∷ []) words → second_is is_plain words ≡ true
      → is_some before.layer ≡ true → after ≡ rect_in_pin before (x1 ∷ y1 ∷ x2 ∷ y2 ∷ []) → PortStatement tech before words after
  MaskedRect : (x1 y1 x2 y2 : ℤ)
      → Are (Word keys.Rect ∷ Word keys.Mask ∷ Whole ∷ Coordinate tech.units x1 ∷ Coordinate tech.units y1 ∷ Coordinate tech.units x2 ∷ Coordinate tech.units y2 ∷ semicolon ∷ []) words
      → is_some before.layer ≡ true → after ≡ rect_in_pin before (x1 ∷ y1 ∷ x2 ∷ y2 ∷ []) → PortStatement tech before words after
  -- RECT ITERATE .. ; is read over
  Iterated : (rect iterate : Lexeme) (over : List Lexeme) → words ≡ rect ∷ iterate ∷ over → Are (Word keys.Rect ∷ Word keys.Iterate ∷ []) (rect ∷ iterate ∷ []) → IsOver over → after ≡ before → PortStatement tech before words after
  -- others are read over
  Other : IsOther begins_in_port words → after ≡ before → PortStatement tech before words after

-- ---- the whole MACRO

-- where one stands: between the pins, in a pin, or in a port of it
pub data Place : Type 0 where
  Between : Place
  InPin : Place
  InPort : Place

-- what the statements of a MACRO say so far
pub record MacroParts : Type 0 where
  pub cell : CellDraft
  pub place : Place
  pub pin : PinDraft

pub data MacroStatement (tech : Technology) (before : MacroParts) (words : List Lexeme) (after : MacroParts) : Type 0 where
  InCell : (cell : CellDraft) → before.place ≡ Between → CellStatement tech before.cell words cell → after ≡ record before { cell = cell } → MacroStatement tech before words after
  -- PIN p
  PinHead : (name : List ℕ) → before.place ≡ Between → Are (Word keys.Pin ∷ Name name ∷ []) words → after ≡ record before { place = InPin; pin = no_pin name } → MacroStatement tech before words after
  PinPart : (pin : PinDraft) → before.place ≡ InPin → PinStatement before.pin words pin → after ≡ record before { pin = pin } → MacroStatement tech before words after
  -- PORT; a layer of another port doesn't count
  PortHead : before.place ≡ InPin → Are (Word keys.Port ∷ []) words → after ≡ record before { place = InPort; pin = record before.pin { layer = None } } → MacroStatement tech before words after
  PortPart : (pin : PinDraft) → before.place ≡ InPort → PortStatement tech before.pin words pin → after ≡ record before { pin = pin } → MacroStatement tech before words after
  -- END of the port
  PortEnd : before.place ≡ InPort → Are (Word keys.End ∷ []) words → after ≡ record before { place = InPin } → MacroStatement tech before words after
  -- END p: a pin of a name that is there is left out
  PinEnd : before.place ≡ InPin → Are (Word keys.End ∷ Name before.pin.name ∷ []) words → after ≡ record { cell = pin_joins before.cell before.pin; place = Between; pin = no_pin [] } → MacroStatement tech before words after

abbrev pub no_parts : MacroParts
no_parts = record { cell = no_cell; place = Between; pin = no_pin [] }

abbrev pub MacroBlock : Technology → List ℕ → MacroParts → List Lexeme → MacroParts → Type 0
MacroBlock tech name before words after = Block (Are (Word keys.Macro ∷ Name name ∷ [])) (MacroStatement tech) (Are (Word keys.End ∷ Name name ∷ [])) before words after

-- ---- the macro

abbrev pub knows_macro : Technology → List ℕ → Bool
knows_macro tech name = list_any (is_macro name) tech.macros

-- a macro of a name that is there is left out
abbrev pub with_new_macro : Technology → List ℕ → Pt → CellDraft → Technology
with_new_macro tech name size cell = record tech { macros = if knows_macro tech name then tech.macros else tech.macros ++ macro_of name size cell ∷ [] }
