-- The rows of MACRO, PIN and PORT.
use Rattle.std.specs.Prelude.{◌&&◌, ◌||◌, ◌++◌, ℕ, pos, Bool, Option, Some, None, is_none, unwrap_or, List, [], ◌∷◌, if◌then◌else◌}
use Rattle.std.specs.List.{list_any}
use Rattle.std.specs.Str.{bytes_eq}
use Rattle.rc_geom.specs.declared.rect.Pt.{Pt}
use Rattle.rc_keys.specs.declared.code.Code.TheVariants.{E03, E16}
use Rattle.rc_keys.specs.declared.fault.Refusal.TheVariants.{At}
use Rattle.rc_keys.specs.Lexemes.{Lexeme}
use Rattle.rc_keys.specs.Course.{Turn, Refuse, refuse}
use Rattle.rc_lef.specs.declared.cell.Dir.{Dir}
use Rattle.rc_lef.specs.declared.cell.Dir.TheVariants as dirs
use Rattle.rc_lef.specs.declared.cell.Macro.{Macro}
use Rattle.rc_lef.specs.declared.cell.MacroPin.{MacroPin}
use Rattle.rc_lef.specs.declared.key.Key.{Key}
use Rattle.rc_lef.specs.declared.key.Key.TheVariants as keys
use Rattle.rc_lef.specs.declared.state.Block.TheVariants as blocks
use Rattle.rc_lef.specs.declared.state.CellDraft.{CellDraft}
use Rattle.rc_lef.specs.declared.state.Form.TheVariants as forms
use Rattle.rc_lef.specs.declared.state.PinDraft.{PinDraft}
use Rattle.rc_lef.specs.declared.state.Row.{Row}
use Rattle.rc_lef.specs.declared.state.Row.TheVariants as rows
use Rattle.rc_lef.specs.declared.state.State.{State}
use Rattle.rc_lef.specs.Keys.{is_name}
use Rattle.rc_lef.specs.Technology.{Technology}
use Rattle.rc_lef.specs.Moves.{goes, ends, first, with_read, other_statement, skips, layer_of}
use Rattle.rc_lef.specs.Operands.{whole_at}
use Rattle.rc_lef.specs.Numbers.{numbers_due, number_row}

-- a macro and a pin without statements
abbrev pub no_cell : CellDraft
no_cell = record { origin = None; size = None; pins = [] }

abbrev pub no_pin : List ℕ → PinDraft
no_pin name = record { name = name; dir = None; layer = None; rects = [] }

-- ---- MACRO

-- MACRO c
unfoldable pub macro_name_row : State → Key → Lexeme → Turn State
macro_name_row s key word = if is_name key then ends (record s { block = blocks.Macro; outer = word.bytes; line = word.line; cell = no_cell; pin = no_pin [] }) else refuse E03 word

unfoldable pub macro_row : State → Key → Lexeme → Turn State
macro_row s keys.Origin word = numbers_due forms.Origin s
macro_row s keys.Size word = numbers_due forms.Size s
macro_row s keys.Pin word = goes rows.PinName s
macro_row s keys.Obs word = goes rows.SkipStatements s
macro_row s keys.Density word = goes rows.SkipStatements s
macro_row s keys.Timing word = skips s word.bytes
macro_row s keys.End word = goes rows.End s
macro_row s key word = other_statement s key word

-- ---- PIN

-- PIN p
unfoldable pub pin_name_row : State → Key → Lexeme → Turn State
pin_name_row s key word = if is_name key then ends (record s { block = blocks.Pin; pin = no_pin word.bytes }) else refuse E03 word

unfoldable pub pin_row : State → Key → Lexeme → Turn State
pin_row s keys.Direction word = goes rows.Direction s
pin_row s keys.Port word = ends (record s { block = blocks.Port; pin = record s.pin { layer = None } })
pin_row s keys.End word = goes rows.End s
pin_row s key word = other_statement s key word

abbrev pub takes_dir : Dir → Row → State → Turn State
takes_dir dir row s = goes row (record s { pin = record s.pin { dir = first s.pin.dir dir } })

-- DIRECTION d ;
unfoldable pub direction_row : State → Key → Lexeme → Turn State
direction_row s keys.Input word = takes_dir dirs.I rows.Due s
direction_row s keys.Output word = takes_dir dirs.O rows.TriState s
direction_row s keys.InOut word = takes_dir dirs.B rows.Due s
direction_row s keys.FeedThru word = takes_dir dirs.B rows.Due s
direction_row s _ word = refuse E03 word

unfoldable pub tri_state_row : State → Key → Lexeme → Turn State
tri_state_row s keys.TriState word = goes rows.Due s
tri_state_row s keys.Semicolon word = ends s
tri_state_row s _ word = refuse E03 word

-- ---- PORT

unfoldable pub port_row : State → Key → Lexeme → Turn State
port_row s keys.Layer word = goes rows.PortLayer s
port_row s keys.Rect word = goes rows.PortRect (record s { numbers = [] })
port_row s keys.End word = ends (record s { block = blocks.Pin })
port_row s key word = other_statement s key word

-- LAYER l .. ;
unfoldable pub port_layer_row : Technology → State → Key → Lexeme → Turn State
port_layer_row tech s key word = with_read word (layer_of tech s key word) (λ kind. goes rows.Over (record s { pin = record s.pin { layer = Some kind } }))

abbrev pub first_corner_row : State → Key → Lexeme → Turn State
first_corner_row s key word = if is_none s.pin.layer then refuse E03 word else number_row s forms.PinRect key word

-- RECT ITERATE .. ; and RECT [MASK n] x1 y1 x2 y2 ; which needs a layer
unfoldable pub port_rect_row : State → Key → Lexeme → Turn State
port_rect_row s keys.Iterate word = goes rows.Over s
port_rect_row s keys.Mask word = if is_none s.pin.layer then refuse E03 word else goes rows.PortMask s
port_rect_row s key word = first_corner_row s key word

unfoldable pub port_mask_row : State → Key → Lexeme → Turn State
port_mask_row s key word = with_read word (whole_at key word.bytes) (λ _. goes (rows.Number forms.PinRect) s)

-- ---- the pin

abbrev pub pin_of : PinDraft → MacroPin
pin_of pin = record { name = pin.name; dir = unwrap_or pin.dir dirs.B; rects = pin.rects }

abbrev pub is_pin : List ℕ → MacroPin → Bool
is_pin name pin = bytes_eq name pin.name

-- a pin whose name is there already is left out
abbrev pub pin_joins : CellDraft → PinDraft → CellDraft
pin_joins cell pin = record cell { pins = if list_any (is_pin pin.name) cell.pins then cell.pins else cell.pins ++ pin_of pin ∷ [] }

abbrev pub with_pin : State → State
with_pin s = record s { block = blocks.Macro; cell = pin_joins s.cell s.pin; pin = no_pin [] }

unfoldable pub end_of_pin : State → Key → Lexeme → Turn State
end_of_pin s key word = if is_name key && bytes_eq word.bytes s.pin.name then ends (with_pin s) else refuse E03 word

-- ---- the macro

abbrev pub is_macro : List ℕ → Macro → Bool
is_macro name cell = bytes_eq name cell.name

unfoldable pub knows_macro : Technology → State → Bool
knows_macro tech s = list_any (is_macro s.outer) tech.macros || list_any (is_macro s.outer) s.macros

abbrev pub macro_of : List ℕ → Pt → CellDraft → Macro
macro_of name size cell = record { name = name; origin = unwrap_or cell.origin (record { x = pos 0; y = pos 0 }); w = size.x; h = size.y; pins = cell.pins }

-- a macro whose name is there already is left out
abbrev pub with_macro : Technology → Pt → State → State
with_macro tech size s = record s { block = blocks.Top; macros = if knows_macro tech s then s.macros else s.macros ++ macro_of s.outer size s.cell ∷ []; outer = []; cell = no_cell }

-- a macro without SIZE is refused at its first line
abbrev pub with_size_of : Technology → State → Option Pt → Turn State
with_size_of tech s None = Refuse (At E16 s.line)
with_size_of tech s (Some size) = ends (with_macro tech size s)

unfoldable pub end_of_macro : Technology → State → Key → Lexeme → Turn State
end_of_macro tech s key word = if is_name key && bytes_eq word.bytes s.outer then with_size_of tech s s.cell.size else refuse E03 word
