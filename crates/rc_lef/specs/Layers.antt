-- The rows of UNITS and LAYER.
use Rattle.std.specs.Prelude.{◌+◌, ◌&&◌, ◌||◌, ◌++◌, ℕ, ℤ, pos, Bool, true, false, not, Option, Some, None, is_some, is_none, Result, Ok, Err, [], ◌∷◌, count_by, nat_le, if◌then◌else◌}
use Rattle.std.specs.List.{list_any}
use Rattle.std.specs.Str.{bytes_eq}
use Rattle.rc_keys.specs.declared.code.Code.{Code}
use Rattle.rc_keys.specs.declared.code.Code.TheVariants.{E03, E05, E08, E16}
use Rattle.rc_keys.specs.declared.code.Quantity.TheVariants.{Layers, Cuts}
use Rattle.rc_keys.specs.declared.fault.Refusal.{Refusal}
use Rattle.rc_keys.specs.declared.fault.Refusal.TheVariants.{At, Limit}
use Rattle.rc_keys.specs.Lexemes.{Lexeme}
use Rattle.rc_keys.specs.Course.{Turn, Refuse, refuse}
use Rattle.rc_lef.specs.declared.key.Key.{Key}
use Rattle.rc_lef.specs.declared.key.Key.TheVariants as keys
use Rattle.rc_lef.specs.declared.tech.Layer.{Layer}
use Rattle.rc_lef.specs.declared.tech.LayerKind.{LayerKind}
use Rattle.rc_lef.specs.declared.tech.LayerKind.TheVariants as kinds
use Rattle.rc_lef.specs.declared.state.Block.TheVariants as blocks
use Rattle.rc_lef.specs.declared.state.Row.TheVariants as rows
use Rattle.rc_lef.specs.declared.state.LayerDraft.{LayerDraft}
use Rattle.rc_lef.specs.declared.state.State.{State}
use Rattle.rc_lef.specs.declared.units.Units.{Units}
use Rattle.rc_lef.specs.Keys.{is_name, is_quoted}
use Rattle.rc_lef.specs.Technology.{Technology, is_routing, is_cut}
use Rattle.rc_lef.specs.Moves.{goes, ends, first, other_statement}
use Rattle.rc_lef.specs.Operands.{is_named}
use Rattle.rc_lef.specs.Lengths.{length_read, positive, units_named}

-- ---- UNITS .. END UNITS

unfoldable pub units_row : State → Key → Lexeme → Turn State
units_row s keys.Database word = goes rows.Database s
units_row s keys.End word = goes rows.End s
units_row s key word = other_statement s key word

unfoldable pub end_of_units : State → Key → Lexeme → Turn State
end_of_units s keys.Units word = ends (record s { block = blocks.Top })
end_of_units s _ word = refuse E03 word

-- DATABASE MICRONS n ;
unfoldable pub database_row : State → Key → Lexeme → Turn State
database_row s keys.Microns word = goes rows.Microns s
database_row s _ word = refuse E03 word

abbrev pub sets_units : State → Lexeme → Option Units → Turn State
sets_units s word None = refuse E08 word
sets_units s word (Some units) = goes rows.Due (record s { units = first s.units units })

unfoldable pub microns_row : State → Key → Lexeme → Turn State
microns_row s key word = if is_quoted key then refuse E08 word else sets_units s word (units_named word.bytes)

-- ---- LAYER l .. END l

-- LAYER l
unfoldable pub layer_name_row : State → Key → Lexeme → Turn State
layer_name_row s key word =
    if is_name key
    then ends (record s { block = blocks.Layer; name = word.bytes; line = word.line; layer = record { kind = None; width = None; pending = Err E05 } })
    else refuse E03 word

unfoldable pub layer_row : State → Key → Lexeme → Turn State
layer_row s keys.Type word = goes rows.Type s
layer_row s keys.Width word = goes rows.Width s
layer_row s keys.End word = goes rows.End s
layer_row s key word = other_statement s key word

-- a layer of the block's name is there
unfoldable pub is_known : Technology → State → Bool
is_known tech s = list_any (is_named s.name) tech.layers || list_any (is_named s.name) s.layers

-- how many layers there are of a kind
abbrev pub count_of : (LayerKind → Bool) → Technology → State → ℕ
count_of test tech s = count_by (λ layer. test layer.kind) tech.layers + count_by (λ layer. test layer.kind) s.layers

abbrev pub takes_kind : State → LayerKind → Turn State
takes_kind s kind = goes rows.Due (record s { layer = record s.layer { kind = first s.layer.kind kind } })

-- ROUTING or CUT, numbered by the layers that are there: the 33rd new one is refused. Where the kind doesn't count its number is free
abbrev pub numbered_kind : Technology → State → (ℕ → LayerKind) → ℕ → Refusal → Turn State
numbered_kind tech s kind count limit =
    if is_some s.layer.kind || is_known tech s then takes_kind s (kind 0)
    else if nat_le 32 count then Refuse limit
    else takes_kind s (kind count)

-- TYPE t ;
unfoldable pub type_row : Technology → State → Key → Lexeme → Turn State
type_row tech s keys.Routing word = numbered_kind tech s (λ n. kinds.Routing n) (count_of is_routing tech s) (Limit Layers)
type_row tech s keys.Cut word = numbered_kind tech s (λ n. kinds.Cut n) (count_of is_cut tech s) (Limit Cuts)
type_row tech s key word = if is_name key then takes_kind s kinds.Other else refuse E03 word

-- WIDTH w ; where exactly one word stands before the `;`, and else read over
unfoldable pub width_row : State → Key → Lexeme → Turn State
width_row s keys.Semicolon word = ends s
width_row s keys.Quoted word = goes rows.Over s
width_row s _ word = goes rows.WidthEnd (record s { layer = record s.layer { pending = positive (length_read s.units word.bytes) } })

abbrev pub takes_width : State → Lexeme → Result ℤ Code → Turn State
takes_width s word (Err code) = refuse code word
takes_width s word (Ok width) = ends (record s { layer = record s.layer { width = first s.layer.width width } })

unfoldable pub width_end_row : State → Key → Lexeme → Turn State
width_end_row s keys.Semicolon word = takes_width s word s.layer.pending
width_end_row s _ word = goes rows.Over s

abbrev pub routes : Option LayerKind → Bool
routes (Some (kinds.Routing number)) = true
routes _ = false

abbrev pub kind_or_other : Option LayerKind → LayerKind
kind_or_other (Some kind) = kind
kind_or_other None = kinds.Other

-- its width counts for routing layers alone
abbrev pub width_of : LayerDraft → ℤ
width_of draft = if routes draft.kind then width_or_0 draft.width else pos 0
  where
    width_or_0 : Option ℤ → ℤ
    width_or_0 (Some width) = width
    width_or_0 None = pos 0

abbrev pub made_layer : State → Layer
made_layer s = record { name = s.name; kind = kind_or_other s.layer.kind; width = width_of s.layer }

-- a layer whose name is there already is left out
abbrev pub with_layer : Technology → State → State
with_layer tech s = record s { block = blocks.Top; layers = if is_known tech s then s.layers else s.layers ++ made_layer s ∷ []; name = [] }

unfoldable pub end_of_layer : Technology → State → Key → Lexeme → Turn State
end_of_layer tech s key word =
    if not (is_name key && bytes_eq word.bytes s.name) then refuse E03 word
    else if routes s.layer.kind && is_none s.layer.width then Refuse (At E16 s.line)
    else ends (with_layer tech s)
