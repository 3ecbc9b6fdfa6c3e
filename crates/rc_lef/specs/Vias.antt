-- The rows of VIA.
use Rattle.std.specs.Prelude.{◌&&◌, ◌||◌, ◌++◌, ℕ, pos, Bool, true, false, Option, Some, None, is_some, is_none, List, [], ◌∷◌, if◌then◌else◌}
use Rattle.std.specs.List.{list_any}
use Rattle.std.specs.Str.{bytes_eq}
use Rattle.rc_geom.specs.declared.rect.Pt.{Pt}
use Rattle.rc_keys.specs.declared.code.Code.TheVariants.{E03}
use Rattle.rc_keys.specs.Lexemes.{Lexeme}
use Rattle.rc_keys.specs.Course.{Turn, Done, refuse}
use Rattle.rc_lef.specs.declared.key.Key.{Key}
use Rattle.rc_lef.specs.declared.key.Key.TheVariants as keys
use Rattle.rc_lef.specs.declared.state.Block.{Block}
use Rattle.rc_lef.specs.declared.state.Block.TheVariants as blocks
use Rattle.rc_lef.specs.declared.state.Form.TheVariants as forms
use Rattle.rc_lef.specs.declared.state.Home.{Home}
use Rattle.rc_lef.specs.declared.state.Home.TheVariants as homes
use Rattle.rc_lef.specs.declared.state.Row.TheVariants as rows
use Rattle.rc_lef.specs.declared.state.State.{State}
use Rattle.rc_lef.specs.declared.state.ViaDraft.{ViaDraft}
use Rattle.rc_lef.specs.declared.tech.LayerKind.{LayerKind}
use Rattle.rc_lef.specs.declared.usable.Array.{Array}
use Rattle.rc_lef.specs.declared.via.Via.{Via}
use Rattle.rc_lef.specs.Keys.{is_name}
use Rattle.rc_lef.specs.Technology.{Technology}
use Rattle.rc_lef.specs.Moves.{goes, ends, first, with_read, other_statement, layer_of}
use Rattle.rc_lef.specs.Operands.{count_at, whole_at}
use Rattle.rc_lef.specs.Numbers.{numbers_due, number_row}
use Rattle.rc_lef.specs.Usable.{unusable, drawn_via, made_via}

-- a via without statements
abbrev pub no_via : ViaDraft
no_via = record { layer = None; is_plain = true; rects = []; has_rule = false; cut_size = None; layers = None; spacing = None; enclosure = None; rows_columns = None }

-- ---- the rows

-- VIA v
unfoldable pub via_name_row : State → Home → Key → Lexeme → Turn State
via_name_row s home key word = if is_name key then Done (record s { block = blocks.Via home; row = rows.ViaHead; name = word.bytes; via = no_via }) else refuse E03 word

abbrev pub not_plain : State → State
not_plain s = record s { via = record s.via { is_plain = false } }

-- a statement of either form, one that makes the via unusable, or any other
unfoldable pub via_row : State → Key → Lexeme → Turn State
via_row s keys.Layer word = goes rows.ViaLayer s
via_row s keys.Rect word = if is_none s.via.layer then refuse E03 word else goes rows.ViaRect (record s { numbers = [] })
via_row s keys.End word = goes rows.End s
via_row s keys.Polygon word = goes rows.Over (not_plain s)
via_row s keys.Origin word = goes rows.Over (not_plain s)
via_row s keys.Offset word = goes rows.Over (not_plain s)
via_row s keys.Pattern word = goes rows.Over (not_plain s)
via_row s keys.ViaRule word = goes rows.ViaRule s
via_row s keys.CutSize word = numbers_due forms.CutSize s
via_row s keys.Layers word = goes rows.FirstLayer s
via_row s keys.CutSpacing word = numbers_due forms.CutSpacing s
via_row s keys.Enclosure word = numbers_due forms.Enclosure s
via_row s keys.RowCol word = goes rows.Rows s
via_row s key word = other_statement s key word

unfoldable pub via_stack_row : State → Key → Lexeme → Turn State
via_stack_row s keys.TopOfStackOnly word = ends s
via_stack_row s key word = via_row (record s { row = rows.Begin }) key word

unfoldable pub via_head_row : State → Key → Lexeme → Turn State
via_head_row s keys.Default word = Done (record s { row = rows.ViaStack })
via_head_row s key word = via_stack_row s key word

-- LAYER l ;
unfoldable pub via_layer_row : Technology → State → Key → Lexeme → Turn State
via_layer_row tech s key word = with_read word (layer_of tech s key word) (λ kind. goes rows.Due (record s { via = record s.via { layer = Some kind } }))

-- RECT [MASK n] x1 y1 x2 y2 ;
unfoldable pub via_rect_row : State → Key → Lexeme → Turn State
via_rect_row s keys.Mask word = goes rows.ViaMask s
via_rect_row s key word = number_row s forms.ViaRect key word

unfoldable pub via_mask_row : State → Key → Lexeme → Turn State
via_mask_row s key word = with_read word (whole_at key word.bytes) (λ _. goes (rows.Number forms.ViaRect) s)

-- VIARULE g ;
unfoldable pub via_rule_row : State → Key → Lexeme → Turn State
via_rule_row s key word = if is_name key then goes rows.Due (record s { via = record s.via { has_rule = true } }) else refuse E03 word

-- LAYERS b c t ;
unfoldable pub first_layer_row : Technology → State → Key → Lexeme → Turn State
first_layer_row tech s key word = with_read word (layer_of tech s key word) (λ kind. goes (rows.SecondLayer kind) s)

unfoldable pub second_layer_row : Technology → State → LayerKind → Key → Lexeme → Turn State
second_layer_row tech s below key word = with_read word (layer_of tech s key word) (λ kind. goes (rows.ThirdLayer below kind) s)

unfoldable pub third_layer_row : Technology → State → LayerKind → LayerKind → Key → Lexeme → Turn State
third_layer_row tech s below cut key word = with_read word (layer_of tech s key word) (λ kind. goes rows.Due (record s { via = record s.via { layers = first s.via.layers (below, cut, kind) } }))

-- ROWCOL rows columns ;
unfoldable pub rows_row : State → Key → Lexeme → Turn State
rows_row s key word = with_read word (count_at key word.bytes) (λ count. goes (rows.Columns count) s)

unfoldable pub columns_row : State → ℕ → Key → Lexeme → Turn State
columns_row s count key word = with_read word (count_at key word.bytes) (λ columns. goes rows.Due (record s { via = record s.via { rows_columns = first s.via.rows_columns (count, columns) } }))

-- ---- the via

-- a via in which any part of the generated form stands is a generated one
abbrev pub is_generated : ViaDraft → Bool
is_generated via = via.has_rule || (is_some via.cut_size || (is_some via.layers || (is_some via.spacing || (is_some via.enclosure || is_some via.rows_columns))))

abbrev pub array_of : Pt → Pt → Pt × Pt → ℕ × ℕ → Array
array_of cut space (first, third) (rows, columns) = record {
  cut_x = cut.x;
  cut_y = cut.y;
  space_x = space.x;
  space_y = space.y;
  first_x = first.x;
  first_y = first.y;
  third_x = third.x;
  third_y = third.y;
  rows = pos rows;
  columns = pos columns;
}

-- one row of one cut, where ROWCOL is missing
abbrev pub rows_or_1 : Option (ℕ × ℕ) → ℕ × ℕ
rows_or_1 None = (1, 1)
rows_or_1 (Some counts) = counts

-- all its other parts have to be there
abbrev pub generated : List ℕ → Bool → Option (ℕ × ℕ) → Bool → Option Pt → Option (LayerKind × LayerKind × LayerKind) → Option Pt → Option (Pt × Pt) → Via
generated name plain counts true (Some cut) (Some (first, second, third)) (Some space) (Some enclosure) = made_via name plain first second third (array_of cut space enclosure (rows_or_1 counts))
generated name plain counts _ _ _ _ _ = unusable name

unfoldable pub via_of : List ℕ → ViaDraft → Via
via_of name via =
    if is_generated via then generated name via.is_plain via.rows_columns via.has_rule via.cut_size via.layers via.spacing via.enclosure
    else drawn_via name via.is_plain via.rects

abbrev pub is_via : List ℕ → Via → Bool
is_via name via = bytes_eq name via.name

unfoldable pub knows_via : Technology → State → Bool
knows_via tech s = list_any (is_via s.name) tech.vias || list_any (is_via s.name) s.vias

abbrev pub block_of : Home → Block
block_of homes.Top = blocks.Top
block_of homes.Rule = blocks.Rule

-- a via whose name is there already is left out
abbrev pub with_via : Technology → Home → State → State
with_via tech home s = record s { block = block_of home; vias = if knows_via tech s then s.vias else s.vias ++ via_of s.name s.via ∷ []; name = []; via = no_via }

unfoldable pub end_of_via : Technology → Home → State → Key → Lexeme → Turn State
end_of_via tech home s key word = if is_name key && bytes_eq word.bytes s.name then ends (with_via tech home s) else refuse E03 word
