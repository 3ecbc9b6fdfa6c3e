-- The rows of LEF: what a token does, by the block that is open and the row that reads it.
use Rattle.std.specs.Prelude.{◌&&◌, ℕ, Bool, true, false, not, None, Result, Ok, Err, List, [], if◌then◌else◌}
use Rattle.std.specs.Str.{bytes_eq}
use Rattle.rc_keys.specs.declared.code.Code.TheVariants.{E03, E05, E16}
use Rattle.rc_keys.specs.declared.fault.Refusal.{Refusal}
use Rattle.rc_keys.specs.declared.fault.Refusal.TheVariants.{At}
use Rattle.rc_keys.specs.declared.token.Mode.TheVariants as mode
use Rattle.rc_keys.specs.Lexemes.{Lexeme, words_of}
use Rattle.rc_keys.specs.Course.{Turn, More, Close, refuse, Reading, Read, Refuses, Unfinished, reading}
use Rattle.rc_lef.specs.declared.key.Key.{Key}
use Rattle.rc_lef.specs.declared.key.Key.TheVariants as keys
use Rattle.rc_lef.specs.declared.state.Block.{Block}
use Rattle.rc_lef.specs.declared.state.Block.TheVariants as blocks
use Rattle.rc_lef.specs.declared.state.Home.TheVariants as homes
use Rattle.rc_lef.specs.declared.state.Row.{Row}
use Rattle.rc_lef.specs.declared.state.Row.TheVariants as rows
use Rattle.rc_lef.specs.declared.state.State.{State}
use Rattle.rc_lef.specs.Keys.{key_of, is_name, is_quoted}
use Rattle.rc_lef.specs.Technology.{Technology, with_more}
use Rattle.rc_lef.specs.Moves.{goes, ends, over_row, due_row, other_statement, skips}
use Rattle.rc_lef.specs.Numbers.{number_row, size_by_row}
use Rattle.rc_lef.specs.Layers.{units_row, end_of_units, database_row, microns_row, layer_name_row, layer_row, type_row, width_row, width_end_row, end_of_layer}
use Rattle.rc_lef.specs.Vias.{no_via, via_name_row, via_head_row, via_stack_row, via_row, via_layer_row, via_rect_row, via_mask_row, via_rule_row, first_layer_row, second_layer_row, third_layer_row, rows_row, columns_row, end_of_via}
use Rattle.rc_lef.specs.Rules.{no_rule, rule_name_row, rule_row, rule_layer_name_row, rule_layer_row, end_of_rule_layer, end_of_rule}
use Rattle.rc_lef.specs.Cells.{no_cell, no_pin, macro_name_row, macro_row, pin_name_row, pin_row, direction_row, tri_state_row, port_row, port_layer_row, port_rect_row, port_mask_row, end_of_pin, end_of_macro}

-- ---- between the blocks

unfoldable pub top_row : State → Key → Lexeme → Turn State
top_row s keys.Units word = ends (record s { block = blocks.Units })
top_row s keys.Layer word = goes rows.LayerName s
top_row s keys.Via word = goes (rows.ViaName homes.Top) s
top_row s keys.NonDefaultRule word = goes rows.RuleName s
top_row s keys.Macro word = goes rows.MacroName s
top_row s keys.ViaRule word = goes rows.SkipName s
top_row s keys.Site word = goes rows.SkipName s
top_row s keys.Array word = goes rows.SkipName s
top_row s keys.PropertyDefinitions word = skips s word.bytes
top_row s keys.Spacing word = skips s word.bytes
top_row s keys.BeginExt word = goes rows.SkipExt s
top_row s keys.End word = goes rows.End s
top_row s key word = other_statement s key word

unfoldable pub end_of_file : State → Key → Lexeme → Turn State
end_of_file s keys.Library word = Close s
end_of_file s _ word = refuse E03 word

-- ---- what is skipped, a statement of its own

unfoldable pub skip_name_row : State → Key → Lexeme → Turn State
skip_name_row s key word = if is_name key then skips s word.bytes else refuse E03 word

-- up to END and the word that `name` has
unfoldable pub skip_row : State → Key → Turn State
skip_row s keys.End = goes rows.SkipEnd s
skip_row s _ = goes rows.Skip s

unfoldable pub skip_end_row : State → Key → Lexeme → Turn State
skip_end_row s key word = if not (is_quoted key) && bytes_eq word.bytes s.name then ends s else skip_row s key

-- up to ENDEXT
unfoldable pub skip_ext_row : State → Key → Turn State
skip_ext_row s keys.EndExt = ends s
skip_ext_row s _ = More s

-- up to a statement that begins with END
unfoldable pub skip_over_row : State → Key → Turn State
skip_over_row s keys.Semicolon = goes rows.SkipStatements s
skip_over_row s _ = goes rows.SkipOver s

unfoldable pub skip_statements_row : State → Key → Turn State
skip_statements_row s keys.End = ends s
skip_statements_row s key = skip_over_row s key

-- ---- all rows

abbrev pub begin_in : Block → State → Key → Lexeme → Turn State
begin_in blocks.Top s key word = top_row s key word
begin_in blocks.Units s key word = units_row s key word
begin_in blocks.Layer s key word = layer_row s key word
begin_in (blocks.Via home) s key word = via_row s key word
begin_in blocks.Rule s key word = rule_row s key word
begin_in blocks.RuleLayer s key word = rule_layer_row s key word
begin_in blocks.Macro s key word = macro_row s key word
begin_in blocks.Pin s key word = pin_row s key word
begin_in blocks.Port s key word = port_row s key word

abbrev pub end_in : Technology → Block → State → Key → Lexeme → Turn State
end_in tech blocks.Top s key word = end_of_file s key word
end_in tech blocks.Units s key word = end_of_units s key word
end_in tech blocks.Layer s key word = end_of_layer tech s key word
end_in tech (blocks.Via home) s key word = end_of_via tech home s key word
end_in tech blocks.Rule s key word = end_of_rule tech s key word
end_in tech blocks.RuleLayer s key word = end_of_rule_layer s key word
end_in tech blocks.Macro s key word = end_of_macro tech s key word
end_in tech blocks.Pin s key word = end_of_pin s key word
end_in tech blocks.Port s key word = refuse E03 word

abbrev pub cell_part_in : Technology → Row → State → Key → Lexeme → Turn State
cell_part_in tech rows.RuleName s key word = rule_name_row s key word
cell_part_in tech rows.RuleLayer s key word = rule_layer_name_row tech s key word
cell_part_in tech rows.MacroName s key word = macro_name_row s key word
cell_part_in tech rows.SizeBy s key word = size_by_row s key word
cell_part_in tech rows.PinName s key word = pin_name_row s key word
cell_part_in tech rows.Direction s key word = direction_row s key word
cell_part_in tech rows.TriState s key word = tri_state_row s key word
cell_part_in tech rows.PortLayer s key word = port_layer_row tech s key word
cell_part_in tech rows.PortRect s key word = port_rect_row s key word
cell_part_in tech rows.PortMask s key word = port_mask_row s key word
cell_part_in tech _ s key word = refuse E03 word

abbrev pub via_part_in : Technology → Row → State → Key → Lexeme → Turn State
via_part_in tech (rows.ViaName home) s key word = via_name_row s home key word
via_part_in tech rows.ViaHead s key word = via_head_row s key word
via_part_in tech rows.ViaStack s key word = via_stack_row s key word
via_part_in tech rows.ViaLayer s key word = via_layer_row tech s key word
via_part_in tech rows.ViaRect s key word = via_rect_row s key word
via_part_in tech rows.ViaMask s key word = via_mask_row s key word
via_part_in tech rows.ViaRule s key word = via_rule_row s key word
via_part_in tech rows.FirstLayer s key word = first_layer_row tech s key word
via_part_in tech (rows.SecondLayer below) s key word = second_layer_row tech s below key word
via_part_in tech (rows.ThirdLayer below cut) s key word = third_layer_row tech s below cut key word
via_part_in tech rows.Rows s key word = rows_row s key word
via_part_in tech (rows.Columns count) s key word = columns_row s count key word
via_part_in tech row s key word = cell_part_in tech row s key word

abbrev pub skipping_in : Technology → Row → State → Key → Lexeme → Turn State
skipping_in tech rows.SkipName s key word = skip_name_row s key word
skipping_in tech rows.Skip s key word = skip_row s key
skipping_in tech rows.SkipEnd s key word = skip_end_row s key word
skipping_in tech rows.SkipExt s key word = skip_ext_row s key
skipping_in tech rows.SkipStatements s key word = skip_statements_row s key
skipping_in tech rows.SkipOver s key word = skip_over_row s key
skipping_in tech row s key word = via_part_in tech row s key word

abbrev pub row_in : Technology → Row → State → Key → Lexeme → Turn State
row_in tech rows.Begin s key word = begin_in s.block s key word
row_in tech rows.Over s key word = over_row s key
row_in tech rows.Due s key word = due_row s key word
row_in tech rows.End s key word = end_in tech s.block s key word
row_in tech (rows.Number form) s key word = number_row s form key word
row_in tech rows.Database s key word = database_row s key word
row_in tech rows.Microns s key word = microns_row s key word
row_in tech rows.LayerName s key word = layer_name_row s key word
row_in tech rows.Type s key word = type_row tech s key word
row_in tech rows.Width s key word = width_row s key word
row_in tech rows.WidthEnd s key word = width_end_row s key word
row_in tech row s key word = skipping_in tech row s key word

-- what a token does
unfoldable pub lef_turn : Technology → State → Lexeme → Turn State
lef_turn tech s word = row_in tech s.row s (key_of word) word

abbrev pub is_top : Block → Bool
is_top blocks.Top = true
is_top _ = false

abbrev pub is_begin : Row → Bool
is_begin rows.Begin = true
is_begin _ = false

-- a file may end where no block is open
abbrev pub lef_may_end : State → Bool
lef_may_end s = is_top s.block && is_begin s.row

-- ---- a whole file

abbrev pub lef_begin : Technology → State
lef_begin tech = record {
  units = tech.units;
  layers = [];
  vias = [];
  macros = [];
  rules = [];
  block = blocks.Top;
  row = rows.Begin;
  name = [];
  outer = [];
  line = 1;
  layer = record { kind = None; width = None; pending = Err E05 };
  via = no_via;
  rule = no_rule;
  cell = no_cell;
  pin = no_pin [];
  numbers = [];
}

-- the technology after a file
abbrev pub tech_with : Technology → State → Technology
tech_with tech s = with_more tech s.units s.layers s.vias s.macros s.rules

abbrev pub outcome_of : Technology → Reading State → Result Technology Refusal
outcome_of tech (Read s) = Ok (tech_with tech s)
outcome_of tech (Refuses refusal) = Err refusal
outcome_of tech (Unfinished begun last) = Err (At E16 last)

-- what a LEF file comes to over the technology before it: the technology after it, or its first refused place
unfoldable pub lef_outcome : Technology → List ℕ → Result Technology Refusal
lef_outcome tech text = outcome_of tech (reading (lef_turn tech) lef_may_end (lef_begin tech) (words_of mode.Lef text))
