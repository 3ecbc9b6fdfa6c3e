-- The rows of NONDEFAULTRULE.
use Rattle.std.specs.Prelude.{◌&&◌, ◌||◌, ◌++◌, ℕ, Bool, List, [], ◌∷◌, if◌then◌else◌}
use Rattle.std.specs.List.{list_any}
use Rattle.std.specs.Str.{bytes_eq}
use Rattle.rc_keys.specs.declared.code.Code.TheVariants.{E03}
use Rattle.rc_keys.specs.Lexemes.{Lexeme}
use Rattle.rc_keys.specs.Course.{Turn, refuse}
use Rattle.rc_lef.specs.declared.key.Key.{Key}
use Rattle.rc_lef.specs.declared.key.Key.TheVariants as keys
use Rattle.rc_lef.specs.declared.ndr.Ndr.{Ndr}
use Rattle.rc_lef.specs.declared.state.Block.TheVariants as blocks
use Rattle.rc_lef.specs.declared.state.Form.TheVariants as forms
use Rattle.rc_lef.specs.declared.state.Home.TheVariants as homes
use Rattle.rc_lef.specs.declared.state.Row.TheVariants as rows
use Rattle.rc_lef.specs.declared.state.RuleDraft.{RuleDraft}
use Rattle.rc_lef.specs.declared.state.State.{State}
use Rattle.rc_lef.specs.declared.tech.LayerKind.TheVariants as kinds
use Rattle.rc_lef.specs.Keys.{is_name}
use Rattle.rc_lef.specs.Technology.{Technology}
use Rattle.rc_lef.specs.Moves.{goes, ends, with_read, other_statement, skips, layer_of}
use Rattle.rc_lef.specs.Numbers.{numbers_due}

-- a rule without statements
abbrev pub no_rule : RuleDraft
no_rule = record { layer = kinds.Other; widths = [] }

-- NONDEFAULTRULE r
unfoldable pub rule_name_row : State → Key → Lexeme → Turn State
rule_name_row s key word = if is_name key then ends (record s { block = blocks.Rule; outer = word.bytes; rule = no_rule }) else refuse E03 word

unfoldable pub rule_row : State → Key → Lexeme → Turn State
rule_row s keys.Layer word = goes rows.RuleLayer s
rule_row s keys.Via word = goes (rows.ViaName homes.Rule) s
rule_row s keys.Spacing word = skips s word.bytes
rule_row s keys.End word = goes rows.End s
rule_row s key word = other_statement s key word

-- LAYER l
unfoldable pub rule_layer_name_row : Technology → State → Key → Lexeme → Turn State
rule_layer_name_row tech s key word = with_read word (layer_of tech s key word) (λ kind. ends (record s { block = blocks.RuleLayer; name = word.bytes; rule = record s.rule { layer = kind } }))

unfoldable pub rule_layer_row : State → Key → Lexeme → Turn State
rule_layer_row s keys.Width word = numbers_due forms.RuleWidth s
rule_layer_row s keys.End word = goes rows.End s
rule_layer_row s key word = other_statement s key word

unfoldable pub end_of_rule_layer : State → Key → Lexeme → Turn State
end_of_rule_layer s key word = if is_name key && bytes_eq word.bytes s.name then ends (record s { block = blocks.Rule }) else refuse E03 word

-- ---- the rule

abbrev pub is_rule : List ℕ → Ndr → Bool
is_rule name rule = bytes_eq name rule.name

unfoldable pub knows_rule : Technology → State → Bool
knows_rule tech s = list_any (is_rule s.outer) tech.rules || list_any (is_rule s.outer) s.rules

abbrev pub rule_of : List ℕ → RuleDraft → Ndr
rule_of name rule = record { name = name; widths = rule.widths }

-- a rule whose name is there already is left out
abbrev pub with_rule : Technology → State → State
with_rule tech s = record s { block = blocks.Top; rules = if knows_rule tech s then s.rules else s.rules ++ rule_of s.outer s.rule ∷ []; outer = []; rule = no_rule }

unfoldable pub end_of_rule : Technology → State → Key → Lexeme → Turn State
end_of_rule tech s key word = if is_name key && bytes_eq word.bytes s.outer then ends (with_rule tech s) else refuse E03 word
