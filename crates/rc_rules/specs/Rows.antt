-- The rows of rule files: what a token does, by what is read so far and the row that reads it.
use Rattle.std.specs.Prelude.{◌+◌, ◌*◌, ◌==◌, ◌&&◌, ◌++◌, ℕ, zero, suc, Bool, false, not, Option, Some, None, is_some, Result, Ok, Err, List, [], ◌∷◌, codes, length, nat_le, nat_lt, position, slice_set, unwrap_or, if◌then◌else◌}
use Rattle.std.specs.Str.{bytes_eq}
use Rattle.rc_fixed.specs.Numeral.{is_decimal}
use Rattle.rc_keys.specs.declared.code.Code.TheVariants.{E03, E04, E05, E06, E07, E12, E16}
use Rattle.rc_keys.specs.declared.fault.Refusal.{Refusal}
use Rattle.rc_keys.specs.declared.fault.Refusal.TheVariants.{At}
use Rattle.rc_keys.specs.declared.token.Mode.TheVariants as mode
use Rattle.rc_keys.specs.Lexemes.{Lexeme, words_of}
use Rattle.rc_keys.specs.Course.{Turn, More, Done, Close, refuse, Reading, Read, Refuses, Unfinished, reading}
use Rattle.rc_lef.specs.declared.units.Units.{Units}
use Rattle.rc_lef.specs.Technology.{Technology}
use Rattle.rc_rules.specs.declared.key.Key.{Key}
use Rattle.rc_rules.specs.declared.key.Key.TheVariants as keys
use Rattle.rc_rules.specs.declared.layer.LayerValues.{LayerValues}
use Rattle.rc_rules.specs.declared.state.Stage.{Stage}
use Rattle.rc_rules.specs.declared.state.Stage.TheVariants as stages
use Rattle.rc_rules.specs.declared.state.Row.{Row}
use Rattle.rc_rules.specs.declared.state.Row.TheVariants as rows
use Rattle.rc_rules.specs.declared.state.Progress.{Progress}
use Rattle.rc_rules.specs.declared.state.State.{State}
use Rattle.rc_rules.specs.Keys.{key_of, is_name, is_quoted}
use Rattle.rc_rules.specs.Numbers.{length_of, share_of, resistance_of}
use Rattle.rc_rules.specs.Scales.{rises}
use Rattle.rc_rules.specs.Layers.{routing_named, cut_named, routing_count, cut_count}
use Rattle.rc_rules.specs.LookUp.{is_for}
use Rattle.rc_rules.specs.Blocks.{no_values, is_full, is_complete}
use Rattle.rc_rules.specs.RuleFile.{RuleFile, layer_in, cut_in}

-- the statement goes on in a row
abbrev pub goes : Row → State → Turn State
goes row s = More (record s { row = row })

-- the statement is complete
abbrev pub ends : State → Turn State
ends s = Done (record s { row = rows.Begin })

-- a `;` is due
unfoldable pub due_row : State → Key → Lexeme → Turn State
due_row s keys.Semicolon word = ends s
due_row s _ word = refuse E03 word

-- a quoted token is no number
abbrev pub unquoted : Key → Option ℕ → Option ℕ
unquoted keys.Quoted number = None
unquoted _ number = number

-- ---- the heading

unfoldable pub heading_row : State → Key → Lexeme → Turn State
heading_row s keys.RcxRules word = goes rows.Version s
heading_row s _ word = refuse E03 word

abbrev pub headed : State → State
headed s = record s { progress = record s.progress { stage = stages.Entries } }

unfoldable pub version_row : State → Key → Lexeme → Turn State
version_row s key word =
    if is_quoted key then refuse E03 word
    else if bytes_eq word.bytes (codes "1") then goes rows.Due (headed s)
    else if is_decimal word.bytes then refuse E04 word
    else refuse E03 word

-- ---- between the blocks

unfoldable pub entry_row : State → Key → Lexeme → Turn State
entry_row s keys.Layer word = goes rows.LayerName s
entry_row s keys.Via word = goes rows.ViaName s
entry_row s keys.Contact word = if is_some s.progress.contact then refuse E07 word else goes rows.Contact s
entry_row s keys.End word = goes rows.End s
entry_row s _ word = refuse E03 word

abbrev pub opens : State → ℕ → State
opens s number = record s { progress = record s.progress { stage = stages.Widths; number = number; block = no_values } }

abbrev pub takes_layer : State → Lexeme → Option ℕ → Turn State
takes_layer s word None = refuse E06 word
takes_layer s word (Some number) = if is_some (layer_in s.progress.layers number) then refuse E07 word else goes rows.Due (opens s number)

unfoldable pub layer_name_row : Technology → State → Key → Lexeme → Turn State
layer_name_row tech s key word = if is_name key then takes_layer s word (routing_named tech word.bytes) else refuse E03 word

abbrev pub takes_cut : State → Lexeme → Option ℕ → Turn State
takes_cut s word None = refuse E06 word
takes_cut s word (Some number) = if is_some (cut_in s.progress.cuts number) then refuse E07 word else goes rows.ViaNumber (record s { cut = number })

unfoldable pub via_name_row : Technology → State → Key → Lexeme → Turn State
via_name_row tech s key word = if is_name key then takes_cut s word (cut_named tech word.bytes) else refuse E03 word

abbrev pub with_cut : State → ℕ → State
with_cut s resistance = record s { progress = record s.progress { cuts = slice_set s.progress.cuts s.cut (Some resistance) } }

abbrev pub takes_via : State → Lexeme → Option ℕ → Turn State
takes_via s word None = refuse E05 word
takes_via s word (Some resistance) = goes rows.Due (with_cut s resistance)

unfoldable pub via_number_row : State → Key → Lexeme → Turn State
via_number_row s key word = takes_via s word (unquoted key (resistance_of word.bytes))

abbrev pub with_contact : State → ℕ → State
with_contact s resistance = record s { progress = record s.progress { contact = Some resistance } }

abbrev pub takes_contact : State → Lexeme → Option ℕ → Turn State
takes_contact s word None = refuse E05 word
takes_contact s word (Some resistance) = goes rows.Due (with_contact s resistance)

unfoldable pub contact_row : State → Key → Lexeme → Turn State
contact_row s key word = takes_contact s word (unquoted key (resistance_of word.bytes))

unfoldable pub end_of_rules : State → Key → Lexeme → Turn State
end_of_rules s keys.Rules word = goes rows.Close s
end_of_rules s _ word = refuse E03 word

unfoldable pub close_row : State → Key → Lexeme → Turn State
close_row s keys.Semicolon word = Close s
close_row s _ word = refuse E03 word

-- ---- WIDTHS and DISTS

unfoldable pub widths_row : State → Key → Lexeme → Turn State
widths_row s keys.Widths word = More (record s { row = rows.Widths; steps = [] })
widths_row s _ word = refuse E03 word

unfoldable pub distances_row : State → Key → Lexeme → Turn State
distances_row s keys.Dists word = More (record s { row = rows.Distances; steps = [] })
distances_row s _ word = refuse E03 word

-- the next length of a list of at most so many
abbrev pub takes_step : ℕ → State → Lexeme → Option ℕ → Turn State
takes_step most s word None = refuse E05 word
takes_step most s word (Some step) = if nat_lt (length s.steps) most && rises (s.steps ++ step ∷ []) then More (record s { steps = s.steps ++ step ∷ [] }) else refuse E12 word

abbrev pub with_widths : State → State
with_widths s = record s { progress = record s.progress { stage = stages.Distances; block = record s.progress.block { widths = s.steps } }; steps = [] }

abbrev pub with_distances : State → State
with_distances s = record s { progress = record s.progress { stage = stages.Resistances; block = record s.progress.block { distances = s.steps } }; steps = [] }

unfoldable pub width_row : Units → State → Key → Lexeme → Turn State
width_row units s keys.Semicolon word = if nat_le 1 (length s.steps) then ends (with_widths s) else refuse E12 word
width_row units s key word = takes_step 16 s word (unquoted key (length_of units word.bytes))

unfoldable pub distance_row : Units → State → Key → Lexeme → Turn State
distance_row units s keys.Semicolon word = if nat_le 1 (length s.steps) then ends (with_distances s) else refuse E12 word
distance_row units s key word = takes_step 32 s word (unquoted key (length_of units word.bytes))

-- ---- RES and ROW

unfoldable pub resistances_row : State → Key → Lexeme → Turn State
resistances_row s keys.Res word = More (record s { row = rows.Resistances; numbers = [] })
resistances_row s _ word = refuse E03 word

-- the next number of a list of at most so many
abbrev pub takes_number : ℕ → State → Lexeme → Option ℕ → Turn State
takes_number most s word None = refuse E05 word
takes_number most s word (Some number) = if nat_lt (length s.numbers) most then More (record s { numbers = s.numbers ++ number ∷ [] }) else refuse E12 word

abbrev pub with_resistances : State → State
with_resistances s = record s { progress = record s.progress { stage = stages.Tables; block = record s.progress.block { resistances = s.numbers } }; numbers = [] }

unfoldable pub resistance_row : Units → State → Key → Lexeme → Turn State
resistance_row units s keys.Semicolon word = if length s.numbers == length s.progress.block.widths then ends (with_resistances s) else refuse E12 word
resistance_row units s key word = takes_number (length s.progress.block.widths) s word (unquoted key (share_of units word.bytes))

-- how many numbers a row has
abbrev pub columns : LayerValues → ℕ
columns values = 2 * length values.distances + 1

abbrev pub with_row : State → State
with_row s = record s { progress = record s.progress { block = record s.progress.block { rows = s.progress.block.rows ++ s.numbers ∷ [] } }; numbers = [] }

unfoldable pub number_row : Units → State → Key → Lexeme → Turn State
number_row units s keys.Semicolon word = if length s.numbers == columns s.progress.block then ends (with_row s) else refuse E12 word
number_row units s key word = takes_number (columns s.progress.block) s word (unquoted key (share_of units word.bytes))

-- ---- tables

unfoldable pub table_row : State → Key → Lexeme → Turn State
table_row s keys.Row word =
    if not (is_full s.progress.block) then More (record s { row = rows.Numbers; numbers = [] })
    else if length s.progress.block.pairs == 0 then refuse E03 word
    else refuse E12 word
table_row s keys.Table word = if is_full s.progress.block && nat_lt (length s.progress.block.pairs) 256 then goes rows.Under s else refuse E12 word
table_row s keys.End word = if is_full s.progress.block then goes rows.End s else refuse E12 word
table_row s _ word = refuse E03 word

unfoldable pub under_row : State → Key → Lexeme → Turn State
under_row s keys.Under word = goes rows.UnderLayer s
under_row s _ word = refuse E03 word

unfoldable pub over_row : State → Key → Lexeme → Turn State
over_row s keys.Over word = goes rows.OverLayer s
over_row s _ word = refuse E03 word

abbrev pub takes_under : State → Lexeme → Option ℕ → Turn State
takes_under s word None = refuse E06 word
takes_under s word (Some number) = if nat_lt number s.progress.number then goes rows.Over (record s { under = Some number }) else refuse E12 word

unfoldable pub under_layer_row : Technology → State → Key → Lexeme → Turn State
under_layer_row tech s keys.Nothing word = goes rows.Over (record s { under = None })
under_layer_row tech s key word = if is_name key then takes_under s word (routing_named tech word.bytes) else refuse E03 word

abbrev pub with_pair : State → Option ℕ → State
with_pair s over = record s { progress = record s.progress { block = record s.progress.block { pairs = s.progress.block.pairs ++ record { under = s.under; over = over } ∷ [] } } }

unfoldable pub takes_pair : State → Lexeme → Option ℕ → Turn State
takes_pair s word over =
    if is_some (position (is_for s.under over) s.progress.block.pairs) then refuse E07 word
    else if nat_lt (length s.progress.block.pairs) 256 then goes rows.Due (with_pair s over)
    else refuse E12 word

abbrev pub takes_over : State → Lexeme → Option ℕ → Turn State
takes_over s word None = refuse E06 word
takes_over s word (Some number) = if nat_lt s.progress.number number then takes_pair s word (Some number) else refuse E12 word

unfoldable pub over_layer_row : Technology → State → Key → Lexeme → Turn State
over_layer_row tech s keys.Nothing word = takes_pair s word None
over_layer_row tech s key word = if is_name key then takes_over s word (routing_named tech word.bytes) else refuse E03 word

abbrev pub closes_layer : State → State
closes_layer s = record s { progress = record s.progress { stage = stages.Entries; layers = slice_set s.progress.layers s.progress.number (Some s.progress.block); block = no_values } }

unfoldable pub end_of_layer : State → Key → Lexeme → Turn State
end_of_layer s keys.Layer word = if is_complete s.progress.block then goes rows.Due (closes_layer s) else refuse E12 word
end_of_layer s _ word = refuse E03 word

-- ---- all rows

abbrev pub begin_in : Stage → State → Key → Lexeme → Turn State
begin_in stages.Heading s key word = heading_row s key word
begin_in stages.Entries s key word = entry_row s key word
begin_in stages.Widths s key word = widths_row s key word
begin_in stages.Distances s key word = distances_row s key word
begin_in stages.Resistances s key word = resistances_row s key word
begin_in stages.Tables s key word = table_row s key word

abbrev pub end_in : Stage → State → Key → Lexeme → Turn State
end_in stages.Tables s key word = end_of_layer s key word
end_in _ s key word = end_of_rules s key word

abbrev pub row_in : Units → Technology → Row → State → Key → Lexeme → Turn State
row_in units tech rows.Begin s key word = begin_in s.progress.stage s key word
row_in units tech rows.Due s key word = due_row s key word
row_in units tech rows.End s key word = end_in s.progress.stage s key word
row_in units tech rows.Close s key word = close_row s key word
row_in units tech rows.Version s key word = version_row s key word
row_in units tech rows.LayerName s key word = layer_name_row tech s key word
row_in units tech rows.Widths s key word = width_row units s key word
row_in units tech rows.Distances s key word = distance_row units s key word
row_in units tech rows.Resistances s key word = resistance_row units s key word
row_in units tech rows.Under s key word = under_row s key word
row_in units tech rows.UnderLayer s key word = under_layer_row tech s key word
row_in units tech rows.Over s key word = over_row s key word
row_in units tech rows.OverLayer s key word = over_layer_row tech s key word
row_in units tech rows.Numbers s key word = number_row units s key word
row_in units tech rows.ViaName s key word = via_name_row tech s key word
row_in units tech rows.ViaNumber s key word = via_number_row s key word
row_in units tech rows.Contact s key word = contact_row s key word

-- what a token does
unfoldable pub rules_turn : Units → Technology → State → Lexeme → Turn State
rules_turn units tech s word = row_in units tech s.row s (key_of word) word

-- a rule file ends at END RULES alone
abbrev pub rules_may_end : State → Bool
rules_may_end s = false

-- ---- a whole file

-- nothing, so many times
abbrev pub nothing : {A : Type 0} → ℕ → List (Option A)
nothing zero = []
nothing (suc count) = None ∷ nothing count

abbrev pub no_progress : Technology → Progress
no_progress tech = record { stage = stages.Heading; layers = nothing (routing_count tech); cuts = nothing (cut_count tech); contact = None; number = 0; block = no_values }

abbrev pub rules_begin : Technology → State
rules_begin tech = record { progress = no_progress tech; row = rows.Begin; cut = 0; under = None; steps = []; numbers = [] }

-- what the statements of a file say; a contact has no resistance where the file doesn't say one
abbrev pub rules_in : Units → Progress → RuleFile
rules_in units progress = record { units = units; layers = progress.layers; cuts = progress.cuts; contact = unwrap_or progress.contact 0 }

abbrev pub outcome_of : Units → Reading State → Result RuleFile Refusal
outcome_of units (Read s) = Ok (rules_in units s.progress)
outcome_of units (Refuses refusal) = Err refusal
outcome_of units (Unfinished begun last) = Err (At E16 last)

-- what a rule file comes to over a technology: its rules, or its first refused place
unfoldable pub rules_outcome : Units → Technology → List ℕ → Result RuleFile Refusal
rules_outcome units tech text = outcome_of units (reading (rules_turn units tech) rules_may_end (rules_begin tech) (words_of mode.Lef text))
