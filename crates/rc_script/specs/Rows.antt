-- A script, read token by token, and what it comes to.
use Rattle.std.specs.Prelude.{ℕ, Bool, true, Option, Some, None, Result, Ok, Err, List}
use Rattle.rc_keys.specs.declared.code.Code.{Code}
use Rattle.rc_keys.specs.declared.code.Code.TheVariants.{E03}
use Rattle.rc_keys.specs.declared.fault.Refusal.{Refusal}
use Rattle.rc_keys.specs.declared.fault.Refusal.TheVariants.{At}
use Rattle.rc_keys.specs.declared.token.Mode.TheVariants as mode
use Rattle.rc_keys.specs.Lexemes.{Lexeme, words_of}
use Rattle.rc_keys.specs.Course.{Turn, Reading, Read, Refuses, Unfinished, line_or, reading}
use Rattle.rc_wire.specs.declared.operands.Operands.{Operands}
use Rattle.rc_wire.specs.Parts.{nothing}
use Rattle.rc_wire.specs.Items.{Format, item_turn}
use Rattle.rc_script.specs.declared.command.Command.{Command}
use Rattle.rc_script.specs.declared.draft.Draft.{Draft}
use Rattle.rc_script.specs.declared.item.ScriptItem.{ScriptItem}
use Rattle.rc_script.specs.declared.reader.State.{State}
use Rattle.rc_script.specs.Begins.{begins}
use Rattle.rc_script.specs.Items.{form_of}
use Rattle.rc_script.specs.Means.{nothing_read, means}

-- a token is refused at its command's line
abbrev pub as_item : Lexeme → Result ScriptItem Code → Result (Option ScriptItem) Refusal
as_item word (Ok item) = Ok (Some item)
as_item word (Err code) = Err (At code word.line)

-- the format of a script: which item a token begins, how it is written, and what it says. `*` is the last point of a path
abbrev pub script_format : Format Draft ScriptItem
script_format = record { begins = λ v key word. as_item word (begins v key word); form = form_of; last = λ v. v.wiring.last; means = means }

-- ---- token by token

abbrev pub state_of : Draft → Option ScriptItem → ℕ → Operands → State
state_of draft item place said = record { draft = draft; item = item; place = place; said = said }

-- what a token does
unfoldable pub script_turn : State → Lexeme → Turn State
script_turn s word = item_turn state_of script_format s.draft s.item s.place s.said word

-- a script may end behind every command
abbrev pub script_may_end : State → Bool
script_may_end s = true

abbrev pub script_begin : State
script_begin = state_of nothing_read None 0 nothing

-- ---- a whole script

-- where a script ends inside a command, that is refused at the command's line
abbrev pub outcome_of : Reading State → Result (List Command) Refusal
outcome_of (Read s) = Ok s.draft.commands
outcome_of (Refuses refusal) = Err refusal
outcome_of (Unfinished begun last) = Err (At E03 (line_or begun last))

-- what a script comes to: its commands, or its first refused place
unfoldable pub script_outcome : List ℕ → Result (List Command) Refusal
script_outcome text = outcome_of (reading script_turn script_may_end script_begin (words_of mode.Lef text))
