-- A DEF file, read token by token, and what it comes to.
use Rattle.std.specs.Prelude.{ℕ, Bool, false, Option, Some, None, Result, Ok, Err, List}
use Rattle.rc_keys.specs.declared.code.Code.{Code}
use Rattle.rc_keys.specs.declared.code.Code.TheVariants.{E16}
use Rattle.rc_keys.specs.declared.fault.Refusal.{Refusal}
use Rattle.rc_keys.specs.declared.fault.Refusal.TheVariants.{At}
use Rattle.rc_keys.specs.declared.token.Mode.TheVariants as mode
use Rattle.rc_keys.specs.Lexemes.{Lexeme, words_of}
use Rattle.rc_keys.specs.Course.{Turn, Reading, Read, Refuses, Unfinished, reading}
use Rattle.rc_wire.specs.declared.operands.Operands.{Operands}
use Rattle.rc_wire.specs.Parts.{nothing}
use Rattle.rc_wire.specs.Items.{Format, item_turn}
use Rattle.rc_def.specs.declared.design.RawDesign.{RawDesign}
use Rattle.rc_def.specs.declared.draft.Draft.{Draft}
use Rattle.rc_def.specs.declared.item.DefItem.{DefItem}
use Rattle.rc_def.specs.declared.item.Stage.{Stage}
use Rattle.rc_def.specs.declared.item.Stage.TheVariants as stages
use Rattle.rc_def.specs.declared.reader.State.{State}
use Rattle.rc_def.specs.Begins.{begins}
use Rattle.rc_def.specs.Drafts.{nothing_read, design_of}
use Rattle.rc_def.specs.Items.{form_of}
use Rattle.rc_def.specs.Means.{means}

-- a refused token has its statement's line; a wrong word behind END has that of END
abbrev pub refused_at : Draft → Lexeme → Code → Refusal
refused_at v word E16 = At E16 word.line
refused_at v word code = At code (line_in v.stage)
  where
    line_in : Stage → ℕ
    line_in stages.EndOfFile = v.line
    line_in _ = word.line

abbrev pub as_item : Draft → Lexeme → Result DefItem Code → Result (Option DefItem) Refusal
as_item v word (Ok item) = Ok (Some item)
as_item v word (Err code) = Err (refused_at v word code)

-- the format of a DEF file: which item a token begins, how it is written, and what it says. `*` is the last point of a path
abbrev pub def_format : Format Draft DefItem
def_format = record { begins = λ v key word. as_item v word (begins v key word); form = form_of; last = λ v. v.wiring.last; means = means }

-- ---- token by token

abbrev pub state_of : Draft → Option DefItem → ℕ → Operands → State
state_of draft item place said = record { draft = draft; item = item; place = place; said = said }

-- what a token does
unfoldable pub def_turn : State → Lexeme → Turn State
def_turn s word = item_turn state_of def_format s.draft s.item s.place s.said word

-- END DESIGN must be there
abbrev pub def_may_end : State → Bool
def_may_end s = false

abbrev pub def_begin : State
def_begin = state_of nothing_read None 0 nothing

-- ---- a whole file

abbrev pub outcome_of : Reading State → Result RawDesign Refusal
outcome_of (Read s) = Ok (design_of s.draft.header s.draft.lists)
outcome_of (Refuses refusal) = Err refusal
outcome_of (Unfinished begun last) = Err (At E16 last)

-- what a DEF file comes to: its design, or its first refused place
unfoldable pub def_outcome : List ℕ → Result RawDesign Refusal
def_outcome text = outcome_of (reading def_turn def_may_end def_begin (words_of mode.Lef text))
