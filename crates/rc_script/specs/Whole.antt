-- A script as a relation: commands of items, one after the other, up to `END ;` or to its end.
use Rattle.std.specs.Prelude.{◌≡◌, ◌↔◌, ◌++◌, ◌⊎◌, ℕ, List, [], Option, None, Result, Ok, Err}
use Rattle.rc_keys.specs.declared.code.Code.{Code}
use Rattle.rc_keys.specs.declared.fault.Fault.{Fault}
use Rattle.rc_keys.specs.declared.fault.Fault.TheVariants as faults
use Rattle.rc_keys.specs.declared.token.Mode.TheVariants as mode
use Rattle.rc_keys.specs.Lexemes.{Lexeme, Remaining, words_of}
use Rattle.rc_keys.specs.Phrases.{InTurn}
use Rattle.rc_wire.specs.Items.{IsStatement, IsLast}
use Rattle.rc_script.specs.declared.command.Command.{Command}
use Rattle.rc_script.specs.declared.draft.Draft.{Draft}
use Rattle.rc_script.specs.Means.{nothing_read}
use Rattle.rc_script.specs.Rows.{script_format, script_outcome}

-- what stands behind the last command: nothing, and no fault, or `END ;` and whatever follows
abbrev pub IsEnd : Draft → List Lexeme → Option (Code × ℕ) → Draft → Type 0
IsEnd before rest fault after = ((rest ≡ []) × (fault ≡ None) × (after ≡ before)) ⊎ IsLast script_format before rest after

-- the tokens are a script, and those are its commands
pub record IsScript (text : Remaining) (commands : List Command) : Type 0 where
  pub front : List Lexeme
  pub rest : List Lexeme
  pub parts : text.words ≡ front ++ rest
  pub mid : Draft
  pub statements : InTurn (IsStatement script_format) nothing_read front mid
  pub read : Draft
  pub end : IsEnd mid rest text.fault read
  pub says : commands ≡ read.commands

-- the law of the reader: a text is accepted exactly where it is a script, and gives the commands of that
abbrev pub AcceptsScripts : Type 0
AcceptsScripts = (text : List ℕ) (commands : List Command) → (script_outcome text ≡ Ok commands) ↔ IsScript (words_of mode.Lef text) commands

-- a text has the commands of one script
abbrev pub ScriptsSayOne : Type 0
ScriptsSayOne = (text : List ℕ) (first second : List Command) → IsScript (words_of mode.Lef text) first → IsScript (words_of mode.Lef text) second → first ≡ second

-- what is a script is read as that, but for want of memory
abbrev pub ReadsAs : Result (List Command) Fault → List Command → Type 0
ReadsAs (Ok read) commands = read ≡ commands
ReadsAs (Err fault) commands = fault ≡ faults.NoMemory
