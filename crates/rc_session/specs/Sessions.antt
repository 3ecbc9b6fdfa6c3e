-- A session of edits: what each command says, and the layout that the accepted edits have left.
use Rattle.std.specs.Prelude.{ℕ, ◌+◌, List, [], ◌∷◌, ◌++◌, Option, Some, None, Result, Ok, Err, fold, length, position, slice_get}
use Rattle.std.specs.List.{flat_map}
use Rattle.std.specs.Option.{option_map_or}
use Rattle.std.specs.Str.{bytes_eq}
use Rattle.rc_keys.specs.declared.code.Code.{Code}
use Rattle.rc_keys.specs.declared.code.Code.TheVariants.{E06}
use Rattle.rc_keys.specs.declared.fault.Refusal.{Refusal}
use Rattle.rc_wire.specs.declared.path.RawPath.{RawPath}
use Rattle.rc_rules.specs.RuleFile.{RuleFile}
use Rattle.rc_layout.specs.declared.net.Net.{Net}
use Rattle.rc_layout.specs.Layouts.{Wired}
use Rattle.rc_layout.specs.Refusals.{Linked}
use Rattle.rc_spef.specs.Text.{net_text, spef_text}
use Rattle.rc_windows.specs.declared.frame.Frame.{Frame}
use Rattle.rc_engine.specs.Start.{start_refusal}
use Rattle.rc_engine.specs.Edits.{edited, edit_windows}
use Rattle.rc_engine.specs.Extraction.{extraction}
use Rattle.rc_engine.specs.Names.{escaped_in}
use Rattle.rc_script.specs.declared.command.Command.{Command}
use Rattle.rc_script.specs.declared.command.Command.TheVariants.{Replace, Spef, Net as NetOf, Stat}
use Rattle.rc_session.specs.Replies.{refusal_code, replaced_line, refused_line, swept_line}

-- ---- states

-- what no edit changes: the rules, and the grid of the layout that the session began with
pub record Setting : Type 0 where
  pub rules : RuleFile
  pub frame : Frame

-- the layout that the accepted edits have left, and how many windows the last of them touched
pub record State : Type 0 where
  pub layout : Wired
  pub touched : ℕ

-- ---- edits

-- the layout that an edit makes, unless something refuses it
abbrev pub unless_refused : State → Option Refusal → Result State Refusal
unless_refused state None = Ok state
unless_refused state (Some refusal) = Err refusal

abbrev pub accepted : Setting → State → ℕ → List RawPath → Linked Wired → Result State Refusal
accepted setting state number paths (Err refusal) = Err refusal
accepted setting state number paths (Ok wired) =
    unless_refused (record { layout = wired; touched = length (edit_windows setting.frame state.layout number paths) }) (start_refusal wired setting.rules)

-- the state in which the net of that number has these paths, and all else is as it was; or the first refusal of the paths, or of
-- the layout with them
unfoldable pub edit : Setting → State → ℕ → List RawPath → Result State Refusal
edit setting state number paths = accepted setting state number paths (edited state.layout number paths)

-- a refusal is told by its code
abbrev pub coded : Result State Refusal → Result State Code
coded (Ok state) = Ok state
coded (Err refusal) = Err (refusal_code refusal)

-- the number of the net of that name; grounded nets have none
abbrev pub number_of : Wired → List ℕ → Option ℕ
number_of wired name = position (λ net. bytes_eq name net.name) wired.nets

abbrev pub edit_found : Setting → State → List RawPath → Option ℕ → Result State Code
edit_found setting state paths None = Err E06
edit_found setting state paths (Some number) = coded (edit setting state number paths)

-- the same by the net's name, which may be that of no net
abbrev pub edit_named : Setting → State → List ℕ → List RawPath → Result State Code
edit_named setting state name paths = edit_found setting state paths (number_of state.layout name)

-- ---- replies

-- what a command says, the state that it leaves, and how many windows are swept for it
pub record Answer : Type 0 where
  pub reply : List ℕ
  pub state : State
  pub swept : ℕ

-- it changes nothing
abbrev pub says : State → List ℕ → Answer
says state reply = record { reply = reply; state = state; swept = 0 }

abbrev pub after_edit : State → ℕ → List ℕ → Result State Code → Answer
after_edit state line name (Ok new) = record { reply = replaced_line (escaped_in state.layout.parts name); state = new; swept = new.touched }
after_edit state line name (Err code) = says state (refused_line line code)

-- the block of the net of that number, in the extraction of the layout
abbrev pub block : Setting → State → ℕ → Option ℕ → List ℕ
block setting state line None = refused_line line E06
block setting state line (Some number) = option_map_or net_text (slice_get (extraction state.layout setting.rules).nets number) []

abbrev pub answer : Setting → State → Command → Answer
answer setting state (Replace name paths line) = after_edit state line name (edit_named setting state name paths)
answer setting state Spef = says state (spef_text (extraction state.layout setting.rules))
answer setting state (NetOf name line) = says state (block setting state line (number_of state.layout name))
answer setting state Stat = says state (swept_line state.touched)

-- ---- sessions

-- how far a session is: its state, the replies so far, and how many windows were swept for its accepted edits
pub record Progress : Type 0 where
  pub state : State
  pub replies : List (List ℕ)
  pub swept : ℕ

abbrev pub beginning : State → Progress
beginning state = record { state = state; replies = []; swept = 0 }

abbrev pub with_answer : Progress → Answer → Progress
with_answer before given = record { state = given.state; replies = before.replies ++ given.reply ∷ []; swept = before.swept + given.swept }

abbrev pub step : Setting → Progress → Command → Progress
step setting before command = with_answer before (answer setting before.state command)

-- the commands one after the other
unfoldable pub session : Setting → State → List Command → Progress
session setting state commands = fold (step setting) (beginning state) commands

-- what a session writes
abbrev pub written : Progress → List ℕ
written progress = flat_map (λ reply. reply) progress.replies
