-- What a run comes to, from what its words ask for and from what the files hold.
use Rattle.std.specs.Prelude.{ℕ, ◌+◌, ◌-◌, ◌*◌, ◌^◌, Bool, false, List, Option, Some, None, Result, Ok, Err, length, fold, is_some, nat_lt, if◌then◌else◌}
use Rattle.rc_keys.specs.declared.code.Code.TheVariants.{E08}
use Rattle.rc_keys.specs.declared.code.Quantity.TheVariants.{Bytes}
use Rattle.rc_keys.specs.declared.fault.Refusal.{Refusal}
use Rattle.rc_keys.specs.declared.fault.Refusal.TheVariants.{At, Limit}
use Rattle.rc_lef.specs.declared.units.Units.{Units}
use Rattle.rc_lef.specs.Technology.{Technology, no_technology}
use Rattle.rc_lef.specs.Rows.{lef_outcome}
use Rattle.rc_def.specs.File.{def_outcome}
use Rattle.rc_rules.specs.Rows.{rules_outcome}
use Rattle.rc_layout.specs.Layouts.{linked}
use Rattle.rc_layout.specs.Refusals.{there}
use Rattle.rc_spef.specs.declared.value.Spef.{Spef}
use Rattle.rc_spef.specs.Rows.{spef_outcome}
use Rattle.rc_spef.specs.Text.{spef_text}
use Rattle.rc_windows.specs.Frames.{window_count}
use Rattle.rc_engine.specs.Start.{start_refusal, grid_of}
use Rattle.rc_engine.specs.Extraction.{extraction}
use Rattle.rc_script.specs.declared.command.Command.{Command}
use Rattle.rc_script.specs.Rows.{script_outcome}
use Rattle.rc_session.specs.Sessions.{Setting, State, Progress, session}
use Rattle.rc_session.specs.Sessions as sessions
use Rattle.rc_cli.specs.declared.stages.Drawn.{Drawn}
use Rattle.rc_cli.specs.declared.stages.Ruled.{Ruled}
use Rattle.rc_cli.specs.declared.stages.Placed.{Placed}
use Rattle.rc_cli.specs.Command.{Inputs, Task, Extract, Verify, Session, Request}
use Rattle.rc_cli.specs.Lines.{Names, no_names, names_of, refusal_line}
use Rattle.rc_cli.specs.Verdict.{verdict, verdict_text}

-- what the file of a name holds; nothing where there is none
abbrev pub Texts : Type 0
Texts = List ℕ → Option (List ℕ)

-- how far the work gets: it ends at the first file that isn't there, or at the first refusal with its line
pub data Course (A : Type 0) : Type 0 where
  Missing : (name : List ℕ) → Course A
  Refused : (line : List ℕ) → Course A
  Done : (value : A) → Course A

-- goes on where the work so far is done
abbrev pub proceed : {A B : Type 0} → Course A → (A → Course B) → Course B
proceed (Missing name) next = Missing name
proceed (Refused line) next = Refused line
proceed (Done value) next = next value

-- a value, or the refusal of a file by its line
abbrev pub settled : {A : Type 0} → Names → List ℕ → Result A Refusal → Course A
settled names file (Ok value) = Done value
settled names file (Err refusal) = Refused (refusal_line names file refusal)

-- a value that nothing refuses
abbrev pub unless_refused : {A : Type 0} → Names → List ℕ → Option Refusal → A → Course A
unless_refused names file None value = Done value
unless_refused names file (Some refusal) value = Refused (refusal_line names file refusal)

-- ---- reading a file

-- the most bytes that all files of a run may have
abbrev pub most_bytes : ℕ
most_bytes = 2 ^ 30

-- what a text within the room is read as, and how many bytes the files after it may have
abbrev pub formed : {A : Type 0} → List ℕ → ℕ → Result A Refusal → Course (A × ℕ)
formed name left outcome = proceed (settled no_names name outcome) (λ value. Done (value, left))

-- a file is read to its end before its first refused place is looked for, and more bytes than the room are refused
abbrev pub read_within : {A : Type 0} → List ℕ → ℕ → (List ℕ → Result A Refusal) → Option (List ℕ) → Course (A × ℕ)
read_within name room form None = Missing name
read_within name room form (Some text) =
    if nat_lt room (length text) then Refused (refusal_line no_names name (Limit Bytes))
    else formed name (room - length text) (form text)

abbrev pub read_file : {A : Type 0} → Texts → List ℕ → ℕ → (List ℕ → Result A Refusal) → Course (A × ℕ)
read_file texts name room form = read_within name room form (texts name)

-- ---- the order of work

-- the LEF files, one after another; each is read over the technology of those before it
abbrev pub next_lef : Texts → Course (Technology × ℕ) → List ℕ → Course (Technology × ℕ)
next_lef texts course name = proceed course (λ (tech, room). read_file texts name room (lef_outcome tech))

unfoldable pub technology : Texts → List (List ℕ) → Course (Technology × ℕ)
technology texts lefs = fold (next_lef texts) (Done (no_technology, most_bytes)) lefs

-- then the DEF file
unfoldable pub design : Texts → Inputs → Course Drawn
design texts inputs =
    proceed (technology texts inputs.lefs) (λ (tech, room).
    proceed (read_file texts inputs.def room def_outcome) (λ (design, room).
    Done (record { tech = tech; design = design; room = room })))

-- a technology without the units of a micron is refused at the UNITS line of the design
abbrev pub micron : Drawn → Result Units Refusal
micron drawn = there (At E08 drawn.design.units_line) drawn.tech.units

-- then the rule file
unfoldable pub ruled : Texts → Inputs → Course Ruled
ruled texts inputs =
    proceed (design texts inputs) (λ drawn.
    proceed (settled no_names inputs.def (micron drawn)) (λ units.
    proceed (read_file texts inputs.rules drawn.room (rules_outcome units drawn.tech)) (λ (rules, room).
    Done (record { tech = drawn.tech; design = drawn.design; rules = rules; room = room }))))

-- then the design is linked
unfoldable pub layout : Texts → Inputs → Course Placed
layout texts inputs =
    proceed (ruled texts inputs) (λ ruled.
    proceed (settled no_names inputs.def (linked ruled.tech ruled.design)) (λ layout.
    Done (record { layout = layout; rules = ruled.rules; room = ruled.room })))

-- a layout that nothing refuses is extracted: all its layers in use have rules, it keeps the limits, and it has no short
unfoldable pub extracted : List ℕ → Placed → Course Spef
extracted def placed =
    unless_refused (names_of placed.layout) def (start_refusal placed.layout placed.rules) (extraction placed.layout placed.rules)

-- ---- the task

-- what is written, and whether it says that two values differ
pub record Reply : Type 0 where
  pub text : List ℕ
  pub differs : Bool

abbrev pub written : Spef → Reply
written spef = record { text = spef_text spef; differs = false }

abbrev pub compared : Spef → Spef → Reply
compared spef file = record { text = verdict_text spef file; differs = is_some (verdict spef file) }

-- a session before its first command: what no edit changes, the layout, and the commands
pub record Opening : Type 0 where
  pub setting : Setting
  pub state : State
  pub commands : List Command

-- the grid of a session is that of its first layout
abbrev pub opening_with : Placed → List Command → Opening
opening_with placed commands = record {
  setting = record { rules = placed.rules; frame = grid_of placed.layout placed.rules };
  state = record { layout = placed.layout; touched = 0 };
  commands = commands;
}

-- the script is read last, whole
abbrev pub opening : Texts → List ℕ → Placed → Course Opening
opening texts script placed = proceed (read_file texts script placed.room script_outcome) (λ (commands, room). Done (opening_with placed commands))

-- a session behind its last command
abbrev pub ended : Opening → Progress
ended opened = session opened.setting opened.state opened.commands

abbrev pub replied : Opening → Reply
replied opened = record { text = sessions.written (ended opened); differs = false }

-- what a session over these files begins with
unfoldable pub session_opening : Texts → Inputs → List ℕ → Course Opening
session_opening texts inputs script =
    proceed (layout texts inputs) (λ placed.
    proceed (extracted inputs.def placed) (λ spef.
    opening texts script placed))

-- the extraction is written, or compared with a file that is read last
abbrev pub reply : Texts → Option (List ℕ) → ℕ → Spef → Course Reply
reply texts None room spef = Done (written spef)
reply texts (Some name) room spef = proceed (read_file texts name room spef_outcome) (λ (file, room). Done (compared spef file))

-- what the extraction of these files comes to, with the file that it is compared with
unfoldable pub value_reply : Texts → Inputs → Option (List ℕ) → Course Reply
value_reply texts inputs file =
    proceed (layout texts inputs) (λ placed.
    proceed (extracted inputs.def placed) (λ spef.
    reply texts file placed.room spef))

abbrev pub task_reply : Texts → Inputs → Task → Course Reply
task_reply texts inputs Extract = value_reply texts inputs None
task_reply texts inputs (Verify spef) = value_reply texts inputs (Some spef)
task_reply texts inputs (Session script) = proceed (session_opening texts inputs script) (λ opened. Done (replied opened))

-- what a request comes to over these files: its reply, the first refusal, or the first file that isn't there
unfoldable pub outcome : Texts → Request → Course Reply
outcome texts asked = task_reply texts asked.inputs asked.task

-- ---- sweeps

-- two for each window of the grid of a layout
unfoldable pub passes_for : Placed → ℕ
passes_for placed = 2 * window_count (grid_of placed.layout placed.rules)

-- those of the layout that the files link to
abbrev pub passes_over : Course Placed → ℕ
passes_over (Done placed) = passes_for placed
passes_over _ = 0

-- two for each window that an accepted edit touches
abbrev pub passes_of_edits : Course Opening → ℕ
passes_of_edits (Done opened) = 2 * (ended opened).swept
passes_of_edits _ = 0

abbrev pub passes_of_task : Texts → Inputs → Task → ℕ
passes_of_task texts inputs (Session script) = passes_of_edits (session_opening texts inputs script)
passes_of_task texts inputs _ = 0

abbrev pub passes_of_opening : Texts → Request → ℕ
passes_of_opening texts asked = passes_over (layout texts asked.inputs)

-- those of the opening, and those of a session's edits
unfoldable pub passes : Texts → Request → ℕ
passes texts asked = passes_of_opening texts asked + passes_of_task texts asked.inputs asked.task
