-- Why the work of a run stops, stage by stage.
use Rattle.std.specs.Prelude.{ℕ, ◌≡◌, ◌<◌, ◌≤◌, true, IsTrue, List, Some, Contains, length}
use Rattle.rc_io.specs.Causes.{Rose}
use Rattle.rc_keys.specs.declared.code.Quantity.TheVariants.{Bytes}
use Rattle.rc_keys.specs.declared.fault.Fault.{Fault as Failure}
use Rattle.rc_keys.specs.declared.fault.Fault.TheVariants as failure
use Rattle.rc_keys.specs.declared.fault.Refusal.TheVariants.{Limit}
use Rattle.rc_cli.specs.declared.stop.Stop.{Stop}
use Rattle.rc_cli.specs.declared.stop.Stop.TheVariants.{Refused, Fault, NoMemory}
use Rattle.rc_cli.specs.Lines.{Names, no_names, refusal_line, read_fault_line}
use Rattle.rc_cli.specs.Command.{Verify, Request}
use Rattle.rc_session.specs.Cuts.{setting_of, state_of}
use Rattle.rc_cli.specs.declared.opening.Opened.{Opened}
use Rattle.rc_cli.specs.Outcome.{Texts, Course, Missing, Reply, Opening}
use Rattle.rc_cli.specs.Outcome as course
use Rattle.rc_cli.specs.Answers.{Shelf, without}

-- what a call leaves of the files: they hold and tell what they did, and no count has fallen
pub record Keeps (before after : Shelf) : Type 0 where
  pub tells : after.tells ≡ before.tells
  pub texts : (name : List ℕ) → after.texts name ≡ before.texts name
  pub later : (name : List ℕ) → before.faults name ≤ after.faults name

-- why a part of the work stopped, that comes to this over any files: the first refusal by its line; or by its line a file
-- that failed, among these names, and the work gets to it. Want of memory has no cause
abbrev pub HasStopped : {A : Type 0} → Shelf → Shelf → List (List ℕ) → (Texts → Course A) → Stop → Type 0
HasStopped before after names work (Refused line) = IsTrue before.tells → work before.texts ≡ course.Refused line
HasStopped before after names work (Fault line) =
    (name : List ℕ) × (line ≡ read_fault_line name) × Contains names name × Rose (before.faults name) (after.faults name)
    × (IsTrue before.tells → work (without name before.texts) ≡ Missing name)
HasStopped before after names work NoMemory = Unit {0}

-- why a file isn't read as a value: the refusal that its reading comes to; or it failed
abbrev pub IsUnread : {A : Type 0} → Shelf → Shelf → List ℕ → Course A → Stop → Type 0
IsUnread before after name reading (Refused line) = IsTrue before.tells → reading ≡ course.Refused line
IsUnread before after name reading (Fault line) = (line ≡ read_fault_line name) × Rose (before.faults name) (after.faults name)
IsUnread before after name reading NoMemory = Unit {0}

-- why no text of a file was read: it is longer than the room; or it failed
abbrev pub IsTextless : Shelf → Shelf → List ℕ → ℕ → Stop → Type 0
IsTextless before after name room (Refused line) =
    (line ≡ refusal_line no_names name (Limit Bytes)) × (IsTrue before.tells → (text : List ℕ) × (before.texts name ≡ Some text) × (room < length text))
IsTextless before after name room (Fault line) = (line ≡ read_fault_line name) × Rose (before.faults name) (after.faults name)
IsTextless before after name room NoMemory = Unit {0}

-- what reads no file stops at its refusal alone
abbrev pub IsRefusedBy : {A : Type 0} → Course A → Stop → Type 0
IsRefusedBy work (Refused line) = work ≡ course.Refused line
IsRefusedBy work (Fault line) = ⊥
IsRefusedBy work NoMemory = Unit {0}

-- a fault, told by the line of its refusal
abbrev pub TellsFault : Names → List ℕ → Failure → Stop → Type 0
TellsFault names file (failure.Refused refusal) (Refused line) = line ≡ refusal_line names file refusal
TellsFault names file failure.NoMemory (Refused line) = ⊥
TellsFault names file fault (Fault line) = ⊥
TellsFault names file fault NoMemory = Unit {0}

-- a reply says that two values differ only where a comparison is asked for
abbrev pub OnlyVerifyDiffers : Request → Reply → Type 0
OnlyVerifyDiffers asked reply = reply.differs ≡ true → (spef : List ℕ) × (asked.task ≡ Verify spef)

-- what an opened session begins with
abbrev pub opened_as : Opened → Opening
opened_as opened = record { setting = setting_of opened.engine; state = state_of opened.engine; commands = opened.commands }
