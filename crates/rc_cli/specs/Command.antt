-- The command lines that are listed.
use Rattle.std.specs.Prelude.{ℕ, Bool, false, not, ◌==◌, ◌&&◌, ◌||◌, nat_le, List, [], ◌∷◌, ◌++◌, length, Option, Some, None, codes, if◌then◌else◌}
use Rattle.std.specs.Fmt.{decimal}
use Rattle.std.specs.List.{find, list_all, range_with_len}
use Rattle.std.specs.Str.{bytes_eq}
use Rattle.rc_cli.specs.declared.command.Task.{Task as KeptTask}
use Rattle.rc_cli.specs.declared.command.Task.TheVariants as kept

-- the files that a design is read from, by their names
pub record Inputs : Type 0 where
  pub rules : List ℕ
  pub def : List ℕ
  pub lefs : List (List ℕ)

-- what is done with these files: their extraction is written, or compared with a SPEF file, or the edits of a script are made
pub data Task : Type 0 where
  Extract : Task
  Verify : (spef : List ℕ) → Task
  Session : (script : List ℕ) → Task

pub record Request : Type 0 where
  pub task : Task
  pub workers : ℕ
  pub inputs : Inputs

-- ---- words

-- a file word isn't empty and doesn't begin with a dash
abbrev pub is_file_word : List ℕ → Bool
is_file_word [] = false
is_file_word (first ∷ rest) = not (first == 45)

-- a script may be the standard input, whose name is a dash
abbrev pub is_script_word : List ℕ → Bool
is_script_word word = is_file_word word || bytes_eq word (codes "-")

-- the number from 1 to most whose plain decimal a word is
unfoldable pub number_up_to : ℕ → List ℕ → Option ℕ
number_up_to most word = find (λ number. bytes_eq (decimal number) word) (range_with_len 1 most)

-- how many workers there may be, and how many LEF files
abbrev pub most_workers : ℕ
most_workers = 64

abbrev pub most_lefs : ℕ
most_lefs = 64

-- `RULES DEF LEF..`
abbrev pub inputs_of : List (List ℕ) → Option Inputs
inputs_of (rules ∷ def ∷ lefs) =
    if list_all is_file_word (rules ∷ def ∷ lefs) && nat_le 1 (length lefs) && nat_le (length lefs) most_lefs
    then Some (record { rules = rules; def = def; lefs = lefs }) else None
inputs_of _ = None

-- ---- commands

-- this task by so many workers over these files, where the words tell both
abbrev pub request_with : Task → Option ℕ → Option Inputs → Option Request
request_with task (Some workers) (Some inputs) = Some (record { task = task; workers = workers; inputs = inputs })
request_with task _ _ = None

-- a task, and the words `W RULES DEF LEF..` without the task's own file
abbrev pub request_for : Task → List ℕ → List (List ℕ) → Option Request
request_for task workers files = request_with task (number_up_to most_workers workers) (inputs_of files)

-- `W RULES DEF LEF..`
abbrev pub extract_of : List (List ℕ) → Option Request
extract_of (workers ∷ files) = request_for Extract workers files
extract_of [] = None

-- `W SPEF RULES DEF LEF..`
abbrev pub verify_of : List (List ℕ) → Option Request
verify_of (workers ∷ spef ∷ files) = if is_file_word spef then request_for (Verify spef) workers files else None
verify_of _ = None

-- `W SCRIPT RULES DEF LEF..`
abbrev pub session_of : List (List ℕ) → Option Request
session_of (workers ∷ script ∷ files) = if is_script_word script then request_for (Session script) workers files else None
session_of _ = None

-- what the words ask for; nothing where they have no listed form
unfoldable pub request_of : List (List ℕ) → Option Request
request_of (command ∷ words) =
    if bytes_eq command (codes "extract") then extract_of words
    else (if bytes_eq command (codes "verify") then verify_of words
    else (if bytes_eq command (codes "session") then session_of words else None))
request_of [] = None

-- ---- the files of a request

-- the file that the extraction is compared with
abbrev pub spef_word : Task → Option (List ℕ)
spef_word Extract = None
spef_word (Verify spef) = Some spef
spef_word (Session script) = None

-- the script of a session
abbrev pub script_word : Task → Option (List ℕ)
script_word Extract = None
script_word (Verify spef) = None
script_word (Session script) = Some script

-- the task's own file, if it has one
abbrev pub task_words : Task → List (List ℕ)
task_words Extract = []
task_words (Verify spef) = spef ∷ []
task_words (Session script) = script ∷ []

-- all files in the order of work: each LEF, the DEF, the rules, and at last the task's own
abbrev pub file_words : Request → List (List ℕ)
file_words request = request.inputs.lefs ++ request.inputs.def ∷ request.inputs.rules ∷ task_words request.task

-- ---- what the code keeps

abbrev pub task_seen : KeptTask → Task
task_seen kept.Extract = Extract
task_seen (kept.Verify spef) = Verify spef.now
task_seen (kept.Session script) = Session script.now
