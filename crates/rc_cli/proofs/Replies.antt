-- From a layout to the reply: what refuses it, what is read last, and what all comes to.
use Rattle.std.proofs.Common.{◌≡◌, ◌≤◌, ◌+◌, ◌*◌, ◌^◌, ◌∷◌, [], ℕ, List, ap, ◌∙◌, refl, sym, subst, arith, Bool, true, false, cond}
use Rattle.std.specs.Prelude.{IsTrue, Contains, Option, Some, None, Result, Ok, Err, IfOk, IfErr}
use Rattle.std.proofs.Math.Path.{fun_ext}
use Rattle.std.proofs.lemmas.List.Elements.{Contains-append_right}
use Rattle.rc_keys.specs.declared.fault.Fault.{Fault as Failure}
use Rattle.rc_keys.specs.declared.fault.Fault.TheVariants as failure
use Rattle.rc_layout.specs.Layouts.{Wired}
use Rattle.rc_spef.specs.declared.value.Spef.{Spef}
use Rattle.rc_spef.specs.Rows.{spef_outcome}
use Rattle.std.proofs.lemmas.Nat.{mul-le}
use Rattle.rc_windows.specs.declared.frame.Frame.{Frame}
use Rattle.rc_windows.specs.Frames.{IsFrame, window_count}
use Rattle.rc_engine.specs.Start.{start_refusal, grid_of, IsStartFault}
use Rattle.rc_engine.specs.Extraction.{extraction}
use Rattle.rc_cli.specs.declared.stages.Placed.{Placed}
use Rattle.rc_cli.specs.declared.stop.Stop.{Stop}
use Rattle.rc_cli.specs.declared.stop.Stop.TheVariants.{Refused, Fault, NoMemory}
use Rattle.rc_cli.specs.Command.{Inputs, Task, Extract, Verify, Session, Request, spef_word, script_word, task_words, file_words}
use Rattle.rc_cli.specs.Lines.{names_of}
use Rattle.rc_cli.specs.Outcome as course
use Rattle.rc_cli.specs.Outcome.{Texts, Course, Done, Reply, proceed, unless_refused, read_file, layout, extracted, written, compared, reply, value_reply, task_reply, outcome, passes_for}
use Rattle.rc_cli.specs.Answers.{Shelf, reply_status}
use Rattle.rc_cli.specs.Work.{Keeps, HasStopped, IsUnread, IsRefusedBy, TellsFault}
use Rattle.rc_cli.proofs.Courses.{stops-first, stops-later, stops-file, stops-refused, done-then}
use Rattle.rc_cli.proofs.Orders.{orderly-layout}

-- ---- the extraction

start-refuses-it : (def : List ℕ) (placed : Placed) (fault : Failure) (why : Stop) → IsStartFault placed.layout placed.rules fault → TellsFault (names_of placed.layout) def fault why
    → IsRefusedBy (extracted def placed) why
unfolding extracted
start-refuses-it def placed (failure.Refused refusal) (Refused line) refused is =
    ap (λ o. unless_refused (names_of placed.layout) def o (extraction placed.layout placed.rules)) refused ∙ ap course.Refused (sym is)
start-refuses-it def placed failure.NoMemory (Refused line) refused is = absurd is
start-refuses-it def placed (failure.Refused refusal) (Fault line) refused is = absurd is
start-refuses-it def placed failure.NoMemory (Fault line) refused is = absurd is
start-refuses-it def placed fault NoMemory refused is = tt

pub start-refuses : (def : List ℕ) (placed : Placed) (back : Wired) (fault : Failure) (why : Stop) → back ≡ placed.layout → IsStartFault placed.layout placed.rules fault
    → TellsFault (names_of back) def fault why → IsRefusedBy (extracted def placed) why
start-refuses def placed back fault why same refused tells =
    start-refuses-it def placed fault why refused (subst (λ (w : Wired). TellsFault (names_of w) def fault why) same tells)

pub start-accepts : (def : List ℕ) (placed : Placed) → start_refusal placed.layout placed.rules ≡ None → extracted def placed ≡ Done (extraction placed.layout placed.rules)
unfolding extracted
start-accepts def placed none = ap (λ o. unless_refused (names_of placed.layout) def o (extraction placed.layout placed.rules)) none

-- ---- the task's own file

task-word : (task : Task) (name : List ℕ) → spef_word task ≡ Some name → Contains (task_words task) name
task-word Extract name is = cc
task-word (Verify spef) name is = let same : spef ≡ name = cc in (0, omega arith, same)
task-word (Session script) name is = cc

spef-among : (asked : Request) (name : List ℕ) → spef_word asked.task ≡ Some name → Contains (file_words asked) name
spef-among asked name is =
    Contains-append_right asked.inputs.lefs (asked.inputs.def ∷ asked.inputs.rules ∷ task_words asked.task) name
    (Contains-append_right (asked.inputs.def ∷ asked.inputs.rules ∷ []) (task_words asked.task) name (task-word asked.task name is))

-- the comparison with a file
abbrev pub comparing : Texts → List ℕ → ℕ → Spef → Course Reply
comparing texts name room spef = proceed (read_file texts name room spef_outcome) (λ read. Done (compared spef read.0))

pub reply-stops : (before after : Shelf) (asked : Request) (name : List ℕ) (room : ℕ) (spef : Spef) (why : Stop) → Some name ≡ spef_word asked.task
    → IsUnread before after name (read_file before.texts name room spef_outcome) why → HasStopped before after (file_words asked) (λ texts. reply texts (spef_word asked.task) room spef) why
reply-stops before after asked name room spef why is unread =
    subst (λ (o : Option (List ℕ)). HasStopped before after (file_words asked) (λ texts. reply texts o room spef) why) is
    (stops-first before after (file_words asked) (λ texts. read_file texts name room spef_outcome) (λ texts read. Done (compared spef read.0)) why
    (stops-file before after (file_words asked) name room spef_outcome why (spef-among asked name (sym is)) unread))

pub reply-compared : (before : Shelf) (asked : Request) (name : List ℕ) (room left : ℕ) (spef file : Spef) → Some name ≡ spef_word asked.task
    → (IsTrue before.tells → read_file before.texts name room spef_outcome ≡ Done (file, left))
    → IsTrue before.tells → reply before.texts (spef_word asked.task) room spef ≡ Done (compared spef file)
reply-compared before asked name room left spef file is read told =
    ap (λ o. reply before.texts o room spef) (sym is) ∙ ap (λ c. proceed c (λ read. Done (compared spef read.0))) (read told)

pub reply-written : (texts : Texts) (task : Task) (room : ℕ) (spef : Spef) → None ≡ spef_word task → reply texts (spef_word task) room spef ≡ Done (written spef)
reply-written texts task room spef is = ap (λ o. reply texts o room spef) (sym is)

-- the status 6 is that of a reply that says so
pub is-different : (told : Reply) (status : ℕ) → status ≡ 6 → status ≡ reply_status told → told.differs ≡ true
is-different told status six is = decided told.differs status six is
  where
    decided : (differs : Bool) (n : ℕ) → n ≡ 6 → n ≡ cond differs 6 0 → differs ≡ true
    decided true n one other = refl
    decided false n one other = absurd (omega (arith, one, other))

-- ---- all together

-- a request for no session comes to what its extraction does
valued : (texts : Texts) (inputs : Inputs) (task : Task) → script_word task ≡ None → task_reply texts inputs task ≡ value_reply texts inputs (spef_word task)
valued texts inputs Extract none = refl
valued texts inputs (Verify spef) none = refl
valued texts inputs (Session script) none = cc

abbrev pub value_of : Request → Texts → Course Reply
value_of asked texts = value_reply texts asked.inputs (spef_word asked.task)

abbrev pub outcome_of : Request → Texts → Course Reply
outcome_of asked texts = outcome texts asked

comes-to-value : (texts : Texts) (asked : Request) → script_word asked.task ≡ None → outcome texts asked ≡ value_of asked texts
unfolding outcome
comes-to-value texts asked none = valued texts asked.inputs asked.task none

same-work : (asked : Request) → script_word asked.task ≡ None → outcome_of asked ≡ value_of asked
same-work asked none = fun_ext (λ texts. comes-to-value texts asked none)

as-value : (before after : Shelf) (asked : Request) (why : Stop) → script_word asked.task ≡ None
    → HasStopped before after (file_words asked) (value_of asked) why → HasStopped before after (file_words asked) (outcome_of asked) why
as-value before after asked why none stopped =
    subst (λ (f : Texts → Course Reply). HasStopped before after (file_words asked) f why) (sym (same-work asked none)) stopped

abbrev pub reply_step : Request → Texts → Placed → Spef → Course Reply
reply_step asked texts placed spef = reply texts (spef_word asked.task) placed.room spef

abbrev pub extract_step : Request → Texts → Placed → Course Reply
extract_step asked texts placed = proceed (extracted asked.inputs.def placed) (reply_step asked texts placed)

value-stops-first : (before after : Shelf) (asked : Request) (why : Stop)
    → HasStopped before after (file_words asked) (λ texts. layout texts asked.inputs) why → HasStopped before after (file_words asked) (value_of asked) why
unfolding value_reply
value-stops-first before after asked why stopped =
    stops-first before after (file_words asked) (λ texts. layout texts asked.inputs) (extract_step asked) why stopped

pub outcome-stops-first : (before after : Shelf) (asked : Request) (why : Stop) → script_word asked.task ≡ None
    → HasStopped before after (file_words asked) (λ texts. layout texts asked.inputs) why → HasStopped before after (file_words asked) (λ texts. outcome texts asked) why
outcome-stops-first before after asked why none stopped = as-value before after asked why none (value-stops-first before after asked why stopped)

value-stops-between : (before after : Shelf) (asked : Request) (name : List ℕ) (placed : Placed) (why : Stop) → name ≡ asked.inputs.def
    → Keeps before after → (IsTrue before.tells → layout before.texts asked.inputs ≡ Done placed) → IsRefusedBy (extracted name placed) why
    → HasStopped before after (file_words asked) (value_of asked) why
unfolding value_reply
value-stops-between before after asked name placed why is keeps done refused =
    stops-later before after after (file_words asked) (λ texts. layout texts asked.inputs) (extract_step asked) placed why (orderly-layout asked.inputs) keeps done
    (stops-first after after (file_words asked) (λ texts. extracted asked.inputs.def placed) (λ texts spef. reply_step asked texts placed spef) why
    (stops-refused after after (file_words asked) (extracted asked.inputs.def placed) why (subst (λ n. IsRefusedBy (extracted n placed) why) is refused)))

pub outcome-stops-between : (before after : Shelf) (asked : Request) (name : List ℕ) (placed : Placed) (why : Stop) → script_word asked.task ≡ None → name ≡ asked.inputs.def
    → Keeps before after → (IsTrue before.tells → layout before.texts asked.inputs ≡ Done placed) → IsRefusedBy (extracted name placed) why
    → HasStopped before after (file_words asked) (λ texts. outcome texts asked) why
outcome-stops-between before after asked name placed why none is keeps done refused =
    as-value before after asked why none (value-stops-between before after asked name placed why is keeps done refused)

value-stops-later : (before between after : Shelf) (asked : Request) (name : List ℕ) (placed : Placed) (room : ℕ) (spef : Spef) (why : Stop) → name ≡ asked.inputs.def → room ≡ placed.room
    → Keeps before between → (IsTrue before.tells → layout before.texts asked.inputs ≡ Done placed) → extracted name placed ≡ Done spef
    → HasStopped between after (file_words asked) (λ texts. reply texts (spef_word asked.task) room spef) why
    → HasStopped before after (file_words asked) (value_of asked) why
unfolding value_reply
value-stops-later before between after asked name placed room spef why is left keeps done found stopped =
    stops-later before between after (file_words asked) (λ texts. layout texts asked.inputs) (extract_step asked) placed why (orderly-layout asked.inputs) keeps done
    (subst (λ (c : Course Spef). HasStopped between after (file_words asked) (λ texts. proceed c (reply_step asked texts placed)) why)
    (sym found ∙ ap (λ n. extracted n placed) is)
    (subst (λ n. HasStopped between after (file_words asked) (λ texts. reply texts (spef_word asked.task) n spef) why) left stopped))

value-done : (before between : Shelf) (asked : Request) (name : List ℕ) (placed : Placed) (room : ℕ) (spef : Spef) (told : Reply) → name ≡ asked.inputs.def → room ≡ placed.room
    → Keeps before between → (IsTrue before.tells → layout before.texts asked.inputs ≡ Done placed) → extracted name placed ≡ Done spef
    → (IsTrue between.tells → reply between.texts (spef_word asked.task) room spef ≡ Done told)
    → IsTrue before.tells → value_of asked before.texts ≡ Done told
unfolding value_reply
value-done before between asked name placed room spef told is left keeps done found replied =
    done-then before between (λ texts. layout texts asked.inputs) (extract_step asked) placed told keeps done
    (λ tells. ap (λ c. proceed c (reply_step asked between.texts placed)) (ap (λ n. extracted n placed) (sym is) ∙ found)
    ∙ ap (λ n. reply between.texts (spef_word asked.task) n spef) (sym left) ∙ replied tells)

-- what the reply's call answers, seen from the start of the work
pub outcome-tells : (r : Result Reply Stop) (before between : Shelf) (asked : Request) (name : List ℕ) (placed : Placed) (room : ℕ) (spef : Spef) → script_word asked.task ≡ None
    → name ≡ asked.inputs.def → room ≡ placed.room
    → Keeps before between → (IsTrue before.tells → layout before.texts asked.inputs ≡ Done placed) → extracted name placed ≡ Done spef
    → IfOk r (λ told. IsTrue between.tells → reply between.texts (spef_word asked.task) room spef ≡ Done told) → IfOk r (λ told. IsTrue before.tells → outcome before.texts asked ≡ Done told)
outcome-tells (Ok told) before between asked name placed room spef none is left keeps done found replied = λ tells.
    comes-to-value before.texts asked none ∙ value-done before between asked name placed room spef told is left keeps done found replied tells
outcome-tells (Err why) before between asked name placed room spef none is left keeps done found replied = tt

pub outcome-stops : (r : Result Reply Stop) (before between after : Shelf) (asked : Request) (name : List ℕ) (placed : Placed) (room : ℕ) (spef : Spef) → script_word asked.task ≡ None
    → name ≡ asked.inputs.def → room ≡ placed.room
    → Keeps before between → (IsTrue before.tells → layout before.texts asked.inputs ≡ Done placed) → extracted name placed ≡ Done spef
    → IfErr r (HasStopped between after (file_words asked) (λ texts. reply texts (spef_word asked.task) room spef)) → IfErr r (HasStopped before after (file_words asked) (λ texts. outcome texts asked))
outcome-stops (Ok told) before between after asked name placed room spef none is left keeps done found stopped = tt
outcome-stops (Err why) before between after asked name placed room spef none is left keeps done found stopped =
    as-value before after asked why none (value-stops-later before between after asked name placed room spef why is left keeps done found stopped)

-- ---- passes

-- so many were drawn, or at most so many
pub drew : (placed : Placed) (before after : ℕ) → after ≡ before + 2 * window_count (grid_of placed.layout placed.rules) → after ≡ before + passes_for placed
unfolding passes_for
drew placed before after is = is

pub drew_within : (placed : Placed) (before after : ℕ) → after ≤ before + 2 * window_count (grid_of placed.layout placed.rules) → after ≤ before + passes_for placed
unfolding passes_for
drew_within placed before after is = is

-- a grid has at most 2^20 windows
pub drew_few : (frame grid : Frame) (before after : ℕ) → after ≡ before + 2 * window_count grid → frame ≡ grid → IsFrame frame → after ≤ before + 2 ^ 21
drew_few frame grid before after drew same framed =
    let is = subst IsFrame same framed in
    let few = mul-le grid.up.count grid.across.count 1024 1024 is.up.few is.across.few in
    omega (arith, drew, few)
