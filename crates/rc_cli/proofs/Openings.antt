-- The opening of a session, from its files to its first command.
use Rattle.std.proofs.Common.{◌≡◌, ◌≤◌, ◌+◌, ◌*◌, ◌∷◌, [], ℕ, List, ap, ◌∙◌, refl, sym, subst, arith}
use Rattle.std.specs.Prelude.{IsTrue, IfOk, Contains, Some, None, Result, Ok, Err}
use Rattle.std.proofs.Math.Path.{fun_ext}
use Rattle.std.proofs.lemmas.List.Elements.{Contains-append_right}
use Rattle.rc_engine.specs.Engine.{Engine}
use Rattle.rc_engine.specs.Extraction.{extraction}
use Rattle.rc_engine.specs.Start.{grid_of}
use Rattle.rc_script.specs.declared.command.Command.{Command}
use Rattle.rc_script.specs.Rows.{script_outcome}
use Rattle.rc_session.specs.Cuts.{setting_of, state_of}
use Rattle.rc_session.specs.Sessions.{Setting, State}
use Rattle.rc_cli.specs.declared.stages.Placed.{Placed}
use Rattle.rc_cli.specs.declared.stop.Stop.{Stop}
use Rattle.rc_cli.specs.Command.{Inputs, Task, Extract, Verify, Session, Request, script_word, task_words, file_words}
use Rattle.rc_cli.specs.Outcome.{Texts, Course, Done, Reply, Opening, proceed, read_file, layout, extracted, opening, opening_with, ended, replied, session_opening, task_reply, outcome, passes, passes_for, passes_over, passes_of_opening, passes_of_task, passes_of_edits}
use Rattle.rc_cli.specs.Answers.{Shelf}
use Rattle.rc_cli.specs.Work.{Keeps, HasStopped, IsUnread, IsRefusedBy}
use Rattle.rc_cli.proofs.Courses.{stops-first, stops-later, stops-file, stops-refused, done-then, same-texts, told-too}
use Rattle.rc_cli.proofs.Orders.{orderly-layout}

-- ---- the words

pub is-session : (task : Task) (script : List ℕ) → script_word task ≡ Some script → task ≡ Session script
is-session Extract script is = cc
is-session (Verify spef) script is = cc
is-session (Session name) script is = let same : name ≡ script = cc in ap Session same

script-among : (asked : Request) (script : List ℕ) → asked.task ≡ Session script → Contains (file_words asked) script
script-among asked script is =
    subst (λ (t : Task). Contains (file_words (record asked { task = t })) script) (sym is)
    (Contains-append_right asked.inputs.lefs (asked.inputs.def ∷ asked.inputs.rules ∷ script ∷ []) script (2, omega arith, refl))

-- ---- what a session comes to

abbrev pub session_reply : Request → List ℕ → Texts → Course Reply
session_reply asked script texts = proceed (session_opening texts asked.inputs script) (λ opened. Done (replied opened))

abbrev pub outcome_of : Request → Texts → Course Reply
outcome_of asked texts = outcome texts asked

comes-to-session : (texts : Texts) (asked : Request) (script : List ℕ) → asked.task ≡ Session script → outcome texts asked ≡ session_reply asked script texts
unfolding outcome
comes-to-session texts asked script is = ap (task_reply texts asked.inputs) is

same-work : (asked : Request) (script : List ℕ) → asked.task ≡ Session script → outcome_of asked ≡ session_reply asked script
same-work asked script is = fun_ext (λ texts. comes-to-session texts asked script is)

as-session : (before after : Shelf) (asked : Request) (script : List ℕ) (why : Stop) → asked.task ≡ Session script
    → HasStopped before after (file_words asked) (λ texts. session_opening texts asked.inputs script) why → HasStopped before after (file_words asked) (outcome_of asked) why
as-session before after asked script why is stopped =
    subst (λ (f : Texts → Course Reply). HasStopped before after (file_words asked) f why) (sym (same-work asked script is))
    (stops-first before after (file_words asked) (λ texts. session_opening texts asked.inputs script) (λ texts opened. Done (replied opened)) why stopped)

-- the whole session is done where it was opened so
pub session-done : (before : Shelf) (asked : Request) (script : List ℕ) (opened : Opening) → script_word asked.task ≡ Some script
    → (IsTrue before.tells → session_opening before.texts asked.inputs script ≡ Done opened) → IsTrue before.tells → outcome before.texts asked ≡ Done (replied opened)
session-done before asked script opened is done tells =
    comes-to-session before.texts asked script (is-session asked.task script is)
    ∙ ap (λ (c : Course Opening). proceed c (λ opened. Done (replied opened))) (done tells)

-- ---- the opening

abbrev pub script_step : Request → List ℕ → Texts → Placed → Course Opening
script_step asked script texts placed = proceed (extracted asked.inputs.def placed) (λ spef. opening texts script placed)

opens-first : (before after : Shelf) (asked : Request) (script : List ℕ) (why : Stop)
    → HasStopped before after (file_words asked) (λ texts. layout texts asked.inputs) why → HasStopped before after (file_words asked) (λ texts. session_opening texts asked.inputs script) why
unfolding session_opening
opens-first before after asked script why stopped =
    stops-first before after (file_words asked) (λ texts. layout texts asked.inputs) (script_step asked script) why stopped

pub opening-stops-first : (before after : Shelf) (asked : Request) (script : List ℕ) (why : Stop) → script_word asked.task ≡ Some script
    → HasStopped before after (file_words asked) (λ texts. layout texts asked.inputs) why → HasStopped before after (file_words asked) (λ texts. outcome texts asked) why
opening-stops-first before after asked script why is stopped =
    as-session before after asked script why (is-session asked.task script is) (opens-first before after asked script why stopped)

opens-between : (before after : Shelf) (asked : Request) (script name : List ℕ) (placed : Placed) (why : Stop) → name ≡ asked.inputs.def
    → Keeps before after → (IsTrue before.tells → layout before.texts asked.inputs ≡ Done placed) → IsRefusedBy (extracted name placed) why
    → HasStopped before after (file_words asked) (λ texts. session_opening texts asked.inputs script) why
unfolding session_opening
opens-between before after asked script name placed why is keeps done refused =
    stops-later before after after (file_words asked) (λ texts. layout texts asked.inputs) (script_step asked script) placed why (orderly-layout asked.inputs) keeps done
    (stops-first after after (file_words asked) (λ texts. extracted asked.inputs.def placed) (λ texts spef. opening texts script placed) why
    (stops-refused after after (file_words asked) (extracted asked.inputs.def placed) why (subst (λ n. IsRefusedBy (extracted n placed) why) is refused)))

pub opening-stops-between : (before after : Shelf) (asked : Request) (script name : List ℕ) (placed : Placed) (why : Stop) → script_word asked.task ≡ Some script → name ≡ asked.inputs.def
    → Keeps before after → (IsTrue before.tells → layout before.texts asked.inputs ≡ Done placed) → IsRefusedBy (extracted name placed) why
    → HasStopped before after (file_words asked) (λ texts. outcome texts asked) why
opening-stops-between before after asked script name placed why is same keeps done refused =
    as-session before after asked script why (is-session asked.task script is) (opens-between before after asked script name placed why same keeps done refused)

opens-later : (before between after : Shelf) (asked : Request) (script name : List ℕ) (placed : Placed) (room : ℕ) (why : Stop) → asked.task ≡ Session script → name ≡ asked.inputs.def → room ≡ placed.room
    → Keeps before between → (IsTrue before.tells → layout before.texts asked.inputs ≡ Done placed) → extracted name placed ≡ Done (extraction placed.layout placed.rules)
    → IsUnread between after script (read_file between.texts script room script_outcome) why
    → HasStopped before after (file_words asked) (λ texts. session_opening texts asked.inputs script) why
unfolding session_opening
opens-later before between after asked script name placed room why task is left keeps done found unread =
    stops-later before between after (file_words asked) (λ texts. layout texts asked.inputs) (script_step asked script) placed why (orderly-layout asked.inputs) keeps done
    (subst (λ (c : Course _). HasStopped between after (file_words asked) (λ texts. proceed c (λ spef. opening texts script placed)) why)
    (sym found ∙ ap (λ n. extracted n placed) is)
    (stops-first between after (file_words asked) (λ texts. read_file texts script placed.room script_outcome) (λ texts read. Done (opening_with placed read.0)) why
    (stops-file between after (file_words asked) script placed.room script_outcome why (script-among asked script task)
    (subst (λ n. IsUnread between after script (read_file between.texts script n script_outcome) why) left unread))))

pub opening-stops-later : (before between after : Shelf) (asked : Request) (script name : List ℕ) (placed : Placed) (room : ℕ) (why : Stop) → script_word asked.task ≡ Some script → name ≡ asked.inputs.def → room ≡ placed.room
    → Keeps before between → (IsTrue before.tells → layout before.texts asked.inputs ≡ Done placed) → extracted name placed ≡ Done (extraction placed.layout placed.rules)
    → IsUnread between after script (read_file between.texts script room script_outcome) why
    → HasStopped before after (file_words asked) (λ texts. outcome texts asked) why
opening-stops-later before between after asked script name placed room why is same left keeps done found unread =
    as-session before after asked script why (is-session asked.task script is)
    (opens-later before between after asked script name placed room why (is-session asked.task script is) same left keeps done found unread)

-- ---- what is opened

-- the engine has what the session begins with
abbrev pub Has : Engine → Placed → Type 0
Has engine placed = (engine.layout ≡ placed.layout) × (engine.rules ≡ placed.rules) × (engine.frame ≡ grid_of placed.layout placed.rules) × (engine.touched ≡ 0)

abbrev pub opened_over : Engine → List Command → Opening
opened_over engine commands = record { setting = setting_of engine; state = state_of engine; commands = commands }

opened-is : (engine : Engine) (placed : Placed) (commands : List Command) → Has engine placed → opening_with placed commands ≡ opened_over engine commands
opened-is engine placed commands (layout, rules, grid, touched) = cc

pub opening-done : (before between : Shelf) (asked : Request) (script name : List ℕ) (placed : Placed) (room left : ℕ) (engine : Engine) (commands : List Command) → name ≡ asked.inputs.def → room ≡ placed.room
    → Keeps before between → (IsTrue before.tells → layout before.texts asked.inputs ≡ Done placed) → extracted name placed ≡ Done (extraction placed.layout placed.rules) → Has engine placed
    → (IsTrue between.tells → read_file between.texts script room script_outcome ≡ Done (commands, left))
    → IsTrue before.tells → session_opening before.texts asked.inputs script ≡ Done (opened_over engine commands)
unfolding session_opening
opening-done before between asked script name placed room left engine commands is same keeps done found has read =
    done-then before between (λ texts. layout texts asked.inputs) (script_step asked script) placed (opened_over engine commands) keeps done
    (λ tells. ap (λ c. proceed c (λ spef. opening between.texts script placed)) (ap (λ n. extracted n placed) (sym is) ∙ found)
    ∙ ap (λ c. proceed c (λ read. Done (opening_with placed read.0))) (ap (λ n. read_file between.texts script n script_outcome) (sym same) ∙ read tells)
    ∙ ap Done (opened-is engine placed commands has))

-- ---- passes

-- the passes of an opening are no more than all
pub opening-passes : (before : Shelf) (asked : Request) (placed : Placed) (first now : ℕ) → (IsTrue before.tells → layout before.texts asked.inputs ≡ Done placed) → now ≤ first + passes_for placed
    → IsTrue before.tells → now ≤ first + passes before.texts asked
unfolding passes
opening-passes before asked placed first now done most told =
    let is : passes_of_opening before.texts asked ≡ passes_for placed = ap passes_over (done told) in
    omega (arith, most, is)

-- nothing is drawn before there is a layout
pub no-passes : (before : Shelf) (asked : Request) (first now : ℕ) → now ≡ first → IsTrue before.tells → now ≤ first + passes before.texts asked
no-passes before asked first now none told = omega (arith, none)

pub session-passes : (before : Shelf) (asked : Request) (script : List ℕ) (placed : Placed) (opened : Opening) (first now : ℕ) → script_word asked.task ≡ Some script
    → (IsTrue before.tells → layout before.texts asked.inputs ≡ Done placed) → (IsTrue before.tells → session_opening before.texts asked.inputs script ≡ Done opened)
    → now ≡ first + passes_for placed → IsTrue before.tells → now + 2 * (ended opened).swept ≡ first + passes before.texts asked
unfolding passes
session-passes before asked script placed opened first now is done began drew told =
    let whole : passes_of_opening before.texts asked ≡ passes_for placed = ap passes_over (done told) in
    let edits : passes_of_task before.texts asked.inputs asked.task ≡ 2 * (ended opened).swept =
    ap (passes_of_task before.texts asked.inputs) (is-session asked.task script is) ∙ ap passes_of_edits (began told) in
    omega (arith, drew, whole, edits)

no-edits : (texts : Texts) (inputs : Inputs) (task : Task) → script_word task ≡ None → passes_of_task texts inputs task ≡ 0
no-edits texts inputs Extract none = refl
no-edits texts inputs (Verify spef) none = refl
no-edits texts inputs (Session script) none = cc

-- a run without a session draws those of its layout's windows
pub value-passes : {A E : Type 0} (r : Result A E) (before : Shelf) (asked : Request) (placed : Placed) (first now : ℕ) → script_word asked.task ≡ None
    → (IsTrue before.tells → layout before.texts asked.inputs ≡ Done placed) → now ≡ first + passes_for placed
    → IfOk r (λ _. IsTrue before.tells → now ≡ first + passes before.texts asked)
unfolding passes
value-passes (Ok value) before asked placed first now none done drew = λ told.
    let whole : passes_of_opening before.texts asked ≡ passes_for placed = ap passes_over (done told) in
    omega (arith, drew, whole, no-edits before.texts asked.inputs asked.task none)
value-passes (Err why) before asked placed first now none done drew = tt
