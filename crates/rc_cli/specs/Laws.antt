-- What is known of outcomes.
use Rattle.std.specs.Prelude.{ℕ, ◌≡◌, Bool, false, List, ◌∷◌, Some}
use Rattle.rc_script.specs.declared.command.Command.{Command}
use Rattle.rc_script.specs.declared.command.Command.TheVariants.{Spef}
use Rattle.rc_session.specs.Sessions.{State, answer, session}
use Rattle.rc_cli.specs.declared.stages.Placed.{Placed}
use Rattle.rc_cli.specs.Command.{Inputs, Extract, Request, request_of}
use Rattle.rc_cli.specs.Outcome.{Texts, Course, Done, Opening, layout, outcome, session_opening}

-- two listed command lines that differ in their second word alone, which is the number of workers, come to the same
abbrev pub WorkersChangeNothing : Type 0
WorkersChangeNothing = (texts : Texts) (command few many : List ℕ) (files : List (List ℕ)) (one other : Request)
    → request_of (command ∷ few ∷ files) ≡ Some one → request_of (command ∷ many ∷ files) ≡ Some other
    → outcome texts one ≡ outcome texts other

-- the state of a session behind some commands
abbrev pub state_behind : Opening → List Command → State
state_behind opened first = (session opened.setting opened.state first).state

-- the text that SPEF gives behind some commands of a session is what `extract` with one worker writes over any files whose layout is the one that the
-- accepted edits have left, by the same rules
abbrev pub TextsAreFresh : Type 0
TextsAreFresh = (texts other : Texts) (inputs again : Inputs) (script : List ℕ) (opened : Opening) (first : List Command) (placed : Placed)
    → session_opening texts inputs script ≡ Done opened
    → layout other again ≡ Done placed → placed.layout ≡ (state_behind opened first).layout → placed.rules ≡ opened.setting.rules
    → outcome other (record { task = Extract; workers = 1; inputs = again })
    ≡ Done (record { text = (answer opened.setting (state_behind opened first) Spef).reply; differs = false })
