-- What is known of sessions.
use Rattle.std.specs.Prelude.{ℕ, ◌≡◌, List, ◌∷◌, ◌++◌, None, Err}
use Rattle.rc_keys.specs.declared.code.Code.{Code}
use Rattle.rc_wire.specs.declared.path.RawPath.{RawPath}
use Rattle.rc_script.specs.declared.command.Command.{Command}
use Rattle.rc_script.specs.declared.command.Command.TheVariants.{Replace}
use Rattle.rc_engine.specs.Start.{start_refusal}
use Rattle.rc_session.specs.Replies.{refused_line}
use Rattle.rc_session.specs.Sessions.{Setting, State, edit_named, session}

-- the replies to two lists of commands are those to the first, and those to the second in the state that the first leaves
abbrev pub RepliesFollow : Type 0
RepliesFollow = (setting : Setting) (state : State) (first second : List Command) →
    (session setting state (first ++ second)).replies ≡ (session setting state first).replies ++ (session setting (session setting state first).state second).replies

-- where an edit is refused behind some commands, the replies are those of the session without it, but for the line of its refusal
abbrev pub RefusedEditsChangeNothing : Type 0
RefusedEditsChangeNothing = (setting : Setting) (state : State) (first second : List Command) (name : List ℕ) (paths : List RawPath) (line : ℕ) (code : Code) →
    edit_named setting (session setting state first).state name paths ≡ Err code →
    (later : List (List ℕ))
    × ((session setting state (first ++ second)).replies ≡ (session setting state first).replies ++ later)
    × ((session setting state (first ++ Replace name paths line ∷ second)).replies ≡ (session setting state first).replies ++ refused_line line code ∷ later)

-- what nothing refuses at first is at no time refused: the layout that the accepted edits leave can be extracted anew
abbrev pub LayoutsStayAccepted : Type 0
LayoutsStayAccepted = (setting : Setting) (state : State) (commands : List Command) →
    start_refusal state.layout setting.rules ≡ None → start_refusal (session setting state commands).state.layout setting.rules ≡ None
