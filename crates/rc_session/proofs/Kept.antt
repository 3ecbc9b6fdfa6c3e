-- What nothing refuses at first is never refused.
use Rattle.std.proofs.Common.{◌≡◌, ℕ, List, [], ◌∷◌, ap, ◌∙◌, refl, sym, subst}
use Rattle.std.specs.Prelude.{fold, Option, Some, None, Result, Ok, Err}
use Rattle.rc_keys.specs.declared.code.Code.{Code}
use Rattle.rc_keys.specs.declared.fault.Refusal.{Refusal}
use Rattle.rc_wire.specs.declared.path.RawPath.{RawPath}
use Rattle.rc_rules.specs.RuleFile.{RuleFile}
use Rattle.rc_layout.specs.Layouts.{Wired}
use Rattle.rc_layout.specs.Refusals.{Linked}
use Rattle.rc_engine.specs.Start.{start_refusal}
use Rattle.rc_engine.specs.Edits.{edited}
use Rattle.rc_script.specs.declared.command.Command.{Command}
use Rattle.rc_script.specs.declared.command.Command.TheVariants.{Replace, Spef, Net, Stat}
use Rattle.rc_session.specs.Sessions.{Setting, State, Progress, beginning, step, answer, after_edit, unless_refused, accepted, edit, coded, edit_found, edit_named, number_of, session}
use Rattle.rc_session.specs.Laws.{LayoutsStayAccepted}

-- nothing refuses the state's layout
abbrev pub Fine : Setting → State → Type 0
Fine setting state = start_refusal state.layout setting.rules ≡ None

fine_unless : (setting : Setting) (made new : State) (refused : Option Refusal) → refused ≡ start_refusal made.layout setting.rules → unless_refused made refused ≡ Ok new → Fine setting new
fine_unless setting made new None is same = let equal : made ≡ new = cc in subst (Fine setting) equal (sym is)
fine_unless setting made new (Some refusal) is same = cc

fine_accepted : (setting : Setting) (state new : State) (number : ℕ) (paths : List RawPath) (linked : Linked Wired) → accepted setting state number paths linked ≡ Ok new → Fine setting new
fine_accepted setting state new number paths (Ok wired) is = fine_unless setting _ new (start_refusal wired setting.rules) refl is
fine_accepted setting state new number paths (Err refusal) is = cc

fine_edit : (setting : Setting) (state new : State) (number : ℕ) (paths : List RawPath) → edit setting state number paths ≡ Ok new → Fine setting new
unfolding edit
fine_edit setting state new number paths is = fine_accepted setting state new number paths (edited state.layout number paths) is

uncoded : (r : Result State Refusal) (new : State) → coded r ≡ Ok new → r ≡ Ok new
uncoded (Ok state) new is = let same : state ≡ new = cc in ap Ok same
uncoded (Err refusal) new is = cc

fine_found : (setting : Setting) (state new : State) (paths : List RawPath) (found : Option ℕ) → edit_found setting state paths found ≡ Ok new → Fine setting new
fine_found setting state new paths None is = cc
fine_found setting state new paths (Some number) is = fine_edit setting state new number paths (uncoded (edit setting state number paths) new is)

fine_after : (setting : Setting) (state : State) (line : ℕ) (name : List ℕ) (r : Result State Code) → Fine setting state → ((new : State) → r ≡ Ok new → Fine setting new) → Fine setting (after_edit state line name r).state
fine_after setting state line name (Ok new) fine more = more new refl
fine_after setting state line name (Err code) fine more = fine

fine_answer : (setting : Setting) (state : State) (c : Command) → Fine setting state → Fine setting (answer setting state c).state
fine_answer setting state (Replace name paths line) fine =
    fine_after setting state line name (edit_named setting state name paths) fine (λ new is. fine_found setting state new paths (number_of state.layout name) is)
fine_answer setting state Spef fine = fine
fine_answer setting state (Net name line) fine = fine
fine_answer setting state Stat fine = fine

fine_from : (setting : Setting) (p : Progress) (commands : List Command) → Fine setting p.state → Fine setting (fold (step setting) p commands).state
fine_from setting p [] fine = fine
fine_from setting p (c ∷ commands) fine = fine_from setting (step setting p c) commands (fine_answer setting p.state c fine)

pub layouts_stay_accepted : LayoutsStayAccepted
unfolding session
layouts_stay_accepted setting state commands fine = fine_from setting (beginning state) commands fine
