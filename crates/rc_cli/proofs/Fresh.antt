-- The texts of a session are those of fresh runs.
use Rattle.std.proofs.Common.{◌≡◌, ◌∙◌, ℕ, List, ap, sym, refl, subst, false}
use Rattle.std.specs.Prelude.{Option, Some, None}
use Rattle.rc_keys.specs.declared.fault.Refusal.{Refusal}
use Rattle.rc_layout.specs.Layouts.{Wired}
use Rattle.rc_rules.specs.RuleFile.{RuleFile}
use Rattle.rc_engine.specs.Start.{start_refusal}
use Rattle.rc_engine.specs.Extraction.{extraction}
use Rattle.rc_spef.specs.declared.value.Spef.{Spef as Value}
use Rattle.rc_script.specs.declared.command.Command.{Command}
use Rattle.rc_script.specs.declared.command.Command.TheVariants.{Spef}
use Rattle.rc_script.specs.Rows.{script_outcome}
use Rattle.rc_session.specs.Sessions.{answer, session}
use Rattle.rc_session.proofs.Kept.{layouts_stay_accepted}
use Rattle.rc_cli.specs.declared.stages.Placed.{Placed}
use Rattle.rc_cli.specs.Command.{Inputs, Extract}
use Rattle.rc_cli.specs.Lines.{Names, names_of}
use Rattle.rc_cli.specs.Outcome.{Texts, Course, Missing, Refused, Done, Opening, Reply, proceed, unless_refused, read_file, layout, extracted, opening, opening_with, written, session_opening, value_reply, reply, task_reply, outcome}
use Rattle.rc_cli.specs.Laws.{TextsAreFresh, state_behind}
use Rattle.rc_cli.proofs.Replies.{start-accepts}

-- ---- what is done was done at each step

done-before : {A B : Type 0} (c : Course A) (next : A → Course B) (b : B) → proceed c next ≡ Done b → (a : A) × (c ≡ Done a) × (next a ≡ Done b)
done-before (Missing name) next b is = cc
done-before (Refused line) next b is = cc
done-before (Done a) next b is = (a, refl, is)

not-refused : {A B : Type 0} (names : Names) (def : List ℕ) (refused : Option Refusal) (a : A) (next : A → Course B) (b : B) → proceed (unless_refused names def refused a) next ≡ Done b
    → (refused ≡ None) × (next a ≡ Done b)
not-refused names def None a next b is = (refl, is)
not-refused names def (Some refusal) a next b is = cc

accepted-there : (texts : Texts) (def script : List ℕ) (placed : Placed) (opened : Opening) → proceed (extracted def placed) (λ spef. opening texts script placed) ≡ Done opened
    → (start_refusal placed.layout placed.rules ≡ None) × (opening texts script placed ≡ Done opened)
unfolding extracted
accepted-there texts def script placed opened is =
    not-refused (names_of placed.layout) def (start_refusal placed.layout placed.rules) (extraction placed.layout placed.rules) (λ spef. opening texts script placed) opened is

opened-over : (texts : Texts) (script : List ℕ) (placed : Placed) (opened : Opening) → opening texts script placed ≡ Done opened → start_refusal placed.layout placed.rules ≡ None
    → start_refusal opened.state.layout opened.setting.rules ≡ None
opened-over texts script placed opened is none =
    let before = done-before (read_file texts script placed.room script_outcome) (λ read. Done (opening_with placed read.0)) opened is in
    let same : opening_with placed before.0.0 ≡ opened = cc in
    subst (λ (o : Opening). start_refusal o.state.layout o.setting.rules ≡ None) same none

opening-accepted : (texts : Texts) (inputs : Inputs) (script : List ℕ) (opened : Opening) → session_opening texts inputs script ≡ Done opened
    → start_refusal opened.state.layout opened.setting.rules ≡ None
unfolding session_opening
opening-accepted texts inputs script opened is =
    let first = done-before (layout texts inputs) (λ placed. proceed (extracted inputs.def placed) (λ spef. opening texts script placed)) opened is in
    let there = accepted-there texts inputs.def script first.0 opened first.2 in
    opened-over texts script first.0 opened there.1 there.0

-- ---- a fresh run

fresh-value : (other : Texts) (again : Inputs) (placed : Placed) → layout other again ≡ Done placed → start_refusal placed.layout placed.rules ≡ None
    → value_reply other again None ≡ Done (written (extraction placed.layout placed.rules))
unfolding value_reply
fresh-value other again placed is none =
    ap (λ c. proceed c (λ placed. proceed (extracted again.def placed) (λ spef. reply other None placed.room spef))) is
    ∙ ap (λ c. proceed c (λ spef. reply other None placed.room spef)) (start-accepts again.def placed none)

fresh-run : (other : Texts) (again : Inputs) (placed : Placed) → layout other again ≡ Done placed → start_refusal placed.layout placed.rules ≡ None
    → outcome other (record { task = Extract; workers = 1; inputs = again }) ≡ Done (written (extraction placed.layout placed.rules))
unfolding outcome
fresh-run other again placed is none = fresh-value other again placed is none

pub texts_are_fresh : TextsAreFresh
texts_are_fresh texts other inputs again script opened first placed begins is same rules =
    let behind = layouts_stay_accepted opened.setting opened.state first (opening-accepted texts inputs script opened begins) in
    let none : start_refusal placed.layout placed.rules ≡ None =
    ap (λ (w : Wired). start_refusal w placed.rules) same ∙ ap (start_refusal (state_behind opened first).layout) rules ∙ behind in
    fresh-run other again placed is none
    ∙ ap (λ (w : Wired). Done (written (extraction w placed.rules))) same
    ∙ ap (λ (r : RuleFile). Done (written (extraction (state_behind opened first).layout r))) rules
