-- An engine's edit is that of its session.
use Rattle.std.proofs.Common.{◌≡◌, ◌≤◌, ◌+◌, ◌*◌, ◌^◌, ℕ, List, [], ◌∷◌, length, ap, ◌∙◌, refl, sym, subst, arith}
use Rattle.std.specs.Prelude.{Option, Some, None, IsSome, Result, Ok, Err, IfOk}
use Rattle.rc_io.specs.Memory.{GatheredBytes}
use Rattle.rc_keys.specs.declared.code.Code.{Code}
use Rattle.rc_keys.specs.declared.fault.Fault.{Fault}
use Rattle.rc_keys.specs.declared.fault.Fault.TheVariants as faults
use Rattle.rc_keys.specs.declared.fault.Refusal.{Refusal}
use Rattle.rc_wire.specs.declared.path.RawPath.{RawPath}
use Rattle.rc_rules.specs.RuleFile.{RuleFile}
use Rattle.rc_layout.specs.Layouts.{Wired}
use Rattle.rc_layout.specs.Refusals.{Linked}
use Rattle.rc_windows.specs.declared.frame.Frame.{Frame}
use Rattle.rc_windows.specs.Frames.{IsFrame}
use Rattle.rc_engine.specs.Engine.{Engine, DrawsNone}
use Rattle.rc_engine.specs.Names.{escaped_in}
use Rattle.rc_engine.specs.Start.{start_refusal, IsRefusal}
use Rattle.rc_engine.specs.Edits.{edited, edit_refusal, edit_windows, refusal_of}
use Rattle.rc_session.specs.Sessions.{Setting, State, Answer, unless_refused, accepted, edit, coded, says, after_edit, edit_found, edit_named, number_of}
use Rattle.rc_session.specs.Replies.{refusal_code, replaced_line, refused_line}
use Rattle.rc_session.specs.Cuts.{Answers, Replies, Draws, setting_of, state_of}
use Rattle.rc_session.proofs.Steps.{few_windows}

-- ---- an edit that is accepted

made : (setting : Setting) (state : State) (number : ℕ) (paths : List RawPath) (linked : Linked Wired) (new : Wired) (count : ℕ) → linked ≡ Ok new
    → refusal_of setting.rules linked ≡ None → count ≡ length (edit_windows setting.frame state.layout number paths)
    → accepted setting state number paths linked ≡ Ok (record { layout = new; touched = count })
made setting state number paths (Ok wired) new count is none counted =
    let same : wired ≡ new = cc in
    ap (unless_refused (record { layout = wired; touched = length (edit_windows setting.frame state.layout number paths) })) none
    ∙ ap (λ (w : Wired). Ok (record { layout = w; touched = length (edit_windows setting.frame state.layout number paths) })) same
    ∙ ap (λ n. Ok (record { layout = new; touched = n })) (sym counted)
made setting state number paths (Err refusal) new count is none counted = cc

pub edit_made : (setting : Setting) (state : State) (number : ℕ) (paths : List RawPath) (new : Wired) (count : ℕ) → edited state.layout number paths ≡ Ok new
    → edit_refusal state.layout setting.rules number paths ≡ None → count ≡ length (edit_windows setting.frame state.layout number paths)
    → edit setting state number paths ≡ Ok (record { layout = new; touched = count })
unfolding edit edit_refusal
edit_made setting state number paths new count is none counted = made setting state number paths (edited state.layout number paths) new count is none counted

-- ---- an edit that is refused

unmade : (setting : Setting) (state : State) (number : ℕ) (paths : List RawPath) (linked : Linked Wired) (refusal : Refusal)
    → refusal_of setting.rules linked ≡ Some refusal → accepted setting state number paths linked ≡ Err refusal
unmade setting state number paths (Ok wired) refusal is =
    ap (unless_refused (record { layout = wired; touched = length (edit_windows setting.frame state.layout number paths) })) is
unmade setting state number paths (Err other) refusal is = let same : other ≡ refusal = cc in ap Err same

pub edit_refused : (setting : Setting) (state : State) (number : ℕ) (paths : List RawPath) (refusal : Refusal)
    → edit_refusal state.layout setting.rules number paths ≡ Some refusal → edit setting state number paths ≡ Err refusal
unfolding edit edit_refusal
edit_refused setting state number paths refusal is = unmade setting state number paths (edited state.layout number paths) refusal is

-- ---- what an edit leaves

abbrev pub touches : Setting → State → ℕ → List RawPath → ℕ
touches setting state number paths = length (edit_windows setting.frame state.layout number paths)

touched_unless : (made new : State) (refused : Option Refusal) → unless_refused made refused ≡ Ok new → new.touched ≡ made.touched
touched_unless made new None is = let same : made ≡ new = cc in ap (λ (s : State). s.touched) (sym same)
touched_unless made new (Some refusal) is = cc

touched_made : (setting : Setting) (state new : State) (number : ℕ) (paths : List RawPath) (linked : Linked Wired) → accepted setting state number paths linked ≡ Ok new
    → new.touched ≡ touches setting state number paths
touched_made setting state new number paths (Ok wired) is = touched_unless _ new (start_refusal wired setting.rules) is
touched_made setting state new number paths (Err refusal) is = cc

edit_touches : (setting : Setting) (state new : State) (number : ℕ) (paths : List RawPath) → edit setting state number paths ≡ Ok new → new.touched ≡ touches setting state number paths
unfolding edit
edit_touches setting state new number paths is = touched_made setting state new number paths (edited state.layout number paths) is

refused_unless : (made : State) (refused : Option Refusal) (refusal : Refusal) → unless_refused made refused ≡ Err refusal → refused ≡ Some refusal
refused_unless made None refusal is = cc
refused_unless made (Some other) refusal is = let same : other ≡ refusal = cc in ap Some same

refused_made : (setting : Setting) (state : State) (number : ℕ) (paths : List RawPath) (linked : Linked Wired) (refusal : Refusal) → accepted setting state number paths linked ≡ Err refusal
    → refusal_of setting.rules linked ≡ Some refusal
refused_made setting state number paths (Ok wired) refusal is = refused_unless _ (start_refusal wired setting.rules) refusal is
refused_made setting state number paths (Err other) refusal is = let same : other ≡ refusal = cc in ap Some same

edit_has_refusal : (setting : Setting) (state : State) (number : ℕ) (paths : List RawPath) (refusal : Refusal) → edit setting state number paths ≡ Err refusal
    → edit_refusal state.layout setting.rules number paths ≡ Some refusal
unfolding edit edit_refusal
edit_has_refusal setting state number paths refusal is = refused_made setting state number paths (edited state.layout number paths) refusal is

-- ---- answers

pub refusal_of_fault : (refused : Option Refusal) (fault : Fault) (refusal : Refusal) → fault ≡ faults.Refused refusal → IsRefusal refused fault → refused ≡ Some refusal
refusal_of_fault refused fault refusal same is = subst (λ (f : Fault). IsRefusal refused f) same is

pub draws_none : (before after : ℕ) (fault : Fault) (refusal : Refusal) → fault ≡ faults.Refused refusal → DrawsNone before after fault → after ≡ before
draws_none before after fault refusal same is = subst (λ (f : Fault). DrawsNone before after f) same is

pub found_as : (wired : Wired) (result : Option ℕ) (number : ℕ) (n name : List ℕ) → result ≡ Some number → result ≡ number_of wired n → n ≡ name → number_of wired name ≡ Some number
found_as wired result number n name some is same = ap (number_of wired) (sym same) ∙ sym is ∙ some

same_setting : (a b : Engine) → a.rules ≡ b.rules → a.frame ≡ b.frame → setting_of a ≡ setting_of b
same_setting a b rules frame = cc

-- a command that changes nothing
pub unchanged : {E : Type 0} (r : Result GatheredBytes E) (old new : Engine) (reply : List ℕ) (drawn now : ℕ) → new ≡ old → now ≡ drawn → IfOk r (λ g. g.bytes ≡ reply)
    → Answers r old new drawn now (says (state_of old) reply)
unchanged (Ok g) old new reply drawn now same none is = record {
  setting = ap setting_of same;
  replies = (is, ap state_of same);
  exact = omega (arith, none);
  least = omega (arith, none);
  most = omega (arith, none);
  few = omega (arith, none);
}
unchanged (Err e) old new reply drawn now same none is = record {
  setting = ap setting_of same;
  replies = tt;
  exact = tt;
  least = omega (arith, none);
  most = omega (arith, none);
  few = omega (arith, none);
}

pub accepted_answers : {E : Type 0} (reply : GatheredBytes) (old new : Engine) (name : List ℕ) (line : ℕ) (paths : List RawPath) (number count drawn now : ℕ)
    → number_of old.layout name ≡ Some number → edited old.layout number paths ≡ Ok new.layout → edit_refusal old.layout old.rules number paths ≡ None
    → new.rules ≡ old.rules → new.frame ≡ old.frame → new.touched ≡ count → count ≡ length (edit_windows old.frame old.layout number paths) → IsFrame new.frame
    → now ≡ drawn + 2 * count → reply.bytes ≡ replaced_line (escaped_in old.layout.parts name)
    → Answers {E = E} (Ok reply) old new drawn now (after_edit (state_of old) line name (edit_named (setting_of old) (state_of old) name paths))
accepted_answers {E} reply old new name line paths number count drawn now found is none rules frame touched counted framed drew says =
    let made = edit_made (setting_of old) (state_of old) number paths new.layout count is none counted in
    let done : edit_named (setting_of old) (state_of old) name paths ≡ Ok (state_of new) =
    ap (edit_found (setting_of old) (state_of old) paths) found ∙ ap coded made ∙ ap (λ t. Ok (record { layout = new.layout; touched = t })) (sym touched) in
    let few = few_windows old.frame old.layout number paths (subst IsFrame frame framed) in
    subst (λ (r : Result State Code). Answers {E = E} (Ok reply) old new drawn now (after_edit (state_of old) line name r)) (sym done) (record {
      setting = same_setting new old rules frame;
      replies = (says, refl);
      exact = omega (arith, drew, touched);
      least = omega (arith, drew);
      most = omega (arith, drew, touched);
      few = omega (arith, drew, counted, few);
    })

pub refused_answers : {E : Type 0} (r : Result GatheredBytes E) (old new : Engine) (name : List ℕ) (line : ℕ) (paths : List RawPath) (number drawn now : ℕ) (refusal : Refusal) (code : Code)
    → number_of old.layout name ≡ Some number → edit_refusal old.layout old.rules number paths ≡ Some refusal → code ≡ refusal_code refusal → new ≡ old → now ≡ drawn
    → IfOk r (λ g. g.bytes ≡ refused_line line code)
    → Answers r old new drawn now (after_edit (state_of old) line name (edit_named (setting_of old) (state_of old) name paths))
refused_answers {E} r old new name line paths number drawn now refusal code found refused coded_as same none says =
    let done : edit_named (setting_of old) (state_of old) name paths ≡ Err code =
    ap (edit_found (setting_of old) (state_of old) paths) found ∙ ap coded (edit_refused (setting_of old) (state_of old) number paths refusal refused) ∙ ap Err (sym coded_as) in
    subst (λ (e : Result State Code). Answers r old new drawn now (after_edit (state_of old) line name e)) (sym done)
    (unchanged r old new (refused_line line code) drawn now same none says)

wanting : {E : Type 0} (e : E) (old new : Engine) (name : List ℕ) (line : ℕ) (paths : List RawPath) (number drawn now : ℕ) (r : Result State Refusal)
    → ((s : State) → r ≡ Ok s → s.touched ≡ length (edit_windows old.frame old.layout number paths)) → ((f : Refusal) → r ≡ Err f → now ≡ drawn)
    → new ≡ old → drawn ≤ now → now ≤ drawn + 2 * length (edit_windows old.frame old.layout number paths) → length (edit_windows old.frame old.layout number paths) ≤ 2 ^ 20
    → Answers (Err e) old new drawn now (after_edit (state_of old) line name (coded r))
wanting e old new name line paths number drawn now (Ok s) touch none same least spent few =
    let touched = touch s refl in
    record {
      setting = ap setting_of same;
      replies = tt;
      exact = tt;
      least = least;
      most = omega (arith, spent, touched);
      few = omega (arith, spent, few);
    }
wanting e old new name line paths number drawn now (Err f) touch none same least spent few =
    let drew = none f refl in
    record {
      setting = ap setting_of same;
      replies = tt;
      exact = tt;
      least = least;
      most = omega (arith, drew);
      few = omega (arith, drew);
    }

pub memory_answers : {E : Type 0} (e : E) (old new : Engine) (name : List ℕ) (line : ℕ) (paths : List RawPath) (number drawn now : ℕ)
    → number_of old.layout name ≡ Some number → new ≡ old → drawn ≤ now → now ≤ drawn + 2 * length (edit_windows old.frame old.layout number paths)
    → (IsSome (edit_refusal old.layout old.rules number paths) → now ≡ drawn) → IsFrame new.frame
    → Answers (Err e) old new drawn now (after_edit (state_of old) line name (edit_named (setting_of old) (state_of old) name paths))
memory_answers e old new name line paths number drawn now found same least spent none framed =
    subst (λ (r : Result State Code). Answers (Err e) old new drawn now (after_edit (state_of old) line name r)) (sym (ap (edit_found (setting_of old) (state_of old) paths) found))
    (wanting e old new name line paths number drawn now (edit (setting_of old) (state_of old) number paths)
    (λ s is. edit_touches (setting_of old) (state_of old) s number paths is)
    (λ f is. none (subst (λ (o : Option Refusal). IsSome o) (sym (edit_has_refusal (setting_of old) (state_of old) number paths f is)) refl))
    same least spent (few_windows old.frame old.layout number paths (subst (λ (x : Engine). IsFrame x.frame) same framed)))
