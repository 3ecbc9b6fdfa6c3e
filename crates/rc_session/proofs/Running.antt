-- Sessions, command by command.
use Rattle.std.proofs.Common.{◌≡◌, ◌<◌, ◌≤◌, ◌+◌, ◌*◌, ◌^◌, ℕ, suc, List, [], ◌∷◌, ◌++◌, length, take, drop, get_or, ap, ◌∙◌, refl, sym, subst, arith}
use Rattle.std.specs.Prelude.{fold, Option, Some, None, Result, Ok, Err}
use Rattle.std.specs.List.{flat_map}
use Rattle.std.proofs.lemmas.List.{append-nil, append_assoc, take-append-drop}
use Rattle.std.proofs.lemmas.List.Sums.{fold-append}
use Rattle.std.proofs.lemmas.Grind.{flat_map-append}
use Rattle.std.proofs.Math.Seq.{drop-cons, take-append-add}
use Rattle.rc_keys.specs.declared.code.Code.{Code}
use Rattle.rc_wire.specs.declared.path.RawPath.{RawPath}
use Rattle.rc_script.specs.declared.command.Command.{Command}
use Rattle.rc_script.specs.declared.command.Command.TheVariants.{Replace}
use Rattle.rc_session.specs.Sessions.{Setting, State, Answer, Progress, beginning, with_answer, step, answer, after_edit, edit_named, session, written}
use Rattle.rc_session.specs.Replies.{refused_line}
use Rattle.rc_session.specs.Laws.{RepliesFollow, RefusedEditsChangeNothing}

-- ---- what further commands add

-- the replies of before, and then those of the commands in the state that was reached
pub replies_from : (setting : Setting) (p : Progress) (commands : List Command) →
    ((fold (step setting) p commands).replies ≡ p.replies ++ (fold (step setting) (beginning p.state) commands).replies)
    × ((fold (step setting) p commands).state ≡ (fold (step setting) (beginning p.state) commands).state)
    × ((fold (step setting) p commands).swept ≡ p.swept + (fold (step setting) (beginning p.state) commands).swept)
replies_from setting p [] = (sym (append-nil p.replies), refl, omega arith)
replies_from setting p (c ∷ commands) =
    let given = answer setting p.state c in
    let far = replies_from setting (with_answer p given) commands in
    let near = replies_from setting (with_answer (beginning p.state) given) commands in (
      far.0 ∙ append_assoc p.replies (given.reply ∷ []) ((fold (step setting) (beginning given.state) commands).replies) ∙ ap (λ rs. p.replies ++ rs) (sym near.0),
      far.1 ∙ sym near.1,
      omega (arith, far.2, near.2),
    )

pub replies_follow : RepliesFollow
unfolding session
replies_follow setting state first second =
    ap (λ (p : Progress). p.replies) (fold-append (step setting) (beginning state) first second)
    ∙ (replies_from setting (fold (step setting) (beginning state) first) second).0

-- one more command
pub one_more : (setting : Setting) (state : State) (commands : List Command) (c : Command) →
    session setting state (commands ++ c ∷ []) ≡ step setting (session setting state commands) c
unfolding session
one_more setting state commands c = fold-append (step setting) (beginning state) commands (c ∷ [])

-- ---- a refused edit

refused_says : (setting : Setting) (state : State) (name : List ℕ) (paths : List RawPath) (line : ℕ) (code : Code) → edit_named setting state name paths ≡ Err code →
    answer setting state (Replace name paths line) ≡ record { reply = refused_line line code; state = state; swept = 0 }
refused_says setting state name paths line code refused = ap (after_edit state line name) refused

refused_replies : (setting : Setting) (state : State) (second : List Command) (c : Command) (reply : List ℕ) → answer setting state c ≡ record { reply = reply; state = state; swept = 0 } →
    (session setting state (c ∷ second)).replies ≡ reply ∷ (session setting state second).replies
unfolding session
refused_replies setting state second c reply is =
    (replies_from setting (with_answer (beginning state) (answer setting state c)) second).0
    ∙ ap (λ (a : Answer). (a.reply ∷ []) ++ (fold (step setting) (beginning a.state) second).replies) is

pub refused_edits_change_nothing : RefusedEditsChangeNothing
refused_edits_change_nothing setting state first second name paths line code refused =
    let reached = (session setting state first).state in (
      (session setting reached second).replies,
      replies_follow setting state first second,
      replies_follow setting state first (Replace name paths line ∷ second)
          ∙ ap (λ rs. (session setting state first).replies ++ rs)
          (refused_replies setting reached second (Replace name paths line) (refused_line line code) (refused_says setting reached name paths line code refused)),
    )

-- ---- the commands up to a place, and those behind it

pub split : (commands : List Command) (i : ℕ) (c : Command) → i < length commands → c ≡ get_or commands i c → commands ≡ (take i commands ++ c ∷ []) ++ drop (suc i) commands
split commands i c within is =
    sym (take-append-drop i commands) ∙ ap (λ cs. take i commands ++ cs) (drop-cons commands i c within ∙ ap (λ x. x ∷ drop (suc i) commands) (sym is))
    ∙ sym (append_assoc (take i commands) (c ∷ []) (drop (suc i) commands))
