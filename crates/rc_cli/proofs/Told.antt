-- What a session says of a run's answer.
use Rattle.std.proofs.Common.{◌≡◌, ◌≢◌, ◌≤◌, ◌<◌, ◌+◌, ◌*◌, ◌⊎◌, ◌∷◌, [], ℕ, List, ap, ◌∙◌, refl, sym, subst, arith, inl, inr, ⊎_elim, false}
use Rattle.std.specs.Prelude.{IsTrue, Option, Some, None, Result, Err, IfErr}
use Rattle.rc_io.specs.Bytes.{GrewByPrefix}
use Rattle.rc_io.specs.Causes.{Rose}
use Rattle.rc_session.specs.Cuts.{HasFirstReplies}
use Rattle.rc_script.specs.declared.command.Command.{Command}
use Rattle.rc_session.specs.Sessions.{Setting, State}
use Rattle.rc_session.specs.Sessions as sessions
use Rattle.rc_cli.specs.Command.{Request, Session, script_word, request_of}
use Rattle.rc_cli.specs.Lines.{no_memory_line}
use Rattle.rc_cli.specs.Outcome.{Course, Done, Reply, Opening, ended, replied, session_opening, outcome, passes}
use Rattle.rc_cli.specs.Answers.{Shelf, Written, IsSession, HasReplies, HasWholeReplies, ComesTo, IsCutText, IsCutLine, IsTold, WroteText, ErrKept, OutKept}
use Rattle.rc_cli.proofs.Openings.{is-session}

-- the three statuses of a session that is open
abbrev pub IsSessionStatus : ℕ → Type 0
IsSessionStatus n = (n ≡ 0) ⊎ (n ≡ 4) ⊎ (n ≡ 5)

by-status : {R : Type 0} (n : ℕ) → IsSessionStatus n → (n ≡ 0 → R) → (n ≡ 4 → R) → (n ≡ 5 → R) → R
by-status n status zero four five = ⊎_elim zero (λ more. ⊎_elim four five more) status

pub session-statuses : (n : ℕ) → IsSessionStatus n → (n < 7) × (n ≢ 1) × (n ≢ 6)
session-statuses n status =
    by-status n status (λ is. (omega (arith, is), λ one. omega (arith, is, one), λ six. omega (arith, is, six)))
    (λ is. (omega (arith, is), λ one. omega (arith, is, one), λ six. omega (arith, is, six)))
    (λ is. (omega (arith, is), λ one. omega (arith, is, one), λ six. omega (arith, is, six)))

pub never : {R : Type 0} (n m : ℕ) → IsSessionStatus n → n ≡ m → 1 ≤ m → m ≤ 3 → R
never n m status is low high = absurd (by-status n status (λ zero. omega (arith, is, zero, low)) (λ four. omega (arith, is, four, high)) (λ five. omega (arith, is, five, high)))

-- what is known of a session that was opened
pub record Begun (before : Shelf) (words : List (List ℕ)) (asked : Request) (script : List ℕ) (opened : Opening) : Type 0 where
  pub asks : request_of words ≡ Some asked
  pub task : script_word asked.task ≡ Some script
  pub begins : IsTrue before.tells → session_opening before.texts asked.inputs script ≡ Done opened
  pub comes : IsTrue before.tells → outcome before.texts asked ≡ Done (replied opened)

abbrev pub text_of : Opening → List ℕ
text_of opened = sessions.written (ended opened)

pub session-asked : (before : Shelf) (words : List (List ℕ)) (asked : Request) (script : List ℕ) (opened : Opening) → Begun before words asked script opened → IsSession words
session-asked before words asked script opened begun = (asked, script, begun.asks, is-session asked.task script begun.task)

pub session-comes : (before : Shelf) (words : List (List ℕ)) (asked : Request) (script : List ℕ) (opened : Opening) → Begun before words asked script opened
    → ComesTo before words (Done (record { text = text_of opened; differs = false }))
session-comes before words asked script opened begun = (asked, begun.asks, begun.comes)

pub session-replies : (before : Shelf) (w : Written) (words : List (List ℕ)) (asked : Request) (script : List ℕ) (opened : Opening) → Begun before words asked script opened
    → HasFirstReplies opened.setting opened.state opened.commands w.out_before w.out_after → HasReplies before w words
session-replies before w words asked script opened begun first = (asked, script, opened, begun.asks, is-session asked.task script begun.task, begun.begins, first)

pub session-cut-text : (before : Shelf) (w : Written) (words : List (List ℕ)) (asked : Request) (script : List ℕ) (opened : Opening) (faults faults_now : ℕ) → Begun before words asked script opened
    → Rose faults faults_now → GrewByPrefix w.out_before w.out_after (text_of opened) → ErrKept w → IsCutText before w words faults faults_now
session-cut-text before w words asked script opened faults faults_now begun rose front kept = record {
  rose = rose;
  err = kept;
  front = (replied opened, session-comes before words asked script opened begun, front);
}

pub session-cut-line : (before after : Shelf) (w : Written) (words : List (List ℕ)) (asked : Request) (script : List ℕ) (opened : Opening) (faults faults_now : ℕ) → Begun before words asked script opened
    → Rose faults faults_now → GrewByPrefix w.err_before w.err_after no_memory_line → HasFirstReplies opened.setting opened.state opened.commands w.out_before w.out_after
    → IsCutLine before after w words faults faults_now
session-cut-line before after w words asked script opened faults faults_now begun rose front first = record {
  rose = rose;
  front = (no_memory_line, inr (inr (inr refl)), front, inr (refl, session-replies before w words asked script opened begun first));
}

-- words ask for one thing
pub asks-once : (words : List (List ℕ)) (asked other : Request) → request_of words ≡ Some asked → request_of words ≡ Some other → asked ≡ other
asks-once words asked other first second = let same : Some asked ≡ Some other = sym first ∙ second in cc

pub session-told : (before : Shelf) (w : Written) (words : List (List ℕ)) (asked other : Request) (script : List ℕ) (opened : Opening) (status : ℕ) → Begun before words asked script opened
    → IsSessionStatus status → (status ≡ 0 → WroteText w (text_of opened)) → (status ≡ 4 → ⊥) → request_of words ≡ Some other → IsTrue before.tells
    → IsTold w (outcome before.texts other) status ⊎ (status ≡ 5)
session-told before w words asked other script opened status begun is wrote cut asks tells =
    by-status status is
    (λ zero. inl (subst (λ (c : Course Reply). IsTold w c status) (sym (ap (outcome before.texts) (sym (asks-once words asked other begun.asks asks)) ∙ begun.comes tells)) (zero, wrote zero)))
    (λ four. absurd (cut four)) inr

pub session-drew : (before : Shelf) (words : List (List ℕ)) (asked other : Request) (n m : ℕ) → request_of words ≡ Some asked → request_of words ≡ Some other
    → n ≡ m + passes before.texts asked → n ≡ m + passes before.texts other
session-drew before words asked other n m first second is = subst (λ (a : Request). n ≡ m + passes before.texts a) (asks-once words asked other first second) is

pub session-spent : (before : Shelf) (words : List (List ℕ)) (asked other : Request) (n m : ℕ) → request_of words ≡ Some asked → request_of words ≡ Some other
    → n ≤ m + passes before.texts asked → n ≤ m + passes before.texts other
session-spent before words asked other n m first second is = subst (λ (a : Request). n ≤ m + passes before.texts a) (asks-once words asked other first second) is

-- why a session was cut off, where memory ran out
pub cut-whole : {A E : Type 0} (result : Result A E) (why which : E) (holds : E → Type 0) → result ≡ Err why → why ≡ which → IfErr result holds → holds which
cut-whole result why which holds is same has = subst holds same (subst (λ r. IfErr r holds) is has)

pub first-same : (setting : Setting) (state : State) (some all : List Command) (before after : Option (List ℕ)) → some ≡ all → HasFirstReplies setting state some before after → HasFirstReplies setting state all before after
first-same setting state some all before after same first = subst (λ (cs : List Command). HasFirstReplies setting state cs before after) same first
