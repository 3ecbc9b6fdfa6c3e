-- How many workers there are plays no part in what a request comes to.
use Rattle.std.proofs.Common.{◌≡◌, ◌∷◌, [], ℕ, List, Bool, true, false, cond, ap, ◌∙◌, refl, sym}
use Rattle.std.specs.Prelude.{Option, Some, None, codes}
use Rattle.std.specs.Str.{bytes_eq}
use Rattle.rc_cli.specs.Command.{Inputs, Task, Extract, Verify, Session, Request, is_file_word, is_script_word, most_workers, number_up_to, inputs_of, request_with, request_for, extract_of, verify_of, session_of, request_of}
use Rattle.rc_cli.specs.Outcome.{Texts, outcome, task_reply}
use Rattle.rc_cli.specs.Laws.{WorkersChangeNothing}
use Rattle.rc_cli.proofs.Courses.{by-test}

-- the same task over the same files
abbrev pub AreAlike : Request → Request → Type 0
AreAlike one other = (one.task ≡ other.task) × (one.inputs ≡ other.inputs)

with-parts : (task : Task) (workers : Option ℕ) (inputs : Option Inputs) (asked : Request) → request_with task workers inputs ≡ Some asked
    → (asked.task ≡ task) × (inputs ≡ Some asked.inputs)
with-parts task (Some workers) (Some inputs) asked is =
    let same : record { task = task; workers = workers; inputs = inputs } ≡ asked = cc in
    (ap (λ (r : Request). r.task) (sym same), ap (λ (r : Request). Some r.inputs) same)
with-parts task (Some workers) None asked is = cc
with-parts task None inputs asked is = cc

-- two requests from the same task and files
alike-parts : (task : Task) (few many : Option ℕ) (inputs : Option Inputs) (one other : Request) → request_with task few inputs ≡ Some one → request_with task many inputs ≡ Some other
    → AreAlike one other
alike-parts task few many inputs one other first second =
    let a = with-parts task few inputs one first in
    let b = with-parts task many inputs other second in
    let inputs-same : Some one.inputs ≡ Some other.inputs = sym a.1 ∙ b.1 in
    let same : one.inputs ≡ other.inputs = cc in
    (a.0 ∙ sym b.0, same)

alike-for : (task : Task) (few many : List ℕ) (files : List (List ℕ)) (one other : Request) → request_for task few files ≡ Some one → request_for task many files ≡ Some other → AreAlike one other
alike-for task few many files one other first second =
    alike-parts task (number_up_to most_workers few) (number_up_to most_workers many) (inputs_of files) one other first second

verify-is : (workers spef : List ℕ) (files : List (List ℕ)) (test : Bool) → is_file_word spef ≡ test
    → verify_of (workers ∷ spef ∷ files) ≡ cond test (request_for (Verify spef) workers files) None
verify-is workers spef files test is = ap (λ b. cond b (request_for (Verify spef) workers files) None) is

none-some : {A R : Type 0} (x : A) → None ≡ Some x → R
none-some x is = cc

alike-verify : (few many : List ℕ) (files : List (List ℕ)) (one other : Request) → verify_of (few ∷ files) ≡ Some one → verify_of (many ∷ files) ≡ Some other → AreAlike one other
alike-verify few many [] one other first second = none-some one first
alike-verify few many (spef ∷ files) one other first second =
    by-test (is_file_word spef)
    (λ is. alike-for (Verify spef) few many files one other (sym (verify-is few spef files true is) ∙ first) (sym (verify-is many spef files true is) ∙ second))
    (λ is. none-some one (sym (verify-is few spef files false is) ∙ first))

session-is : (workers script : List ℕ) (files : List (List ℕ)) (test : Bool) → is_script_word script ≡ test
    → session_of (workers ∷ script ∷ files) ≡ cond test (request_for (Session script) workers files) None
session-is workers script files test is = ap (λ b. cond b (request_for (Session script) workers files) None) is

alike-session : (few many : List ℕ) (files : List (List ℕ)) (one other : Request) → session_of (few ∷ files) ≡ Some one → session_of (many ∷ files) ≡ Some other → AreAlike one other
alike-session few many [] one other first second = none-some one first
alike-session few many (script ∷ files) one other first second =
    by-test (is_script_word script)
    (λ is. alike-for (Session script) few many files one other (sym (session-is few script files true is) ∙ first) (sym (session-is many script files true is) ∙ second))
    (λ is. none-some one (sym (session-is few script files false is) ∙ first))

-- what the first word says
command-is : (command : List ℕ) (words : List (List ℕ)) (extract verify session : Bool) → bytes_eq command (codes "extract") ≡ extract → bytes_eq command (codes "verify") ≡ verify
    → bytes_eq command (codes "session") ≡ session
    → request_of (command ∷ words) ≡ cond extract (extract_of words) (cond verify (verify_of words) (cond session (session_of words) None))
unfolding request_of
command-is command words extract verify session first second third =
    ap (λ b. cond b (extract_of words) (cond (bytes_eq command (codes "verify")) (verify_of words) (cond (bytes_eq command (codes "session")) (session_of words) None))) first
    ∙ ap (λ b. cond extract (extract_of words) (cond b (verify_of words) (cond (bytes_eq command (codes "session")) (session_of words) None))) second
    ∙ ap (λ b. cond extract (extract_of words) (cond verify (verify_of words) (cond b (session_of words) None))) third

alike-words : (command few many : List ℕ) (files : List (List ℕ)) (one other : Request) → request_of (command ∷ few ∷ files) ≡ Some one → request_of (command ∷ many ∷ files) ≡ Some other
    → AreAlike one other
alike-words command few many files one other first second =
    let verify = bytes_eq command (codes "verify") in
    let session = bytes_eq command (codes "session") in
    by-test (bytes_eq command (codes "extract"))
    (λ is. alike-for Extract few many files one other
    (sym (command-is command (few ∷ files) true verify session is refl refl) ∙ first)
    (sym (command-is command (many ∷ files) true verify session is refl refl) ∙ second))
    (λ other-is. by-test verify
    (λ is. alike-verify few many files one other
    (sym (command-is command (few ∷ files) false true session other-is is refl) ∙ first) (sym (command-is command (many ∷ files) false true session other-is is refl) ∙ second))
    (λ no-verify. by-test session
    (λ is. alike-session few many files one other
    (sym (command-is command (few ∷ files) false false true other-is no-verify is) ∙ first) (sym (command-is command (many ∷ files) false false true other-is no-verify is) ∙ second))
    (λ is. none-some one (sym (command-is command (few ∷ files) false false false other-is no-verify is) ∙ first))))

comes-alike : (texts : Texts) (one other : Request) → AreAlike one other → outcome texts one ≡ outcome texts other
unfolding outcome
comes-alike texts one other (task, inputs) =
    ap (λ (i : Inputs). task_reply texts i one.task) inputs ∙ ap (λ (t : Task). task_reply texts other.inputs t) task

pub workers_change_nothing : WorkersChangeNothing
workers_change_nothing texts command few many files one other first second =
    comes-alike texts one other (alike-words command few many files one other first second)
