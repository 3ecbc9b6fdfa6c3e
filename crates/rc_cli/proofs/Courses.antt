-- How the work goes on, stage by stage.
use Rattle.std.proofs.Common.{◌≡◌, ◌<◌, ◌≤◌, ◌-◌, ℕ, List, Bool, true, false, cond, Option, Some, None, length, ap, ◌∙◌, refl, sym, arith, inl, inr, subst}
use Rattle.std.specs.Prelude.{◌⊎◌, nat_lt, IsTrue, Contains, Result, Ok, Err}
use Rattle.std.specs.Str.{bytes_eq}
use Rattle.std.proofs.Math.Path.{fun_ext}
use Rattle.std.proofs.lemmas.Bool.Decides.{nat_tests}
use Rattle.std.proofs.lemmas.Slice.Eq.{bytes_eq-Decides}
use Rattle.rc_io.specs.Causes.{Rose}
use Rattle.rc_keys.specs.declared.code.Quantity.TheVariants.{Bytes}
use Rattle.rc_keys.specs.declared.fault.Fault.{Fault as Failure}
use Rattle.rc_keys.specs.declared.fault.Fault.TheVariants as failure
use Rattle.rc_keys.specs.declared.fault.Refusal.{Refusal}
use Rattle.rc_keys.specs.declared.fault.Refusal.TheVariants.{Limit}
use Rattle.rc_cli.specs.declared.stop.Stop.{Stop}
use Rattle.rc_cli.specs.declared.stop.Stop.TheVariants.{Refused, Fault, NoMemory}
use Rattle.rc_cli.specs.Lines.{no_names, refusal_line}
use Rattle.rc_cli.specs.Outcome as course
use Rattle.rc_cli.specs.Outcome.{Texts, Course, Missing, Done, proceed, settled, formed, read_within, read_file}
use Rattle.rc_cli.specs.Answers.{Shelf, without}
use Rattle.rc_cli.specs.Work.{Keeps, HasStopped, IsUnread, IsTextless, IsRefusedBy, TellsFault}

-- ---- what files keep

pub keeps-same : (s : Shelf) → Keeps s s
keeps-same s = record { tells = refl; texts = λ n. refl; later = λ n. omega arith }

pub keeps-then : (before between after : Shelf) → Keeps before between → Keeps between after → Keeps before after
keeps-then before between after first second = record {
  tells = second.tells ∙ first.tells;
  texts = λ n. second.texts n ∙ first.texts n;
  later = λ n. let a = first.later n in let b = second.later n in omega (arith, a, b);
}

pub same-texts : (before after : Shelf) → Keeps before after → after.texts ≡ before.texts
same-texts before after keeps = fun_ext keeps.texts

pub told-too : (before after : Shelf) → Keeps before after → IsTrue before.tells → IsTrue after.tells
told-too before after keeps told = subst IsTrue (sym keeps.tells) told

rose-before : (before between now : ℕ) → before ≤ between → Rose between now → Rose before now
rose-before before between now le rose = omega (arith, le, rose)

-- ---- a file that isn't there

pub by-test : {R : Type 0} (test : Bool) → (test ≡ true → R) → (test ≡ false → R) → R
by-test true held failed = held refl
by-test false held failed = failed refl

same-bytes : (name : List ℕ) → bytes_eq name name ≡ true
same-bytes name = (bytes_eq-Decides name name).1 refl

pub gone : (name : List ℕ) (texts : Texts) → without name texts name ≡ None
gone name texts = ap (λ b. cond b None (texts name)) (same-bytes name)

-- a work comes to the same without the file of a name, or it ends at that file
abbrev pub IsOrderly : {A : Type 0} → (Texts → Course A) → Type 0
IsOrderly work = (texts : Texts) (name : List ℕ) → (work (without name texts) ≡ Missing name) ⊎ (work (without name texts) ≡ work texts)

pub orderly-same : {A : Type 0} (c : Course A) → IsOrderly (λ texts. c)
orderly-same c texts name = inr refl

orderly-from : {A B : Type 0} (name : List ℕ) (with all : Course A) (next after : A → Course B) → (with ≡ Missing name) ⊎ (with ≡ all)
    → ((v : A) → (next v ≡ Missing name) ⊎ (next v ≡ after v)) → (proceed with next ≡ Missing name) ⊎ (proceed with next ≡ proceed all after)
orderly-from name with all next after (inl gone) then = inl (ap (λ c. proceed c next) gone)
orderly-from name with (Missing n) next after (inr same) then = inr (ap (λ c. proceed c next) same)
orderly-from name with (course.Refused line) next after (inr same) then = inr (ap (λ c. proceed c next) same)
orderly-from name with (Done v) next after (inr same) then =
    elim (then v) [ inl gone ↦ inl (ap (λ c. proceed c next) same ∙ gone) | inr is ↦ inr (ap (λ c. proceed c next) same ∙ is) ]

pub orderly-proceed : {A B : Type 0} (work : Texts → Course A) (next : Texts → A → Course B) → IsOrderly work → ((v : A) → IsOrderly (λ texts. next texts v))
    → IsOrderly (λ texts. proceed (work texts) (next texts))
orderly-proceed work next first then texts name =
    orderly-from name (work (without name texts)) (work texts) (next (without name texts)) (next texts) (first texts name) (λ v. then v texts name)

pub orderly-read : {A : Type 0} (file : List ℕ) (room : ℕ) (form : List ℕ → Result A Refusal) → IsOrderly (λ texts. read_file texts file room form)
orderly-read file room form texts name =
    by-test (bytes_eq file name)
    (λ is. inl (ap (λ b. read_within file room form (cond b None (texts file))) is ∙ ap Missing ((bytes_eq-Decides file name).0 is)))
    (λ is. inr (ap (λ b. read_within file room form (cond b None (texts file))) is))

-- ---- what stops a part stops the whole

-- what goes on from a part that stopped
pub stops-first : {A B : Type 0} (before after : Shelf) (names : List (List ℕ)) (work : Texts → Course A) (next : Texts → A → Course B) (why : Stop)
    → HasStopped before after names work why → HasStopped before after names (λ texts. proceed (work texts) (next texts)) why
stops-first before after names work next (Refused line) stopped = λ told. ap (λ c. proceed c (next before.texts)) (stopped told)
stops-first before after names work next (Fault line) (name, is, file, rose, reached) =
    (name, is, file, rose, λ told. ap (λ c. proceed c (next (without name before.texts))) (reached told))
stops-first before after names work next NoMemory stopped = tt

reaches : {A B : Type 0} (name : List ℕ) (with all : Course A) (next : A → Course B) (v : A) → (with ≡ Missing name) ⊎ (with ≡ all) → all ≡ Done v → next v ≡ Missing name
    → proceed with next ≡ Missing name
reaches name with all next v (inl gone) done missing = ap (λ c. proceed c next) gone
reaches name with all next v (inr same) done missing = ap (λ c. proceed c next) (same ∙ done) ∙ missing

-- what goes on from a part that is done, and stops
pub stops-later : {A B : Type 0} (before between after : Shelf) (names : List (List ℕ)) (work : Texts → Course A) (next : Texts → A → Course B) (v : A) (why : Stop)
    → IsOrderly work → Keeps before between → (IsTrue before.tells → work before.texts ≡ Done v)
    → HasStopped between after names (λ texts. next texts v) why → HasStopped before after names (λ texts. proceed (work texts) (next texts)) why
stops-later before between after names work next v (Refused line) orderly keeps done stopped = λ told.
    ap (λ c. proceed c (next before.texts)) (done told) ∙ ap (λ texts. next texts v) (sym (same-texts before between keeps)) ∙ stopped (told-too before between keeps told)
stops-later before between after names work next v (Fault line) orderly keeps done (name, is, file, rose, reached) = (
  name,
  is,
  file,
  rose-before _ _ _ (keeps.later name) rose,
  λ told. reaches name (work (without name before.texts)) (work before.texts) (next (without name before.texts)) v (orderly before.texts name) (done told)
      (ap (λ texts. next (without name texts) v) (sym (same-texts before between keeps)) ∙ reached (told-too before between keeps told)),
)
stops-later before between after names work next v NoMemory orderly keeps done stopped = tt

-- a reading that stopped
pub stops-unread : {A : Type 0} (before after : Shelf) (names : List (List ℕ)) (name : List ℕ) (reading : Texts → Course A) (why : Stop)
    → Contains names name → ((texts : Texts) → texts name ≡ None → reading texts ≡ Missing name)
    → IsUnread before after name (reading before.texts) why → HasStopped before after names reading why
stops-unread before after names name reading (Refused line) file begins stopped = stopped
stops-unread before after names name reading (Fault line) file begins (is, rose) = (name, is, file, rose, λ told. begins (without name before.texts) (gone name before.texts))
stops-unread before after names name reading NoMemory file begins stopped = tt

-- the reading of a file
pub stops-file : {A : Type 0} (before after : Shelf) (names : List (List ℕ)) (name : List ℕ) (room : ℕ) (form : List ℕ → Result A Refusal) (why : Stop)
    → Contains names name → IsUnread before after name (read_file before.texts name room form) why → HasStopped before after names (λ texts. read_file texts name room form) why
stops-file before after names name room form why file unread =
    stops-unread before after names name (λ texts. read_file texts name room form) why file (λ texts none. ap (read_within name room form) none) unread

-- what reads no file
pub stops-refused : {A : Type 0} (before after : Shelf) (names : List (List ℕ)) (c : Course A) (why : Stop) → IsRefusedBy c why → HasStopped before after names (λ texts. c) why
stops-refused before after names c (Refused line) stopped = λ told. stopped
stops-refused before after names c (Fault line) stopped = absurd stopped
stops-refused before after names c NoMemory stopped = tt

-- among more names
pub stops-among : {A : Type 0} (before after : Shelf) (few many : List (List ℕ)) (work : Texts → Course A) (why : Stop) → ((name : List ℕ) → Contains few name → Contains many name)
    → HasStopped before after few work why → HasStopped before after many work why
stops-among before after few many work (Refused line) more stopped = stopped
stops-among before after few many work (Fault line) more (name, is, file, rose, reached) = (name, is, more name file, rose, reached)
stops-among before after few many work NoMemory more stopped = tt

-- ---- what is done

pub done-then : {A B : Type 0} (before between : Shelf) (work : Texts → Course A) (next : Texts → A → Course B) (v : A) (w : B)
    → Keeps before between → (IsTrue before.tells → work before.texts ≡ Done v) → (IsTrue between.tells → next between.texts v ≡ Done w)
    → IsTrue before.tells → proceed (work before.texts) (next before.texts) ≡ Done w
done-then before between work next v w keeps done then told =
    ap (λ c. proceed c (next before.texts)) (done told) ∙ ap (λ texts. next texts v) (sym (same-texts before between keeps)) ∙ then (told-too before between keeps told)

-- ---- reading a file

pub too_long : {A : Type 0} (name text : List ℕ) (room : ℕ) (form : List ℕ → Result A Refusal) (found : Option (List ℕ)) →
    found ≡ Some text → room < length text → read_within name room form found ≡ course.Refused (refusal_line no_names name (Limit Bytes))
too_long name text room form found is long =
    let test : nat_lt room (length text) ≡ true = grind (arith, nat_tests) in
    ap (read_within name room form) is ∙ ap (λ b. cond b (course.Refused (refusal_line no_names name (Limit Bytes))) (formed name (room - length text) (form text))) test

pub short_enough : {A : Type 0} (name text : List ℕ) (room : ℕ) (form : List ℕ → Result A Refusal) (found : Option (List ℕ)) →
    found ≡ Some text → length text ≤ room → read_within name room form found ≡ formed name (room - length text) (form text)
short_enough name text room form found is short =
    let test : nat_lt room (length text) ≡ false = grind (arith, nat_tests) in
    ap (read_within name room form) is ∙ ap (λ b. cond b (course.Refused (refusal_line no_names name (Limit Bytes))) (formed name (room - length text) (form text))) test

-- no text was read
pub textless : {A : Type 0} (before after : Shelf) (name : List ℕ) (room : ℕ) (form : List ℕ → Result A Refusal) (why : Stop)
    → IsTextless before after name room why → IsUnread before after name (read_file before.texts name room form) why
textless before after name room form (Refused line) (is, long) = λ told.
    let found = long told in too_long name found.0 room form (before.texts name) found.1 found.2 ∙ ap course.Refused (sym is)
textless before after name room form (Fault line) stopped = stopped
textless before after name room form NoMemory stopped = tt

-- a refusal is the outcome's; want of memory is free
abbrev pub IsFault : {A : Type 0} → Result A Refusal → Failure → Type 0
IsFault outcome (failure.Refused refusal) = outcome ≡ Err refusal
IsFault outcome failure.NoMemory = Unit {0}

-- a text is refused
pub unformed : {A : Type 0} (before after : Shelf) (name text : List ℕ) (room : ℕ) (form : List ℕ → Result A Refusal) (fault : Failure) (why : Stop)
    → (IsTrue before.tells → before.texts name ≡ Some text) → length text ≤ room → IsFault (form text) fault → TellsFault no_names name fault why
    → IsUnread before after name (read_file before.texts name room form) why
unformed before after name text room form (failure.Refused refusal) (Refused line) found short refused is = λ told.
    short_enough name text room form (before.texts name) (found told) short ∙ ap (formed name (room - length text)) refused ∙ ap course.Refused (sym is)
unformed before after name text room form failure.NoMemory (Refused line) found short refused is = absurd is
unformed before after name text room form (failure.Refused refusal) (Fault line) found short refused is = absurd is
unformed before after name text room form failure.NoMemory (Fault line) found short refused is = absurd is
unformed before after name text room form fault NoMemory found short refused is = tt

-- a text has a value
pub formed-within : {A : Type 0} (texts : Texts) (name text : List ℕ) (room left : ℕ) (form : List ℕ → Result A Refusal) (value : A)
    → texts name ≡ Some text → length text ≤ room → left ≡ room - length text → form text ≡ Ok value → read_file texts name room form ≡ Done (value, left)
formed-within texts name text room left form value found short rest ok =
    short_enough name text room form (texts name) found short ∙ ap (formed name (room - length text)) ok ∙ ap (λ n. Done (value, n)) (sym rest)
