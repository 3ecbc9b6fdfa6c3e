-- What is skipped: the rows against its words, both ways.
use Rattle.std.proofs.Common.{◌≡◌, ◌∙◌, ℕ, Bool, true, false, cond, List, [], ◌∷◌, ◌++◌, refl, ap, sym, append_assoc}
use Rattle.std.specs.Prelude.{◌&&◌, not}
use Rattle.std.specs.Str.{bytes_eq}
use Rattle.rc_keys.specs.Lexemes.{Lexeme}
use Rattle.rc_keys.specs.Course.{More, Done, Rows}
use Rattle.rc_keys.specs.Statements.{at_line}
use Rattle.rc_keys.specs.Phrases.{joined, EndsAtFirst}
use Rattle.rc_keys.proofs.Phrasing.{On, Takes, one_token, more_tokens, behind, no_tokens}
use Rattle.rc_keys.proofs.Tokenwise.{Either, Runs, by_test, stays, ends_at_first, runs_to_first}
use Rattle.rc_lef.specs.declared.key.Key.{Key}
use Rattle.rc_lef.specs.declared.key.Key.TheVariants as keys
use Rattle.rc_lef.specs.declared.state.State.{State}
use Rattle.rc_lef.specs.declared.state.Row.TheVariants as rows
use Rattle.rc_lef.specs.Keys.{key_of, is_quoted}
use Rattle.rc_lef.specs.Technology.{Technology}
use Rattle.rc_lef.specs.Rows.{lef_turn, skip_row, skip_end_row, skip_ext_row, skip_over_row, skip_statements_row}
use Rattle.rc_lef.specs.Phrases.{is_semicolon, ends_statement, IsOver}
use Rattle.rc_lef.specs.Skipped.{is_end, is_end_of_extension, are_end_of, has_end_of, UpToEnd, ends_extension, IsNoEnd, AreNoEnds}
use Rattle.rc_lef.proofs.SmallTests.{neither}
use Rattle.rc_lef.proofs.Turns.{Begun, turns}

-- ---- rows that take tokens up to one that stops, by what was noted of those before it

module _ {S K : Type 0} (rows : Rows S) (line : ℕ) (D C : S → List Lexeme → Type 0) (Q : K → S) (after : S) (stop : K → Lexeme → Bool) (next : K → Lexeme → K) (law : (k : K) (word : Lexeme) → rows (Q k) (at_line line word) ≡ cond (stop k word) (Done after) (More (Q (next k word)))) where
  abbrev pub Taken : K → List Lexeme → Type 0
  Taken k words = (front rest : List Lexeme) × (words ≡ front ++ rest) × Runs stop next k front × D after rest

  by_stop : (b : Bool) (k : K) (word : Lexeme) (words : List Lexeme) → stop k word ≡ b → (Takes rows line D C (Q (next k word)) words → Taken (next k word) words)
      → On (λ s. Takes rows line D C s words) (λ s. D s words) (λ s. C s words) (cond b (Done after) (More (Q (next k word)))) → Taken k (word ∷ words)
  by_stop true k word words is again d = (word ∷ [], words, refl, rw is refl, d)
  by_stop false k word words is again h = let e = again h in (word ∷ e.0, e.1, ap (λ ws. word ∷ ws) e.2, rw is e.3, e.4)

  pub taken_runs : (words : List Lexeme) (k : K) → Takes rows line D C (Q k) words → Taken k words
  taken_runs [] k h = absurd h
  taken_runs (word ∷ words) k h = by_stop (stop k word) k word words refl (λ more. taken_runs words (next k word) more) (rw law at h)

  back_by : (b : Bool) (k : K) (word : Lexeme) (words rest : List Lexeme) → stop k word ≡ b → (Runs stop next (next k word) words → Takes rows line D C (Q (next k word)) (words ++ rest)) → Either b (words ≡ []) (Runs stop next (next k word) words) → D after rest
      → Takes rows line D C (Q k) (word ∷ words ++ rest)
  back_by true k word words rest is again none d = rw (law k word, is, none) d
  back_by false k word words rest is again more d = rw (law k word, is) (again more)

  pub runs_taken : (words rest : List Lexeme) (k : K) → Runs stop next k words → D after rest → Takes rows line D C (Q k) (words ++ rest)
  runs_taken [] rest k r d = absurd r
  runs_taken (word ∷ words) rest k r d = back_by (stop k word) k word words rest refl (λ more. runs_taken words rest (next k word) more d) r d

-- ---- END and a word, token by token

abbrev names : List ℕ → Bool → Lexeme → Bool
names name ended word = ended && (not (is_quoted (key_of word)) && bytes_eq word.bytes name)

abbrev ended_by : Bool → Lexeme → Bool
ended_by ended word = is_end (key_of word)

-- one token more in front
longer : (name : List ℕ) (a b : Lexeme) (words : List Lexeme) → are_end_of name a b ≡ false → UpToEnd name (b ∷ words) → UpToEnd name (a ∷ b ∷ words)
longer name a b words un e = record { front = a ∷ e.front; end = e.end; last = e.last; parts = ap (λ ws. a ∷ ws) e.parts; ends = e.ends; before = by e.front e.parts e.before }
  where
    by : (front : List Lexeme) → b ∷ words ≡ front ++ e.end ∷ e.last ∷ [] → has_end_of name (front ++ e.end ∷ []) ≡ false → has_end_of name (a ∷ front ++ e.end ∷ []) ≡ false
    by [] same before = let h : b ≡ e.end = cc in rw (← h, un) refl
    by (x ∷ front) same before = let h : b ≡ x = cc in rw (← h, un) before

by_name : (name : List ℕ) (b : Bool) (a word : Lexeme) (words : List Lexeme) → are_end_of name a word ≡ b → (Runs (names name) ended_by (is_end (key_of word)) words → UpToEnd name (word ∷ words))
    → Either b (words ≡ []) (Runs (names name) ended_by (is_end (key_of word)) words) → UpToEnd name (a ∷ word ∷ words)
by_name name true a word words is again none = record { front = []; end = a; last = word; parts = ap (λ ws. a ∷ word ∷ ws) none; ends = is; before = refl }
by_name name false a word words is again more = longer name a word words is (again more)

from_end : (name : List ℕ) (a : Lexeme) (words : List Lexeme) → Runs (names name) ended_by (is_end (key_of a)) words → UpToEnd name (a ∷ words)
from_end name a [] r = absurd r
from_end name a (word ∷ words) r = by_name name (are_end_of name a word) a word words refl (λ more. from_end name word words more) r

pub up_to_end : (name : List ℕ) (words : List Lexeme) → Runs (names name) ended_by false words → UpToEnd name words
up_to_end name [] r = absurd r
up_to_end name (word ∷ words) r = from_end name word words r

to_end : (name : List ℕ) (end last : Lexeme) → are_end_of name end last ≡ true → (a : Lexeme) (front : List Lexeme) → has_end_of name (a ∷ front ++ end ∷ []) ≡ false → Runs (names name) ended_by (is_end (key_of a)) (front ++ end ∷ last ∷ [])
to_end name end last ends a [] before = let e = neither (are_end_of name a end) false before in rw (e.0, ends) refl
to_end name end last ends a (x ∷ front) before = let e = neither (are_end_of name a x) (has_end_of name (x ∷ front ++ end ∷ [])) before in rw e.0 (to_end name end last ends x front e.1)

pub runs_to_end : (name : List ℕ) (words : List Lexeme) → UpToEnd name words → Runs (names name) ended_by false words
runs_to_end name words e = rw e.parts (by e.front e.before)
  where
    by : (front : List Lexeme) → has_end_of name (front ++ e.end ∷ []) ≡ false → Runs (names name) ended_by false (front ++ e.end ∷ e.last ∷ [])
    by [] before = rw e.ends refl
    by (x ∷ front) before = to_end name e.end e.last e.ends x front before

-- ---- the rows

-- the state in what is skipped, behind END or not
abbrev pub Skipping : State → Bool → State
Skipping s ended = record s { row = cond ended rows.SkipEnd rows.Skip }

skips : (s : State) (ended : Bool) (key : Key) → skip_row (Skipping s ended) key ≡ More (Skipping s (is_end key))
unfolding skip_row
skips s ended keys.End = refl
skips s ended _ = refl

skip_turn : (tech : Technology) (s : State) (line : ℕ) (ended : Bool) (word : Lexeme) → lef_turn tech (Skipping s ended) (at_line line word) ≡ cond (names s.name ended word) (Done (Begun s)) (More (Skipping s (is_end (key_of word))))
unfolding skip_end_row
skip_turn tech s line false word = turns tech line (Skipping s false) word ∙ skips s false (key_of word)
skip_turn tech s line true word = turns tech line (Skipping s true) word ∙ by (names s.name true word)
  where
    by : (b : Bool) → cond b (Done (Begun s)) (skip_row (Skipping s true) (key_of word)) ≡ cond b (Done (Begun s)) (More (Skipping s (is_end (key_of word))))
    by true = refl
    by false = skips s true (key_of word)

-- a front of the tokens is what is skipped, and `D` holds behind it
abbrev pub Front : (State → List Lexeme → Type 0) → State → (List Lexeme → Type 0) → List Lexeme → Type 0
Front D s Is words = (front rest : List Lexeme) × (words ≡ front ++ rest) × Is front × D (Begun s) rest

module _ (tech : Technology) (line : ℕ) (D C : State → List Lexeme → Type 0) (s : State) where
  pub skipped : (words : List Lexeme) → Takes (lef_turn tech) line D C (Skipping s false) words → Front D s (UpToEnd s.name) words
  skipped words h =
      let e = taken_runs (lef_turn tech) line D C (Skipping s) (Begun s) (names s.name) ended_by (skip_turn tech s line) words false h in
      (e.0, e.1, e.2, up_to_end s.name e.0 e.3, e.4)

  pub skip_back : (words rest : List Lexeme) → UpToEnd s.name words → D (Begun s) rest → Takes (lef_turn tech) line D C (Skipping s false) (words ++ rest)
  skip_back words rest e d = runs_taken (lef_turn tech) line D C (Skipping s) (Begun s) (names s.name) ended_by (skip_turn tech s line) words rest false (runs_to_end s.name words e) d

-- ---- BEGINEXT .. ENDEXT

abbrev pub Extending : State → Unit {0} → State
Extending s k = record s { row = rows.SkipExt }

extends : (s : State) (key : Key) → skip_ext_row (record s { row = rows.SkipExt }) key ≡ cond (is_end_of_extension key) (Done (Begun s)) (More (record s { row = rows.SkipExt }))
unfolding skip_ext_row
extends s keys.EndExt = refl
extends s _ = refl

ext_turn : (tech : Technology) (s : State) (line : ℕ) (k : Unit {0}) (word : Lexeme) → lef_turn tech (Extending s k) (at_line line word) ≡ cond (ends_extension word) (Done (Begun s)) (More (Extending s k))
ext_turn tech s line k word = turns tech line (Extending s k) word ∙ extends s (key_of word)

module _ (tech : Technology) (line : ℕ) (D C : State → List Lexeme → Type 0) (s : State) where
  pub extended : (words : List Lexeme) → Takes (lef_turn tech) line D C (Extending s tt) words → Front D s (EndsAtFirst ends_extension) words
  extended words h =
      let e = taken_runs (lef_turn tech) line D C (Extending s) (Begun s) (by_test ends_extension) stays (ext_turn tech s line) words tt h in
      (e.0, e.1, e.2, ends_at_first ends_extension e.0 e.3, e.4)

  pub ext_back : (words rest : List Lexeme) → EndsAtFirst ends_extension words → D (Begun s) rest → Takes (lef_turn tech) line D C (Extending s tt) (words ++ rest)
  ext_back words rest e d = runs_taken (lef_turn tech) line D C (Extending s) (Begun s) (by_test ends_extension) stays (ext_turn tech s line) words rest tt (runs_to_first ends_extension words e) d

-- ---- up to a statement that begins with END

-- in a statement, or where one may begin
abbrev pub Passing : State → Bool → State
Passing s inside = record s { row = cond inside rows.SkipOver rows.SkipStatements }

abbrev stops_at : Bool → Lexeme → Bool
stops_at inside word = not inside && is_end (key_of word)

abbrev goes_on : Bool → Lexeme → Bool
goes_on inside word = not (is_semicolon (key_of word))

passes_over : (s : State) (inside : Bool) (key : Key) → skip_over_row (Passing s inside) key ≡ More (Passing s (not (is_semicolon key)))
unfolding skip_over_row
passes_over s inside keys.Semicolon = refl
passes_over s inside _ = refl

passes : (s : State) (key : Key) → skip_statements_row (Passing s false) key ≡ cond (is_end key) (Done (Begun s)) (More (Passing s (not (is_semicolon key))))
unfolding skip_statements_row
passes s keys.End = refl
passes s keys.Semicolon = passes_over s false keys.Semicolon
passes s _ = passes_over s false _

pass_turn : (tech : Technology) (s : State) (line : ℕ) (inside : Bool) (word : Lexeme) → lef_turn tech (Passing s inside) (at_line line word) ≡ cond (stops_at inside word) (Done (Begun s)) (More (Passing s (goes_on inside word)))
pass_turn tech s line true word = turns tech line (Passing s true) word ∙ passes_over s true (key_of word)
pass_turn tech s line false word = turns tech line (Passing s false) word ∙ passes s (key_of word)

-- statements that don't begin with END, and END
pub record UpToStatement (words : List Lexeme) : Type 0 where
  pub statements : List (List Lexeme)
  pub end : Lexeme
  pub parts : words ≡ joined statements ++ end ∷ []
  pub each : AreNoEnds statements
  pub ends : is_end (key_of end) ≡ true

-- the same from within a statement: its rest comes first
pub record UpToStatementIn (words : List Lexeme) : Type 0 where
  pub over : List Lexeme
  pub others : List Lexeme
  pub parts : words ≡ over ++ others
  pub is_over : IsOver over
  pub then : UpToStatement others

abbrev UpTo : Bool → List Lexeme → Type 0
UpTo true words = UpToStatementIn words
UpTo false words = UpToStatement words

one_more : (statement others words : List Lexeme) → words ≡ statement ++ others → IsNoEnd statement → UpToStatement others → UpToStatement words
one_more statement others words is none e =
    record { statements = statement ∷ e.statements; end = e.end; parts = is ∙ ap (λ ws. statement ++ ws) e.parts ∙ sym (append_assoc statement (joined e.statements) (e.end ∷ [])); each = (none, e.each); ends = e.ends }

begin_more : (b : Bool) (word : Lexeme) (words : List Lexeme) → is_semicolon (key_of word) ≡ b → is_end (key_of word) ≡ false → UpTo (not b) words → UpToStatement (word ∷ words)
begin_more true word words is un e = one_more (word ∷ []) words (word ∷ words) refl (un, one_token ends_statement word is) e
begin_more false word words is un e = one_more (word ∷ e.over) e.others (word ∷ words) (ap (λ ws. word ∷ ws) e.parts) (un, more_tokens ends_statement word e.over is e.is_over) e.then

begin_by : (b : Bool) (word : Lexeme) (words : List Lexeme) → is_end (key_of word) ≡ b → (Runs stops_at goes_on (goes_on false word) words → UpTo (goes_on false word) words) → Either b (words ≡ []) (Runs stops_at goes_on (goes_on false word) words) → UpToStatement (word ∷ words)
begin_by true word words is again none = record { statements = []; end = word; parts = ap (λ ws. word ∷ ws) none; each = tt; ends = is }
begin_by false word words is again more = begin_more (is_semicolon (key_of word)) word words refl is (again more)

inside_by : (b : Bool) (word : Lexeme) (words : List Lexeme) → is_semicolon (key_of word) ≡ b → UpTo (not b) words → UpToStatementIn (word ∷ words)
inside_by true word words is e = record { over = word ∷ []; others = words; parts = refl; is_over = one_token ends_statement word is; then = e }
inside_by false word words is e = record { over = word ∷ e.over; others = e.others; parts = ap (λ ws. word ∷ ws) e.parts; is_over = more_tokens ends_statement word e.over is e.is_over; then = e.then }

up_to_statement : (words : List Lexeme) (inside : Bool) → Runs stops_at goes_on inside words → UpTo inside words
up_to_statement [] inside r = absurd r
up_to_statement (word ∷ words) true r = inside_by (is_semicolon (key_of word)) word words refl (up_to_statement words (goes_on true word) r)
up_to_statement (word ∷ words) false r = begin_by (is_end (key_of word)) word words refl (λ more. up_to_statement words (goes_on false word) more) r

-- and the other way round
inside_back : (b : Bool) (word : Lexeme) (words more : List Lexeme) → is_semicolon (key_of word) ≡ b → Rattle.rc_keys.proofs.Phrasing.Behind ends_statement b words → (IsOver words → Runs stops_at goes_on true (words ++ more)) → Runs stops_at goes_on false more → Runs stops_at goes_on (not b) (words ++ more)
inside_back true word words more is none again r = rw none r
inside_back false word words more is over again r = again over

over_runs : (words more : List Lexeme) → IsOver words → Runs stops_at goes_on false more → Runs stops_at goes_on true (words ++ more)
over_runs [] more over r = absurd (no_tokens ends_statement over)
over_runs (word ∷ words) more over r = inside_back (is_semicolon (key_of word)) word words more refl (behind ends_statement word words (is_semicolon (key_of word)) refl over) (λ o. over_runs words more o r) r

statement_runs : (words more : List Lexeme) → IsNoEnd words → Runs stops_at goes_on false more → Runs stops_at goes_on false (words ++ more)
statement_runs [] more none r = absurd (no_tokens ends_statement none.1)
statement_runs (word ∷ words) more none r = rw none.0 (inside_back (is_semicolon (key_of word)) word words more refl (behind ends_statement word words (is_semicolon (key_of word)) refl none.1) (λ o. over_runs words more o r) r)

runs_of : (statements : List (List Lexeme)) (end : Lexeme) → AreNoEnds statements → is_end (key_of end) ≡ true → Runs stops_at goes_on false (joined statements ++ end ∷ [])
runs_of [] end none ends = rw ends refl
runs_of (statement ∷ statements) end none ends = rw (append_assoc statement (joined statements) (end ∷ [])) (statement_runs statement (joined statements ++ end ∷ []) none.0 (runs_of statements end none.1 ends))

module _ (tech : Technology) (line : ℕ) (D C : State → List Lexeme → Type 0) (s : State) where
  pub passed : (words : List Lexeme) → Takes (lef_turn tech) line D C (Passing s false) words → Front D s UpToStatement words
  passed words h =
      let e = taken_runs (lef_turn tech) line D C (Passing s) (Begun s) stops_at goes_on (pass_turn tech s line) words false h in
      (e.0, e.1, e.2, up_to_statement e.0 false e.3, e.4)

  pub pass_back : (words rest : List Lexeme) → UpToStatement words → D (Begun s) rest → Takes (lef_turn tech) line D C (Passing s false) (words ++ rest)
  pass_back words rest e d = runs_taken (lef_turn tech) line D C (Passing s) (Begun s) stops_at goes_on (pass_turn tech s line) words rest false (rw e.parts (runs_of e.statements e.end e.each e.ends)) d
