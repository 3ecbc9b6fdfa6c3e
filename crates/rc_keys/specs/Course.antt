-- How a grammar reads a text: token by token, in statements.
use Rattle.std.specs.Prelude.{◌≡◌, ℕ, Bool, Option, Some, None, if◌then◌else◌}
use Rattle.std.specs.List.{fold}
use Rattle.rc_keys.specs.declared.code.Code.{Code}
use Rattle.rc_keys.specs.declared.fault.Refusal.{Refusal}
use Rattle.rc_keys.specs.declared.fault.Refusal.TheVariants.{At}
use Rattle.rc_keys.specs.declared.turn.Turn.{Turn as TurnOf}
use Rattle.rc_keys.specs.declared.turn.Turn.TheVariants as turns
use Rattle.rc_keys.specs.declared.turn.Ending.{Ending}
use Rattle.rc_keys.specs.declared.turn.Ending.TheVariants as endings
use Rattle.rc_keys.specs.Lexemes.{Lexeme, Remaining}

-- what a token does after what was read: it is refused, or the statement goes on, or it is the last of its statement, or the
-- last of the text that is read
pub data Turn (S : Type 0) : Type 0 where
  Refuse : (refusal : Refusal) → Turn S
  More : (after : S) → Turn S
  Done : (after : S) → Turn S
  Close : (after : S) → Turn S

-- a grammar's rows: what a token does in each state. The token's line is that of its statement's first token
abbrev pub Rows : Type 0 → Type 0
Rows S = S → Lexeme → Turn S

-- a token is refused at its statement's line
abbrev pub refuse : {S : Type 0} → Code → Lexeme → Turn S
refuse code word = Refuse (At code word.line)

-- the code's answer, and the state that it left, are that
abbrev pub Turned : {S : Type 0} → TurnOf → S → Turn S → Type 0
Turned (turns.Refuse refusal) now turn = turn ≡ Refuse refusal
Turned turns.More now turn = turn ≡ More now
Turned turns.Done now turn = turn ≡ Done now
Turned turns.Close now turn = turn ≡ Close now

-- a parser after some tokens of a text: what is read, the line of the statement that is begun, and that of the last token;
-- or a token was refused; or one closed the text
pub data Parser (S : Type 0) : Type 0 where
  Running : (state : S) → (begun : Option ℕ) → (last : ℕ) → Parser S
  Refused : (refusal : Refusal) → Parser S
  Closed : (state : S) → Parser S

-- the line of the statement that is begun, or else this one
abbrev pub line_or : Option ℕ → ℕ → ℕ
line_or None line = line
line_or (Some begun) line = begun

-- a token at the line of its statement
abbrev pub in_statement : Option ℕ → Lexeme → Lexeme
in_statement begun word = record word { line = line_or begun word.line }

-- behind a token that did this, at this line of its statement and this of its own
abbrev pub after_turn : {S : Type 0} → ℕ → ℕ → Turn S → Parser S
after_turn line last (Refuse refusal) = Refused refusal
after_turn line last (More state) = Running state (Some line) last
after_turn line last (Done state) = Running state None last
after_turn line last (Close state) = Closed state

-- a token further. What was refused or closed stays so
abbrev pub step : {S : Type 0} → Rows S → Parser S → Lexeme → Parser S
step rows (Running state begun last) word = after_turn (line_or begun word.line) word.line (rows state (in_statement begun word))
step rows (Refused refusal) word = Refused refusal
step rows (Closed state) word = Closed state

-- before the first token
abbrev pub begin : {S : Type 0} → S → Parser S
begin state = Running state None 1

-- what reading a text comes to. `Unfinished` has the line of the statement that is open, and that of the last token
pub data Reading (S : Type 0) : Type 0 where
  Read : (state : S) → Reading S
  Refuses : (refusal : Refusal) → Reading S
  Unfinished : (begun : Option ℕ) → (last : ℕ) → Reading S

-- between two statements a text may end where the state allows it
abbrev pub at_end : {S : Type 0} → (S → Bool) → S → Option ℕ → ℕ → Reading S
at_end may_end state None last = if may_end state then Read state else Unfinished None last
at_end may_end state (Some line) last = Unfinished (Some line) last

-- a lexical fault counts as a refused token
abbrev pub ending : {S : Type 0} → (S → Bool) → Option (Code × ℕ) → Parser S → Reading S
ending may_end fault (Refused refusal) = Refuses refusal
ending may_end fault (Closed state) = Read state
ending may_end (Some (code, line)) (Running state begun last) = Refuses (At code line)
ending may_end None (Running state begun last) = at_end may_end state begun last

-- what reading the rest of a text comes to
unfoldable pub reading_from : {S : Type 0} → Rows S → (S → Bool) → Parser S → Remaining → Reading S
reading_from rows may_end parser rest = ending may_end rest.fault (fold (step rows) parser rest.words)

-- what reading a whole text comes to
abbrev pub reading : {S : Type 0} → Rows S → (S → Bool) → S → Remaining → Reading S
reading rows may_end state text = reading_from rows may_end (begin state) text

-- the code's answer, and the state that it left, are that
abbrev pub IsAnswer : {S : Type 0} → Ending → S → Reading S → Type 0
IsAnswer endings.Read now outcome = outcome ≡ Read now
IsAnswer (endings.Refuses refusal) now outcome = outcome ≡ Refuses refusal
IsAnswer (endings.Unfinished begun last) now outcome = outcome ≡ Unfinished begun last
