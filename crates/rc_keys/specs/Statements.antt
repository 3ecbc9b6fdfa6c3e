-- What a grammar reads, as a relation: a text is a row of statements.
--
-- A statement is what the rows make one: tokens that they answer with `More`, and a last one with `Done`. It need not be what
-- the format calls one: rows that answer `Done` to each token, as those that skip a block may, make each token a statement.
use Rattle.std.specs.Prelude.{◌≡◌, ◌↔◌, ◌⊎◌, ◌++◌, ℕ, Bool, true, List, [], ◌∷◌, Option, None}
use Rattle.std.specs.List.{fold}
use Rattle.rc_keys.specs.declared.fault.Refusal.{Refusal}
use Rattle.rc_keys.specs.Lexemes.{Lexeme, Remaining}
use Rattle.rc_keys.specs.Course.{Refuse, More, Done, Close, Rows, Running, Refused, step, begin, in_statement, Read, Unfinished, reading}

abbrev pub at_line : ℕ → Lexeme → Lexeme
at_line line word = record word { line = line }

-- the line of the first of these tokens
abbrev pub first_line : List Lexeme → ℕ
first_line [] = 1
first_line (word ∷ words) = word.line

-- a statement: none of its tokens is refused, and its last one ends it. Each stands at the statement's line
abbrev pub IsStatement : {S : Type 0} → Rows S → ℕ → S → List Lexeme → S → Type 0
IsStatement rows line before [] after = ⊥
IsStatement rows line before (word ∷ []) after = rows before (at_line line word) ≡ Done after
IsStatement {S} rows line before (word ∷ second ∷ words) after =
    (mid : S) × (rows before (at_line line word) ≡ More mid) × IsStatement rows line mid (second ∷ words) after

-- a statement that closes the text. Behind it anything may stand
abbrev pub Closes : {S : Type 0} → Rows S → ℕ → S → List Lexeme → S → Type 0
Closes rows line before [] after = ⊥
Closes {S} rows line before (word ∷ words) after =
    (rows before (at_line line word) ≡ Close after)
    ⊎ ((mid : S) × (rows before (at_line line word) ≡ More mid) × Closes rows line mid words after)

-- what stands behind the last statement: nothing, where the text may end, or a statement that closes it
abbrev pub IsEnd : {S : Type 0} → Rows S → (S → Bool) → S → Remaining → S → Type 0
IsEnd rows may_end before rest after =
    ((rest.words ≡ []) × (rest.fault ≡ None) × (may_end before ≡ true) × (after ≡ before)) ⊎ Closes rows (first_line rest.words) before rest.words after

-- these statements one after the other, and then the end
abbrev pub ReadsBy : {S : Type 0} → Rows S → (S → Bool) → List (List Lexeme) → S → Remaining → S → Type 0
ReadsBy rows may_end [] before rest after = IsEnd rows may_end before rest after
ReadsBy {S} rows may_end (statement ∷ statements) before rest after =
    (mid : S) × (others : List Lexeme) × (rest.words ≡ statement ++ others) × IsStatement rows (first_line statement) before statement mid
    × ReadsBy rows may_end statements mid (record rest { words = others }) after

-- a text is read, from the state before it to the state after it
abbrev pub IsRead : {S : Type 0} → Rows S → (S → Bool) → S → Remaining → S → Type 0
IsRead rows may_end before text after = (statements : List (List Lexeme)) × ReadsBy rows may_end statements before text after

-- a refused token: the tokens before it are taken, and after them it is refused
pub record IsRefusedAt {S : Type 0} (rows : Rows S) (before : S) (words : List Lexeme) (refusal : Refusal) : Type 0 where
  pub front : List Lexeme
  pub word : Lexeme
  pub rest : List Lexeme
  pub parts : words ≡ front ++ word ∷ rest
  pub state : S
  pub begun : Option ℕ
  pub last : ℕ
  pub taken : fold (step rows) (begin before) front ≡ Running state begun last
  pub refused : rows state (in_statement begun word) ≡ Refuse refusal

-- the line of the last of these tokens, or this one where there is none
abbrev pub last_line : ℕ → List Lexeme → ℕ
last_line line [] = line
last_line line (word ∷ words) = last_line word.line words

-- ---- the laws of all grammars

-- a text is accepted exactly where it is a row of statements up to its end
abbrev pub AcceptsStatements : {S : Type 0} → Rows S → (S → Bool) → Type 0
AcceptsStatements {S} rows may_end = (before after : S) (text : Remaining) → (reading rows may_end before text ≡ Read after) ↔ IsRead rows may_end before text after

-- some token of a text is refused exactly where there is such a token
abbrev pub RefusesTokens : {S : Type 0} → Rows S → Type 0
RefusesTokens {S} rows = (before : S) (words : List Lexeme) (refusal : Refusal) → (fold (step rows) (begin before) words ≡ Refused refusal) ↔ IsRefusedAt rows before words refusal

-- what is refused stays refused, whatever follows
abbrev pub StaysRefused : {S : Type 0} → Rows S → Type 0
StaysRefused {S} rows = (before : S) (words more : List Lexeme) (refusal : Refusal) → fold (step rows) (begin before) words ≡ Refused refusal → fold (step rows) (begin before) (words ++ more) ≡ Refused refusal

-- a text that ends too early has no fault, and the line that is told is that of its last token, or 1 where it has none
abbrev pub EndsAtLast : {S : Type 0} → Rows S → (S → Bool) → Type 0
EndsAtLast {S} rows may_end = (before : S) (text : Remaining) (begun : Option ℕ) (last : ℕ) → reading rows may_end before text ≡ Unfinished begun last → (text.fault ≡ None) × (last ≡ last_line 1 text.words)
