-- The line at which a text ends too early.
use Rattle.std.proofs.Common.{◌≡◌, ◌∙◌, ℕ, Bool, true, false, cond, List, [], ◌∷◌, refl, ap, sym, subst}
use Rattle.std.specs.Prelude.{Option, Some, None}
use Rattle.std.specs.List.{fold}
use Rattle.rc_keys.specs.declared.code.Code.{Code}
use Rattle.rc_keys.specs.Lexemes.{Lexeme}
use Rattle.rc_keys.specs.Course.{Turn, Refuse, More, Done, Close, Rows, Parser, Running, Refused, Closed, after_turn, step, begin, line_or, in_statement, Reading, Read, Refuses, Unfinished, ending, reading_from}
use Rattle.rc_keys.specs.Statements.{last_line, EndsAtLast}
use Rattle.rc_keys.proofs.Courses.{refused_stays, closed_stays}

-- while tokens are taken, the last line is this one
abbrev IsAtLast : {S : Type 0} → ℕ → Parser S → Type 0
IsAtLast line (Running state begun last) = last ≡ line
IsAtLast line (Refused refusal) = Unit {0}
IsAtLast line (Closed state) = Unit {0}

goes_on : {S : Type 0} (rows : Rows S) (line : ℕ) (word : Lexeme) (words : List Lexeme) (turn : Turn S)
    → ((s : S) (begun : Option ℕ) → IsAtLast (last_line word.line words) (fold (step rows) (Running s begun word.line) words))
    → IsAtLast (last_line word.line words) (fold (step rows) (after_turn line word.line turn) words)
goes_on rows line word words (Refuse refusal) again = subst (IsAtLast (last_line word.line words)) (sym (refused_stays rows refusal words)) tt
goes_on rows line word words (More state) again = again state (Some line)
goes_on rows line word words (Done state) again = again state None
goes_on rows line word words (Close state) again = subst (IsAtLast (last_line word.line words)) (sym (closed_stays rows state words)) tt

at_last : {S : Type 0} (rows : Rows S) (words : List Lexeme) (state : S) (begun : Option ℕ) (last : ℕ) → IsAtLast (last_line last words) (fold (step rows) (Running state begun last) words)
at_last rows [] state begun last = refl
at_last rows (word ∷ words) state begun last = goes_on rows (line_or begun word.line) word words (rows state (in_statement begun word)) (λ s b. at_last rows words s b word.line)

abbrev line_of : {S : Type 0} → ℕ → Reading S → ℕ
line_of other (Unfinished begun last) = last
line_of other (Read state) = other
line_of other (Refuses refusal) = other

between : {S : Type 0} (may : Bool) (state : S) (begun : Option ℕ) (at last : ℕ) → cond may (Read state) (Unfinished None at) ≡ Unfinished begun last → last ≡ at
between true state begun at last is = absurd cc
between false state begun at last is = ap (line_of 0) (sym is)

tells : {S : Type 0} (may_end : S → Bool) (fault : Option (Code × ℕ)) (parser : Parser S) (line : ℕ) (begun : Option ℕ) (last : ℕ)
    → IsAtLast line parser → ending may_end fault parser ≡ Unfinished begun last → (fault ≡ None) × (last ≡ line)
tells may_end fault (Refused refusal) line begun last at is = absurd cc
tells may_end fault (Closed state) line begun last at is = absurd cc
tells may_end (Some (code, place)) (Running state open' here) line begun last at is = absurd cc
tells may_end None (Running state None here) line begun last at is = (refl, between (may_end state) state begun here last is ∙ at)
tells may_end None (Running state (Some first) here) line begun last at is = (refl, ap (line_of 0) (sym is) ∙ at)

pub ends_at_last : {S : Type 0} (rows : Rows S) (may_end : S → Bool) → EndsAtLast rows may_end
unfolding reading_from
ends_at_last rows may_end before text begun last is = tells may_end text.fault (fold (step rows) (begin before) text.words) (last_line 1 text.words) begun last (at_last rows text.words before None 1) is
