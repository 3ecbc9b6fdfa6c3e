-- Reading a text token by token.
use Rattle.std.proofs.Common.{◌≡◌, ◌∙◌, ℕ, Bool, true, false, List, [], ◌∷◌, refl, ap, sym}
use Rattle.std.specs.Prelude.{Option, Some, None}
use Rattle.std.specs.List.{fold}
use Rattle.rc_keys.specs.declared.code.Code.{Code}
use Rattle.rc_keys.specs.declared.fault.Refusal.{Refusal}
use Rattle.rc_keys.specs.Lexemes.{Lexeme, Remaining}
use Rattle.rc_keys.specs.Course.{Turn, Rows, Parser, Running, Refused, Closed, line_or, in_statement, after_turn, step, Read, Refuses, Unfinished, reading_from, ending}

one : {S : Type 0} (rows : Rows S) (may_end : S → Bool) (parser : Parser S) (old new : Remaining) (word : Lexeme) → old ≡ record new { words = word ∷ new.words }
    → reading_from rows may_end parser old ≡ reading_from rows may_end (step rows parser word) new
unfolding reading_from
one rows may_end parser old new word is = rw is refl

-- a token that does this leads there
pub takes : {S : Type 0} (rows : Rows S) (may_end : S → Bool) (state : S) (begun : Option ℕ) (last : ℕ) (old new : Remaining) (word there : Lexeme) (line : ℕ) (turn : Turn S)
    → old ≡ record new { words = word ∷ new.words } → line ≡ line_or begun word.line → there ≡ record word { line = line } → rows state there ≡ turn
    → reading_from rows may_end (Running state begun last) old ≡ reading_from rows may_end (after_turn line word.line turn) new
takes {S} rows may_end state begun last old new word there line turn is at same does =
    let e : rows state (in_statement begun word) ≡ turn = ap (rows state) (sym (same ∙ ap (λ l. record word { line = l }) at)) ∙ does in
    one rows may_end (Running state begun last) old new word is ∙ rw (e, at) refl

pub refused_stays : {S : Type 0} (rows : Rows S) (refusal : Refusal) (words : List Lexeme) → fold (step rows) (Refused refusal) words ≡ Refused refusal
refused_stays rows refusal [] = refl
refused_stays rows refusal (word ∷ words) = refused_stays rows refusal words

pub closed_stays : {S : Type 0} (rows : Rows S) (state : S) (words : List Lexeme) → fold (step rows) (Closed state) words ≡ Closed state
closed_stays rows state [] = refl
closed_stays rows state (word ∷ words) = closed_stays rows state words

pub refuses : {S : Type 0} (rows : Rows S) (may_end : S → Bool) (refusal : Refusal) (rest : Remaining) → reading_from rows may_end (Refused refusal) rest ≡ Refuses refusal
unfolding reading_from
refuses rows may_end refusal rest = rw (refused_stays rows refusal rest.words) refl

pub closes : {S : Type 0} (rows : Rows S) (may_end : S → Bool) (state : S) (rest : Remaining) → reading_from rows may_end (Closed state) rest ≡ Read state
unfolding reading_from
closes rows may_end state rest = rw (closed_stays rows state rest.words) refl

pub no_more : {S : Type 0} (rows : Rows S) (may_end : S → Bool) (parser : Parser S) (rest : Remaining) → rest.words ≡ [] → reading_from rows may_end parser rest ≡ ending may_end rest.fault parser
unfolding reading_from
no_more rows may_end parser rest is = rw is refl

-- the end of the text
pub ends : {S : Type 0} (rows : Rows S) (may_end : S → Bool) (state : S) (begun : Option ℕ) (last : ℕ) (old new : Remaining) (fault : Option (Code × ℕ))
    → old.words ≡ [] → new ≡ old → new.fault ≡ fault → reading_from rows may_end (Running state begun last) old ≡ ending may_end fault (Running state begun last)
ends rows may_end state begun last old new fault none same is =
    no_more rows may_end (Running state begun last) old none ∙ ap (λ f. ending may_end f (Running state begun last)) (ap (λ (r : Remaining). r.fault) (sym same) ∙ is)

pub in_statement_ends : {S : Type 0} (may_end : S → Bool) (state : S) (begun : Option ℕ) (last line : ℕ) → begun ≡ Some line → ending may_end None (Running state begun last) ≡ Unfinished begun last
in_statement_ends may_end state begun last line is = rw is refl

pub too_early : {S : Type 0} (may_end : S → Bool) (state : S) (begun : Option ℕ) (last : ℕ) → begun ≡ None → may_end state ≡ false → ending may_end None (Running state begun last) ≡ Unfinished None last
too_early may_end state begun last is not = rw (is, not) refl

pub in_time : {S : Type 0} (may_end : S → Bool) (state : S) (begun : Option ℕ) (last : ℕ) → begun ≡ None → may_end state ≡ true → ending may_end None (Running state begun last) ≡ Read state
in_time may_end state begun last is may = rw (is, may) refl
