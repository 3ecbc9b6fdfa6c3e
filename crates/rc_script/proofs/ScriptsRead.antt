-- Scripts: token by token, and as a relation.
use Rattle.std.proofs.Common.{◌≡◌, ◌∙◌, ℕ, inl, inr, List, ◌++◌, refl, ap, sym, subst}
use Rattle.std.specs.Prelude.{Option, None, Result, Ok, Err}
use Rattle.rc_keys.specs.declared.code.Code.{Code}
use Rattle.rc_keys.specs.declared.fault.Refusal.{Refusal}
use Rattle.rc_keys.specs.declared.token.Mode.TheVariants as mode
use Rattle.rc_keys.specs.Lexemes.{Lexeme, Remaining, words_of}
use Rattle.rc_keys.specs.Course.{Reading, Read, Refuses, Unfinished, reading}
use Rattle.rc_keys.specs.Phrases.{joined}
use Rattle.rc_keys.specs.Statements as statements
use Rattle.rc_keys.specs.Statements.{at_line}
use Rattle.rc_keys.proofs.Readings.{accepts_statements}
use Rattle.rc_keys.proofs.Phrasing.{Step, reads_split, reads_join}
use Rattle.rc_keys.proofs.Blocks.{mean, in_turn, one_step}
use Rattle.rc_wire.specs.declared.operands.Operands.{Operands}
use Rattle.rc_wire.specs.Keys.{key_of}
use Rattle.rc_wire.specs.Items.{item_turn, IsStatement}
use Rattle.rc_wire.proofs.TextsRead as texts
use Rattle.rc_script.specs.declared.command.Command.{Command}
use Rattle.rc_script.specs.declared.draft.Draft.{Draft}
use Rattle.rc_script.specs.declared.item.ScriptItem.{ScriptItem}
use Rattle.rc_script.specs.declared.reader.State.{State}
use Rattle.rc_script.specs.Begins.{begins}
use Rattle.rc_script.specs.Means.{nothing_read}
use Rattle.rc_script.specs.Rows.{as_item, script_format, state_of, script_turn, script_may_end, script_begin, script_outcome, outcome_of}
use Rattle.rc_script.specs.Whole.{IsEnd, IsScript, AcceptsScripts, ScriptsSayOne}

turns : (v : Draft) (item : Option ScriptItem) (place : ℕ) (said : Operands) (word : Lexeme) → script_turn (state_of v item place said) word ≡ item_turn state_of script_format v item place said word
unfolding script_turn
turns v item place said word = refl

some_item : (word : Lexeme) (r : Result ScriptItem Code) → as_item word r ≡ Ok None → ⊥
some_item word (Ok item) is = cc
some_item word (Err code) is = cc

never : (v : Draft) (word : Lexeme) (line : ℕ) → script_format.begins v (key_of word) (at_line line word) ≡ Ok None → ⊥
never v word line is = some_item (at_line line word) (begins v (key_of word) (at_line line word)) is

abbrev at : Draft → State
at v = texts.at state_of script_format script_turn turns never v

abbrev Stands : Draft → State → Type 0
Stands v s = texts.Stands state_of script_format script_turn turns never v s

-- ---- the end of a script

end_of : (v : Draft) (s after : State) (rest : Remaining) → Stands v s → statements.IsEnd script_turn script_may_end s rest after → (w : Draft) × IsEnd v rest.words rest.fault w × Stands w after
end_of v s after rest stands (inl (none, sound, may, same)) = (v, inl (none, sound, refl), same ∙ stands)
end_of v s after rest stands (inr closes) =
    let l = texts.last_of state_of script_format script_turn turns never v s after rest.words stands closes in
    (l.0, inr l.1, l.2)

end_back : (v w : Draft) (rest : Remaining) → IsEnd v rest.words rest.fault w → statements.IsEnd script_turn script_may_end (at v) rest (at w)
end_back v w rest (inl (none, sound, same)) = inl (none, sound, refl, ap at same)
end_back v w rest (inr last) = inr (texts.last_back state_of script_format script_turn turns never v w rest.words last)

-- ---- a whole script

of_text : (text : Remaining) (after : State) → reading script_turn script_may_end script_begin text ≡ Read after → IsScript text after.draft.commands
of_text text after is =
    let r = (accepts_statements script_turn script_may_end script_begin after text).0 is in
    let p = reads_split script_turn script_may_end r.0 script_begin after text r.1 in
    let m = mean Stands (Step script_turn) (IsStatement script_format) (λ u s t words stands step. texts.statement_of state_of script_format script_turn turns never u s t words stands step) r.0 nothing_read script_begin p.0 refl p.3 in
    let e = end_of m.0 p.0 after (record text { words = p.1 }) m.2 p.4 in
    record {
      front = joined r.0;
      rest = p.1;
      parts = p.2;
      mid = m.0;
      statements = record { parts = r.0; whole = refl; each = m.1 };
      read = e.0;
      end = e.1;
      says = ap (λ (s : State). s.draft.commands) e.2;
    }

text_back : (text : Remaining) (commands : List Command) (script : IsScript text commands) → reading script_turn script_may_end script_begin text ≡ Read (at script.read)
text_back text commands script =
    let d = in_turn Stands (Step script_turn) (IsStatement script_format)
    (λ u x s words stands st. one_step Stands (Step script_turn) s (at x) words x (subst (λ q. Step script_turn q words (at x)) (sym stands) (texts.statement_back state_of script_format script_turn turns never u x words st)) refl)
    script.statements.parts nothing_read script.mid script_begin refl script.statements.each in
    let words : text.words ≡ joined d.1 ++ script.rest = script.parts ∙ ap (λ front. front ++ script.rest) (script.statements.whole ∙ sym d.2) in
    (accepts_statements script_turn script_may_end script_begin (at script.read) text).1
    (d.1, reads_join script_turn script_may_end d.1 script_begin d.0 (at script.read) script.rest text words d.3 (rw d.4 (end_back script.mid script.read (record text { words = script.rest }) script.end)))

of_reading : (text : Remaining) (commands : List Command) (r : Reading State) → reading script_turn script_may_end script_begin text ≡ r → outcome_of r ≡ Ok commands → IsScript text commands
of_reading text commands (Read s) is same = let e : s.draft.commands ≡ commands = cc in subst (λ all. IsScript text all) e (of_text text s is)
of_reading text commands (Refuses refusal) is same = absurd cc
of_reading text commands (Unfinished begun last) is same = absurd cc

pub accepts_scripts : AcceptsScripts
unfolding script_outcome
accepts_scripts text commands = (
  λ same. of_reading (words_of mode.Lef text) commands (reading script_turn script_may_end script_begin (words_of mode.Lef text)) refl same,
  λ script. ap outcome_of (text_back (words_of mode.Lef text) commands script) ∙ ap (λ all. Ok all) (sym script.says),
)

pub read_as : (text : List ℕ) (now commands : List Command) → script_outcome text ≡ Ok now → IsScript (words_of mode.Lef text) commands → now ≡ commands
read_as text now commands is script = let e : Ok now ≡ Ok commands = sym is ∙ (accepts_scripts text commands).1 script in cc

pub refused_is_none : (text : List ℕ) (commands : List Command) (refusal : Refusal) → script_outcome text ≡ Err refusal → IsScript (words_of mode.Lef text) commands → ⊥
refused_is_none text commands refusal is script = let e : Err refusal ≡ Ok commands = sym is ∙ (accepts_scripts text commands).1 script in cc

pub say_one : ScriptsSayOne
say_one text first second a b = read_as text first second ((accepts_scripts text first).1 a) b
