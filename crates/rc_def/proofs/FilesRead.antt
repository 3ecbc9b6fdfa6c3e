-- DEF files: token by token, and as a relation.
use Rattle.std.proofs.Common.{◌≡◌, ◌∙◌, ℕ, List, refl, ap, sym}
use Rattle.std.specs.Prelude.{Option, None, Result, Ok, Err}
use Rattle.rc_keys.specs.declared.code.Code.{Code}
use Rattle.rc_keys.specs.declared.fault.Refusal.{Refusal}
use Rattle.rc_keys.specs.declared.token.Mode.TheVariants as mode
use Rattle.rc_keys.specs.Lexemes.{Lexeme, Remaining, words_of}
use Rattle.rc_keys.specs.Course.{Reading, Read, Refuses, Unfinished, reading}
use Rattle.rc_keys.specs.Statements.{at_line}
use Rattle.rc_wire.specs.declared.operands.Operands.{Operands}
use Rattle.rc_wire.specs.Keys.{key_of}
use Rattle.rc_wire.specs.Items.{item_turn}
use Rattle.rc_wire.proofs.TextsRead.{text_of, text_back}
use Rattle.rc_def.specs.declared.design.RawDesign.{RawDesign}
use Rattle.rc_def.specs.declared.draft.Draft.{Draft}
use Rattle.rc_def.specs.declared.item.DefItem.{DefItem}
use Rattle.rc_def.specs.declared.reader.State.{State}
use Rattle.rc_def.specs.Begins.{begins}
use Rattle.rc_def.specs.Drafts.{nothing_read, design_of}
use Rattle.rc_def.specs.File.{as_item, def_format, state_of, def_turn, def_may_end, def_begin, def_outcome, outcome_of}
use Rattle.rc_def.specs.Whole.{IsFile, AcceptsFiles, FilesSayOne}

turns : (v : Draft) (item : Option DefItem) (place : ℕ) (said : Operands) (word : Lexeme) → def_turn (state_of v item place said) word ≡ item_turn state_of def_format v item place said word
unfolding def_turn
turns v item place said word = refl

some_item : (v : Draft) (word : Lexeme) (r : Result DefItem Code) → as_item v word r ≡ Ok None → ⊥
some_item v word (Ok item) is = cc
some_item v word (Err code) is = cc

never : (v : Draft) (word : Lexeme) (line : ℕ) → def_format.begins v (key_of word) (at_line line word) ≡ Ok None → ⊥
never v word line is = some_item v (at_line line word) (begins v (key_of word) (at_line line word)) is

of_reading : (text : Remaining) (design : RawDesign) (r : Reading State) → reading def_turn def_may_end def_begin text ≡ r → outcome_of r ≡ Ok design → IsFile text.words design
of_reading text design (Read s) is same =
    let t = text_of state_of def_format def_turn turns never nothing_read s text is in
    let a : design_of s.draft.header s.draft.lists ≡ design = cc in
    let b : s.draft ≡ t.0 = ap (λ (u : State). u.draft) t.2 in
    record { read = t.0; text = t.1; says = sym a ∙ ap (λ (v : Draft). design_of v.header v.lists) b }
of_reading text design (Refuses refusal) is same = absurd cc
of_reading text design (Unfinished begun last) is same = absurd cc

pub accepts_files : AcceptsFiles
unfolding def_outcome
accepts_files text design = (
  λ same. of_reading (words_of mode.Lef text) design (reading def_turn def_may_end def_begin (words_of mode.Lef text)) refl same,
  λ file. ap outcome_of (text_back state_of def_format def_turn turns never nothing_read file.read (words_of mode.Lef text) file.text) ∙ ap (λ d. Ok d) (sym file.says),
)

pub read_as : (text : List ℕ) (now design : RawDesign) → def_outcome text ≡ Ok now → IsFile (words_of mode.Lef text).words design → now ≡ design
read_as text now design is file = let e : Ok now ≡ Ok design = sym is ∙ (accepts_files text design).1 file in cc

pub refused_is_none : (text : List ℕ) (design : RawDesign) (refusal : Refusal) → def_outcome text ≡ Err refusal → IsFile (words_of mode.Lef text).words design → ⊥
refused_is_none text design refusal is file = let e : Err refusal ≡ Ok design = sym is ∙ (accepts_files text design).1 file in cc

pub say_one : FilesSayOne
say_one text first second a b = read_as text first second ((accepts_files text first).1 a) b
