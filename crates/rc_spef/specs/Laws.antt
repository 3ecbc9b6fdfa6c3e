-- What holds of the definitions.
use Rattle.std.specs.Prelude.{◌≡◌, ◌↔◌, ◌++◌, ℕ, List, Ok}
use Rattle.std.specs.List.{flat_map}
use Rattle.rc_keys.specs.declared.token.Mode.TheVariants as mode
use Rattle.rc_keys.specs.Lexemes.{words_of}
use Rattle.rc_spef.specs.declared.value.Spef.{Spef}
use Rattle.rc_spef.specs.Text.{spef_text, head_text, net_text}
use Rattle.rc_spef.specs.Rows.{spef_outcome}
use Rattle.rc_spef.specs.Grammar.{IsSpef}
use Rattle.rc_spef.specs.Writable.{IsWritable}

-- a text is its head and the blocks of its nets, one after the other
abbrev pub HeadAndBlocks : Type 0
HeadAndBlocks = (spef : Spef) → spef_text spef ≡ head_text spef ++ flat_map net_text spef.nets

-- a text is read as a value exactly where it says that value by the grammar
abbrev pub AcceptsWhatIsSaid : Type 0
AcceptsWhatIsSaid = (text : List ℕ) (spef : Spef) → (spef_outcome text ≡ Ok spef) ↔ IsSpef (words_of mode.Spef text) spef

-- so it says one value
abbrev pub SaysOneValue : Type 0
SaysOneValue = (text : List ℕ) (one other : Spef) → IsSpef (words_of mode.Spef text) one → IsSpef (words_of mode.Spef text) other → one ≡ other

-- the text of a value that can be written says that value
abbrev pub SaysItsValue : Type 0
SaysItsValue = (spef : Spef) → IsWritable spef → IsSpef (words_of mode.Spef (spef_text spef)) spef

-- and so is read back as it
abbrev pub ReadsBack : Type 0
ReadsBack = (spef : Spef) → IsWritable spef → spef_outcome (spef_text spef) ≡ Ok spef
