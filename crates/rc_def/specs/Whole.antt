-- A DEF file as a relation: statements of items, one after the other, up to END DESIGN.
use Rattle.std.specs.Prelude.{◌≡◌, ◌↔◌, ℕ, List, Result, Ok, Err}
use Rattle.rc_keys.specs.declared.fault.Fault.{Fault}
use Rattle.rc_keys.specs.declared.fault.Fault.TheVariants as faults
use Rattle.rc_keys.specs.declared.token.Mode.TheVariants as mode
use Rattle.rc_keys.specs.Lexemes.{Lexeme, words_of}
use Rattle.rc_wire.specs.Items.{IsText}
use Rattle.rc_def.specs.declared.design.RawDesign.{RawDesign}
use Rattle.rc_def.specs.declared.draft.Draft.{Draft}
use Rattle.rc_def.specs.Drafts.{nothing_read, design_of}
use Rattle.rc_def.specs.File.{def_format, def_outcome}

-- the tokens are a file, and that is the design which it says
pub record IsFile (words : List Lexeme) (design : RawDesign) : Type 0 where
  pub read : Draft
  pub text : IsText def_format nothing_read words read
  pub says : design ≡ design_of read.header read.lists

-- the law of the reader: a text is accepted exactly where its tokens are a file, and gives the design that the file says
abbrev pub AcceptsFiles : Type 0
AcceptsFiles = (text : List ℕ) (design : RawDesign) → (def_outcome text ≡ Ok design) ↔ IsFile (words_of mode.Lef text).words design

-- a file says one design
abbrev pub FilesSayOne : Type 0
FilesSayOne = (text : List ℕ) (first second : RawDesign) → IsFile (words_of mode.Lef text).words first → IsFile (words_of mode.Lef text).words second → first ≡ second

-- what is a file is read as that, but for want of memory
abbrev pub ReadsAs : Result RawDesign Fault → RawDesign → Type 0
ReadsAs (Ok read) design = read ≡ design
ReadsAs (Err fault) design = fault ≡ faults.NoMemory
