-- A rule file: statements, up to END RULES.
use Rattle.std.specs.Prelude.{◌≡◌, ◌↔◌, ◌++◌, ℕ, Ok, List, ◌∷◌, length}
use Rattle.rc_keys.specs.declared.token.Mode.TheVariants as mode
use Rattle.rc_keys.specs.Lexemes.{Lexeme, Remaining, words_of}
use Rattle.rc_keys.specs.Phrases.{InTurn}
use Rattle.rc_lef.specs.declared.units.Units.{Units}
use Rattle.rc_lef.specs.Technology.{Technology}
use Rattle.rc_rules.specs.declared.key.Key.TheVariants as keys
use Rattle.rc_rules.specs.declared.state.Stage.TheVariants as stages
use Rattle.rc_rules.specs.declared.state.Progress.{Progress}
use Rattle.rc_rules.specs.Keys.{key_of}
use Rattle.rc_rules.specs.Layers.{routing_count, cut_count}
use Rattle.rc_rules.specs.RuleFile.{RuleFile}
use Rattle.rc_rules.specs.Rows.{no_progress, rules_in, rules_outcome}
use Rattle.rc_rules.specs.Statements.{Statement}

-- END RULES ; behind which nothing is looked at
abbrev pub BeginsWithEnd : List Lexeme → Type 0
BeginsWithEnd (end ∷ rules ∷ semicolon ∷ words) = (key_of end ≡ keys.End) × (key_of rules ≡ keys.Rules) × (key_of semicolon ≡ keys.Semicolon)
BeginsWithEnd _ = ⊥

-- over a technology with these units of a micron, the tokens of a text are a rule file that says this
pub record IsFile (units : Units) (tech : Technology) (text : Remaining) (rules : RuleFile) : Type 0 where
  pub front : List Lexeme
  pub rest : List Lexeme
  pub last : Progress
  pub words : text.words ≡ front ++ rest
  pub statements : InTurn (Statement units tech) (no_progress tech) front last
  -- the heading stands, and no block is open
  pub outside : last.stage ≡ stages.Entries
  pub ends : BeginsWithEnd rest
  pub says : rules ≡ rules_in units last

-- ---- the law of the reader: a text is accepted exactly where its tokens are a rule file, and as what that says
abbrev pub AcceptsFiles : Type 0
AcceptsFiles = (units : Units) (tech : Technology) (rules : RuleFile) (text : List ℕ) → (rules_outcome units tech text ≡ Ok rules) ↔ IsFile units tech (words_of mode.Lef text) rules

-- a rule file says one thing
abbrev pub FilesSayOne : Type 0
FilesSayOne = (units : Units) (tech : Technology) (first second : RuleFile) (text : List ℕ) → IsFile units tech (words_of mode.Lef text) first → IsFile units tech (words_of mode.Lef text) second → first ≡ second

-- ---- what a rule file keeps of the technology that it is read over

-- the rules have its units, and a place for each of its routing layers and for each of its cut layers
pub record KeepsLayers (units : Units) (tech : Technology) (rules : RuleFile) : Type 0 where
  pub in_a_micron : rules.units ≡ units
  pub routing : length rules.layers ≡ routing_count tech
  pub cut : length rules.cuts ≡ cut_count tech

abbrev pub FilesKeepLayers : Type 0
FilesKeepLayers = (units : Units) (tech : Technology) (rules : RuleFile) (text : List ℕ) → IsFile units tech (words_of mode.Lef text) rules → KeepsLayers units tech rules
