-- A LEF file: blocks and statements, up to END LIBRARY or to its end.
use Rattle.std.specs.Prelude.{◌≡◌, ◌↔◌, ◌⊎◌, ◌++◌, ◌||◌, ℕ, Bool, true, Option, Some, None, Ok, List, [], ◌∷◌}
use Rattle.rc_keys.specs.declared.token.Mode.TheVariants as mode
use Rattle.rc_keys.specs.Lexemes.{Lexeme, Remaining, words_of}
use Rattle.rc_keys.specs.Phrases.{InTurn}
use Rattle.rc_lef.specs.declared.key.Key.{Key}
use Rattle.rc_lef.specs.declared.key.Key.TheVariants as keys
use Rattle.rc_geom.specs.declared.rect.Pt.{Pt}
use Rattle.rc_lef.specs.declared.units.Units.{Units}
use Rattle.rc_lef.specs.Keys.{key_of}
use Rattle.rc_lef.specs.Technology.{Technology}
use Rattle.rc_lef.specs.Rows.{lef_outcome}
use Rattle.rc_lef.specs.Phrases.{IsOther}
use Rattle.rc_lef.specs.UnitsBlock.{UnitsBlock}
use Rattle.rc_lef.specs.LayerBlock.{LayerBlock, LayerParts, no_parts, is_complete, with_new_layer}
use Rattle.rc_lef.specs.ViaBlock.{ViaBlock, ViaParts, no_parts as no_via_parts, with_new_via}
use Rattle.rc_lef.specs.RuleBlock.{RuleBlock, RuleParts, rule_begun, with_new_rule, Between as between_rules}
use Rattle.rc_lef.specs.MacroBlock.{MacroBlock, MacroParts, no_parts as no_macro_parts, with_new_macro, Between as between_pins}
use Rattle.rc_lef.specs.Skipped.{IsSkipped, is_skipped_by_name, is_skipped_by_word}

-- what is read by a row of its own
abbrev pub begins_at_top : Key → Bool
begins_at_top keys.Units = true
begins_at_top keys.Layer = true
begins_at_top keys.Via = true
begins_at_top keys.NonDefaultRule = true
begins_at_top keys.Macro = true
begins_at_top keys.BeginExt = true
begins_at_top keys.End = true
begins_at_top key = is_skipped_by_name key || is_skipped_by_word key

-- a block or a statement between the blocks, and the technology before and after it
pub data Entry (before : Technology) (words : List Lexeme) (after : Technology) : Type 0 where
  -- UNITS .. END UNITS
  UnitsPart : (units : Option Units) → UnitsBlock before.units words units → after ≡ record before { units = units } → Entry before words after
  -- LAYER l .. END l
  LayerPart : (name : List ℕ) (parts : LayerParts) → LayerBlock before name no_parts words parts → is_complete parts ≡ true → after ≡ with_new_layer before name parts → Entry before words after
  -- VIA v .. END v
  ViaPart : (name : List ℕ) (parts : ViaParts) → ViaBlock before name no_via_parts words parts → after ≡ with_new_via before name parts.via → Entry before words after
  -- NONDEFAULTRULE r .. END r
  RulePart : (name : List ℕ) (parts : RuleParts) → RuleBlock name (rule_begun before) words parts → parts.place ≡ between_rules → after ≡ with_new_rule parts.tech name parts.widths → Entry before words after
  -- MACRO c .. END c, which has a SIZE
  MacroPart : (name : List ℕ) (parts : MacroParts) (size : Pt) → MacroBlock before name no_macro_parts words parts → parts.place ≡ between_pins → parts.cell.size ≡ Some size → after ≡ with_new_macro before name size parts.cell → Entry before words after
  -- VIARULE, SITE, ARRAY, PROPERTYDEFINITIONS, SPACING, BEGINEXT
  SkippedPart : IsSkipped words → after ≡ before → Entry before words after
  -- others are read over
  OtherPart : IsOther begins_at_top words → after ≡ before → Entry before words after

abbrev pub BeginsWithEnd : List Lexeme → Type 0
BeginsWithEnd (end ∷ library ∷ words) = (key_of end ≡ keys.End) × (key_of library ≡ keys.Library)
BeginsWithEnd _ = ⊥

-- a file takes the technology before it to the one after it
pub record IsFile (before : Technology) (text : Remaining) (after : Technology) : Type 0 where
  pub front : List Lexeme
  pub rest : List Lexeme
  pub words : text.words ≡ front ++ rest
  pub entries : InTurn Entry before front after
  -- behind END LIBRARY nothing is looked at
  pub ends : BeginsWithEnd rest ⊎ (rest ≡ []) × (text.fault ≡ None)

-- ---- the law of the reader: a text is accepted exactly where its tokens are a file, and leaves what that leaves
abbrev pub AcceptsFiles : Type 0
AcceptsFiles = (before after : Technology) (text : List ℕ) → (lef_outcome before text ≡ Ok after) ↔ IsFile before (words_of mode.Lef text) after

-- what a file leaves is one technology
abbrev pub FilesLeaveOne : Type 0
FilesLeaveOne = (before first second : Technology) (text : List ℕ) → IsFile before (words_of mode.Lef text) first → IsFile before (words_of mode.Lef text) second → first ≡ second
