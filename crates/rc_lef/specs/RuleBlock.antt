-- NONDEFAULTRULE r .. END r, statement by statement.
use Rattle.std.specs.Prelude.{◌≡◌, ◌++◌, ℕ, ℤ, Bool, true, false, Some, List, [], ◌∷◌, if◌then◌else◌}
use Rattle.std.specs.List.{list_any}
use Rattle.rc_keys.specs.Lexemes.{Lexeme}
use Rattle.rc_keys.specs.Phrases.{Block}
use Rattle.rc_lef.specs.declared.key.Key.{Key}
use Rattle.rc_lef.specs.declared.key.Key.TheVariants as keys
use Rattle.rc_lef.specs.declared.tech.LayerKind.{LayerKind}
use Rattle.rc_lef.specs.Numbers.{width_joins}
use Rattle.rc_lef.specs.Operands.{kind_named}
use Rattle.rc_lef.specs.Rules.{is_rule}
use Rattle.rc_lef.specs.Technology.{Technology}
use Rattle.rc_lef.specs.Phrases.{Word, semicolon, Name, Size, Are, IsOther}
use Rattle.rc_lef.specs.Skipped.{IsSkippedBlock}
use Rattle.rc_lef.specs.ViaBlock.{ViaParts, no_parts as no_via_parts, ViaStatement, with_new_via}

-- where one stands in a rule: between its statements, in a LAYER of this name and kind, or in a VIA of this name
pub data Place : Type 0 where
  Between : Place
  InLayer : (name : List ℕ) (kind : LayerKind) → Place
  InVia : (name : List ℕ) (parts : ViaParts) → Place

-- what the statements of a rule say so far: the widths on routing layers, by their numbers, and the technology with its vias
pub record RuleParts : Type 0 where
  pub tech : Technology
  pub widths : List (ℕ × ℤ)
  pub place : Place

abbrev pub begins_in_rule : Key → Bool
begins_in_rule keys.Layer = true
begins_in_rule keys.Via = true
begins_in_rule keys.Spacing = true
begins_in_rule keys.End = true
begins_in_rule _ = false

abbrev pub begins_in_rule_layer : Key → Bool
begins_in_rule_layer keys.Width = true
begins_in_rule_layer keys.End = true
begins_in_rule_layer _ = false

abbrev pub is_spacing : Key → Bool
is_spacing keys.Spacing = true
is_spacing _ = false

pub data RuleStatement (before : RuleParts) (words : List Lexeme) (after : RuleParts) : Type 0 where
  -- LAYER l, a layer that is there
  LayerHead : (name : List ℕ) (kind : LayerKind) → before.place ≡ Between → Are (Word keys.Layer ∷ Name name ∷ []) words → kind_named name before.tech.layers ≡ Some kind
      → after ≡ record before { place = InLayer name kind } → RuleStatement before words after
  -- WIDTH w ; in it: the first one of each routing layer counts
  Width : (name : List ℕ) (kind : LayerKind) (width : ℤ) → before.place ≡ InLayer name kind → Are (Word keys.Width ∷ Size before.tech.units width ∷ semicolon ∷ []) words
      → after ≡ record before { widths = width_joins before.widths kind (Some width) } → RuleStatement before words after
  -- others in it are read over
  LayerOther : (name : List ℕ) (kind : LayerKind) → before.place ≡ InLayer name kind → IsOther begins_in_rule_layer words → after ≡ before → RuleStatement before words after
  -- END l
  LayerEnd : (name : List ℕ) (kind : LayerKind) → before.place ≡ InLayer name kind → Are (Word keys.End ∷ Name name ∷ []) words → after ≡ record before { place = Between } → RuleStatement before words after
  -- VIA v .. END v, as between the blocks
  ViaHead : (name : List ℕ) → before.place ≡ Between → Are (Word keys.Via ∷ Name name ∷ []) words → after ≡ record before { place = InVia name no_via_parts } → RuleStatement before words after
  ViaPart : (name : List ℕ) (parts next : ViaParts) → before.place ≡ InVia name parts → ViaStatement before.tech parts words next → after ≡ record before { place = InVia name next } → RuleStatement before words after
  ViaEnd : (name : List ℕ) (parts : ViaParts) → before.place ≡ InVia name parts → Are (Word keys.End ∷ Name name ∷ []) words
      → after ≡ record before { tech = with_new_via before.tech name parts.via; place = Between } → RuleStatement before words after
  -- SPACING .. END SPACING is skipped
  Skipped : before.place ≡ Between → IsSkippedBlock is_spacing words → after ≡ before → RuleStatement before words after
  -- others are read over
  Other : before.place ≡ Between → IsOther begins_in_rule words → after ≡ before → RuleStatement before words after

abbrev pub rule_begun : Technology → RuleParts
rule_begun tech = record { tech = tech; widths = []; place = Between }

abbrev pub RuleBlock : List ℕ → RuleParts → List Lexeme → RuleParts → Type 0
RuleBlock name before words after = Block (Are (Word keys.NonDefaultRule ∷ Name name ∷ [])) RuleStatement (Are (Word keys.End ∷ Name name ∷ [])) before words after

-- ---- the rule

abbrev pub knows_rule : Technology → List ℕ → Bool
knows_rule tech name = list_any (is_rule name) tech.rules

-- a rule of a name that is there is left out; its vias are kept
abbrev pub with_new_rule : Technology → List ℕ → List (ℕ × ℤ) → Technology
with_new_rule tech name widths = record tech { rules = if knows_rule tech name then tech.rules else tech.rules ++ record { name = name; widths = widths } ∷ [] }
