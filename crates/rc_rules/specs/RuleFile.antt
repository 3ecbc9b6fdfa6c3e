-- What a rule file says.
use Rattle.std.specs.Prelude.{◌≡◌, ℕ, Bool, List, [], Option, Some, None, All, is_some, slice_index_or}
use Rattle.rc_lef.specs.declared.units.Units.{Units}
use Rattle.rc_rules.specs.declared.layer.LayerValues.{LayerValues}
use Rattle.rc_rules.specs.Numbers.{IsNumber}
use Rattle.rc_rules.specs.Scales.{IsScale}

-- the units of a micron; by the numbers of routing layers, what stands in the layer's block; by the numbers of cut layers,
-- the resistance of a cut; and that of a contact. Resistances are in 10^-15 ohm
pub record RuleFile : Type 0 where
  pub units : Units
  pub layers : List (Option LayerValues)
  pub cuts : List (Option ℕ)
  pub contact : ℕ

abbrev pub layer_in : List (Option LayerValues) → ℕ → Option LayerValues
layer_in layers layer = slice_index_or layers layer None

abbrev pub cut_in : List (Option ℕ) → ℕ → Option ℕ
cut_in cuts cut = slice_index_or cuts cut None

-- whether the file has a block for a layer
abbrev pub has_block : RuleFile → ℕ → Bool
has_block rules layer = is_some (layer_in rules.layers layer)

-- a block's widths and distances are some, and rise; and no number is too large
pub record IsLayer (values : LayerValues) : Type 0 where
  pub widths : IsScale values.widths
  pub some_width : values.widths ≡ [] → ⊥
  pub distances : IsScale values.distances
  pub some_distance : values.distances ≡ [] → ⊥
  pub resistances : All IsNumber values.resistances
  pub rows : All (All IsNumber) values.rows

-- the file has rules for a layer
pub record HasRules (rules : RuleFile) (layer : ℕ) : Type 0 where
  pub values : LayerValues
  pub block : layer_in rules.layers layer ≡ Some values
  pub sound : IsLayer values
