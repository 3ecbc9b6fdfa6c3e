-- What a rule file rates faces, wires and cuts at.
use Rattle.std.specs.Prelude.{◌<◌, ◌^◌, ℕ, ◌+◌, ◌-◌, ◌*◌, ◌==◌, ◌&&◌, Bool, true, false, List, [], Option, Some, None, fold, length, max, min, nat_le, position, slice_index, slice_index_or}
use Rattle.std.specs.Option.{option_and_then, option_map_or, option_or}
use Rattle.std.specs.List.{position_or_len}
use Rattle.rc_geom.specs.Rates.{Rates}
use Rattle.rc_rules.specs.declared.layer.LayerValues.{LayerValues}
use Rattle.rc_rules.specs.declared.pair.Pair.{Pair}
use Rattle.rc_rules.specs.Scales.{last_step}
use Rattle.rc_rules.specs.RuleFile.{RuleFile, HasRules, layer_in}

-- ---- the table

-- both are that layer, or both are none
abbrev pub is_layer : Option ℕ → Option ℕ → Bool
is_layer None None = true
is_layer None (Some l) = false
is_layer (Some k) None = false
is_layer (Some k) (Some l) = k == l

-- a table is for these layers, under and over
abbrev pub is_for : Option ℕ → Option ℕ → Pair → Bool
is_for under over pair = is_layer pair.under under && is_layer pair.over over

-- the place of the table for both layers, else of the one for the layer under alone, else of the one for none
abbrev pub table_for : List Pair → Option ℕ → Option ℕ → Option ℕ
table_for pairs under over = option_or (position (is_for under over) pairs) (option_or (position (is_for under None) pairs) (position (is_for None None) pairs))

-- ---- the row

-- the place of the first width that is at least this one, else of the last
abbrev pub width_row : List ℕ → ℕ → ℕ
width_row widths width = min (position_or_len (λ step. nat_le width step) widths) (length widths - 1)

-- the rows of a block stand table by table, one a width
abbrev pub row_at : LayerValues → ℕ → ℕ → List ℕ
row_at values thick table = slice_index_or values.rows (table * length values.widths + width_row values.widths thick) []

abbrev pub row_of : LayerValues → Option ℕ → Option ℕ → ℕ → List ℕ
row_of values under over thick = option_map_or (row_at values thick) (table_for values.pairs under over) []

-- ---- the column

-- the place of the first distance that is at least the gap; none where the face is open or the gap is past the last one
abbrev pub distance_column : List ℕ → Option ℕ → Option ℕ
distance_column distances gap = option_and_then (λ d. position (λ step. nat_le d step) distances) gap

-- the two numbers of a column; without one the row's last number, and no share
abbrev pub numbers_at : List ℕ → List ℕ → Option ℕ → ℕ × ℕ
numbers_at distances row None = (slice_index row (2 * length distances), 0)
numbers_at distances row (Some k) = (slice_index row (2 * k), slice_index row (2 * k + 1))

-- ---- the look-up

-- what a face adds to ground, and what it shares, by the layers with metal under and over it, its thickness and its gap
abbrev pub face_rate : LayerValues → Option ℕ → Option ℕ → ℕ → Option ℕ → ℕ × ℕ
face_rate values under over thick gap = numbers_at values.distances (row_of values under over thick) (distance_column values.distances gap)

-- the same by the layer's number; nothing where the layer has no block
unfoldable pub rates : RuleFile → Rates ℕ
rates rules = record {
  cap = λ layer. option_map_or (λ (values : LayerValues). last_step values.widths) (layer_in rules.layers layer) 0;
  reach = λ layer. option_map_or (λ (values : LayerValues). last_step values.distances) (layer_in rules.layers layer) 0;
  rate = λ layer under over thick gap. option_map_or (λ values. face_rate values under over thick gap) (layer_in rules.layers layer) (0, 0);
}

-- the resistance of one unit of a wire of that width
abbrev pub unit_resistance : LayerValues → ℕ → ℕ
unit_resistance values width = slice_index values.resistances (width_row values.widths width)

abbrev pub ohm_of : RuleFile → ℕ → ℕ → ℕ
ohm_of rules layer width = option_map_or (λ values. unit_resistance values width) (layer_in rules.layers layer) 0

-- ---- how far a face can look

-- by one block: one unit past the last distance, and the last width
abbrev pub farthest : ℕ → Option LayerValues → ℕ
farthest most None = most
farthest most (Some values) = max most (max (last_step values.distances + 1) (last_step values.widths))

abbrev pub halo_of : RuleFile → ℕ
halo_of rules = fold farthest 1 rules.layers

-- ---- what holds of every rule file

-- all that a face of a layer with rules is rated at lies below 2^57
abbrev pub RatesAreSmall : Type 0
RatesAreSmall = (rules : RuleFile) (layer : ℕ) (under over : Option ℕ) (thick : ℕ) (gap : Option ℕ) → HasRules rules layer
    → ((rates rules).rate layer under over thick gap).0 < 2 ^ 57 × ((rates rules).rate layer under over thick gap).1 < 2 ^ 57
