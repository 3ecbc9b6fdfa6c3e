-- How wide wires are where no nondefault rule says otherwise.
use Rattle.std.specs.Prelude.{ℕ, ℤ, pos, ◌==◌, Bool, false, Option, Some, None, List, map}
use Rattle.std.specs.List.{find, range_with_len}
use Rattle.rc_geom.specs.Context.{layer_count}
use Rattle.rc_lef.specs.declared.tech.Layer.{Layer}
use Rattle.rc_lef.specs.declared.tech.LayerKind.{LayerKind}
use Rattle.rc_lef.specs.declared.tech.LayerKind.TheVariants as kinds

abbrev pub has_number : ℕ → LayerKind → Bool
has_number number (kinds.Routing other) = number == other
has_number number _ = false

abbrev pub width_of : Option Layer → ℤ
width_of (Some layer) = layer.width
width_of None = pos 0

-- the width that wires on a routing layer have where no rule says otherwise
abbrev pub layer_width : List Layer → ℕ → ℤ
layer_width layers number = width_of (find (λ layer. has_number number layer.kind) layers)

-- those of all routing layers that there may be
unfoldable pub layer_widths : List Layer → List ℤ
layer_widths layers = map (layer_width layers) (range_with_len 0 layer_count)
