-- The layers of a technology by name, as rule files name them.
use Rattle.std.specs.Prelude.{ℕ, List, Option, Some, None, count_by, option_map, position, slice_get}
use Rattle.std.specs.Option.{option_and_then}
use Rattle.std.specs.Str.{bytes_eq}
use Rattle.rc_lef.specs.declared.tech.Layer.{Layer}
use Rattle.rc_lef.specs.declared.tech.LayerKind.{LayerKind}
use Rattle.rc_lef.specs.declared.tech.LayerKind.TheVariants as kinds
use Rattle.rc_lef.specs.Technology.{Technology, is_routing, is_cut}

-- the kind of the layer of this name
abbrev pub kind_named : Technology → List ℕ → Option LayerKind
kind_named tech name = option_map (λ (layer : Layer). layer.kind) (option_and_then (λ place. slice_get tech.layers place) (position (λ (layer : Layer). bytes_eq name layer.name) tech.layers))

abbrev pub number_of_routing : Option LayerKind → Option ℕ
number_of_routing (Some (kinds.Routing number)) = Some number
number_of_routing _ = None

abbrev pub number_of_cut : Option LayerKind → Option ℕ
number_of_cut (Some (kinds.Cut number)) = Some number
number_of_cut _ = None

-- the number of the routing layer of this name
unfoldable pub routing_named : Technology → List ℕ → Option ℕ
routing_named tech name = number_of_routing (kind_named tech name)

-- the number of the cut layer of this name
unfoldable pub cut_named : Technology → List ℕ → Option ℕ
cut_named tech name = number_of_cut (kind_named tech name)

-- how many there are
abbrev pub routing_count : Technology → ℕ
routing_count tech = count_by (λ layer. is_routing layer.kind) tech.layers

abbrev pub cut_count : Technology → ℕ
cut_count tech = count_by (λ layer. is_cut layer.kind) tech.layers
