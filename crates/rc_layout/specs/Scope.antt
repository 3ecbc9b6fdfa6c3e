-- What the entries of a design may name.
use Rattle.std.specs.Prelude.{ℕ, ℤ, ◌==◌, Bool, Option, Some, None, is_some, option_map, position, slice_get, Ok, List}
use Rattle.std.specs.List.{find}
use Rattle.std.specs.Str.{bytes_eq}
use Rattle.rc_keys.specs.declared.code.Code.TheVariants.{E04, E06}
use Rattle.rc_keys.specs.declared.fault.Refusal.TheVariants.{At}
use Rattle.rc_lef.specs.declared.tech.Layer.{Layer}
use Rattle.rc_lef.specs.declared.tech.LayerKind.{LayerKind}
use Rattle.rc_lef.specs.declared.tech.LayerKind.TheVariants as kinds
use Rattle.rc_lef.specs.declared.via.Via.{Via}
use Rattle.rc_lef.specs.Operands.{kind_named}
use Rattle.rc_layout.specs.declared.part.Rule.{Rule}
use Rattle.rc_layout.specs.declared.parts.Parts.{Parts}
use Rattle.rc_layout.specs.declared.stroke.Stroke.{Stroke}
use Rattle.rc_layout.specs.declared.stroke.Style.{Style}
use Rattle.rc_layout.specs.Widths.{layer_width}
use Rattle.rc_layout.specs.Refusals.{Linked, there, unless, ◌>>=◌, ◌>>◌}

-- the item at a place, with its number
abbrev pub item_at : {X : Type 0} → List X → Option ℕ → Option (ℕ × X)
item_at xs (Some k) = option_map (λ x. (k, x)) (slice_get xs k)
item_at xs None = None

-- the first item that passes, with its number
abbrev pub numbered : {X : Type 0} → (X → Bool) → List X → Option (ℕ × X)
numbered p xs = item_at xs (position p xs)

-- ---- layers

abbrev pub kind_of : List Layer → List ℕ → Option LayerKind
kind_of layers name = kind_named name layers

abbrev pub routing_number : LayerKind → Option ℕ
routing_number (kinds.Routing number) = Some number
routing_number _ = None

-- the routing layer of that name
abbrev pub routing_named : List Layer → List ℕ → Option ℕ
routing_named layers name = routing_in (kind_of layers name)
  where
    routing_in : Option LayerKind → Option ℕ
    routing_in (Some kind) = routing_number kind
    routing_in None = None

abbrev pub layer_named : List Layer → ℕ → List ℕ → Linked LayerKind
layer_named layers line name = there (At E06 line) (kind_of layers name)

abbrev pub path_layer : List Layer → ℕ → List ℕ → Linked ℕ
path_layer layers line name = there (At E06 line) (routing_named layers name)

-- ---- widths

abbrev pub rule_named : List Rule → ℕ → List ℕ → Linked ℕ
rule_named rules line name = there (At E06 line) (position (λ rule. bytes_eq name rule.name) rules)

-- the width that a rule names for a routing layer
abbrev pub ruled_width : Option Rule → ℕ → Option ℤ
ruled_width (Some rule) number = option_map (λ entry. entry.1) (find (λ entry. number == entry.0) rule.widths)
ruled_width None number = None

abbrev pub rule_at : List Rule → Option ℕ → Option Rule
rule_at rules (Some number) = slice_get rules number
rule_at rules None = None

-- a path with a width of its own has it on each layer. Another is as wide as its rule says on the layers that the rule
-- names, and else as the layer says
abbrev pub width_on : Parts → Style → ℕ → ℤ
width_on parts style number = own_or style.own
  where
    ruled_or : Option ℤ → ℤ
    ruled_or (Some width) = width
    ruled_or None = layer_width parts.tech.layers number

    own_or : Option ℤ → ℤ
    own_or (Some width) = width
    own_or None = ruled_or (ruled_width (rule_at parts.rules style.rule) number)

-- the ends of a path with a width of its own are bare
abbrev pub stroke_on : Parts → Style → ℕ → Stroke
stroke_on parts style number = record { layer = number; width = width_on parts style number; bare = is_some style.own }

-- ---- vias

-- the via of that name, with its number; it has to be usable
unfoldable pub usable_via : List Via → ℕ → List ℕ → Linked (ℕ × Via)
usable_via vias line name =
    there (At E06 line) (numbered (λ via. bytes_eq name via.name) vias) >>= λ found.
    unless found.1.usable (At E04 line) >> Ok found
