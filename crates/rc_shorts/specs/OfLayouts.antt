-- The shapes of a linked layout.
use Rattle.std.specs.Prelude.{ℕ, ◌<◌, ◌≤◌, ◌^◌, List, map, length}
use Rattle.std.specs.List.{flat_map, enumerate_from}
use Rattle.rc_layout.specs.declared.item.Item.{Item}
use Rattle.rc_layout.specs.declared.net.Net.{Net}
use Rattle.rc_layout.specs.Layouts.{Wired}
use Rattle.rc_layout.specs.Metal.{all_nets}
use Rattle.rc_shorts.specs.declared.shape.Shape.{Shape}
use Rattle.rc_shorts.specs.declared.shape.Short.{Short}
use Rattle.rc_shorts.specs.Places.{Metal, net_shapes, shapes_of}

abbrev pub metal_of : Item → Metal
metal_of item = (item.layer, item.rect)

abbrev pub net_metal : Net → List Metal
net_metal net = map metal_of net.items

-- the items of all nets, the grounded ones last, each with its net's number and its own
abbrev pub layout_shapes : Wired → List Shape
layout_shapes wired = shapes_of (map net_metal (all_nets wired))

-- both nets are numbers of nets of the layout
pub record NamesNets (wired : Wired) (short : Short) : Type 0 where
  pub first : short.first < length (all_nets wired)
  pub second : short.second < length (all_nets wired)

-- a net has at most 2^22 items
abbrev pub HasFewItems : Net → Type 0
HasFewItems net = length net.items ≤ 2 ^ 22

-- the shapes of these nets, which are numbered from there on
abbrev pub shapes_from : ℕ → List Net → List Shape
shapes_from first nets = flat_map (λ e. net_shapes e.0 (net_metal e.1)) (enumerate_from first nets)
