-- What stands on each unit square of a layout: the metal of all its nets.
use Rattle.std.specs.Prelude.{◌≡◌, ℕ, List, [], ◌∷◌, ◌++◌, None, is_some, IsTrue, AllPairs, length, map, option_map}
use Rattle.std.specs.Option.{option_or}
use Rattle.std.specs.List.{enumerate_from, flat_map, AllZip}
use Rattle.rc_geom.specs.declared.rect.Pt.{Pt}
use Rattle.rc_geom.specs.declared.tile.Tile.{Tile}
use Rattle.rc_geom.specs.Plane.{Plane, plane_of}
use Rattle.rc_layout.specs.declared.item.Item.{Item}
use Rattle.rc_layout.specs.declared.net.Net.{Net}
use Rattle.rc_layout.specs.Layouts.{Wired}
use Rattle.rc_layout.specs.Metal.{metal}
use Rattle.rc_nodes.specs.declared.node.Node.{Node}
use Rattle.rc_nodes.specs.Nodes.{nodes_of}
use Rattle.rc_nodes.specs.NetPlane.{first_over, net_plane}

-- a net's number, its nodes, none where it is grounded, and its items
pub record DrawnNet : Type 0 where
  pub number : ℕ
  pub nodes : List Node
  pub items : List Item

abbrev pub plane_of_net : DrawnNet → Plane
plane_of_net net = net_plane net.number net.nodes net.items

-- a square has the metal of the first of some nets with an item over it
abbrev pub plane_of_nets : List DrawnNet → Plane
plane_of_nets [] layer p = None
plane_of_nets (net ∷ nets) layer p = option_or (plane_of_net net layer p) (plane_of_nets nets layer p)

-- a net with its number, and a grounded one
abbrev pub own_net : ℕ × Net → DrawnNet
own_net numbered = record { number = numbered.0; nodes = nodes_of numbered.1; items = numbered.1.items }

abbrev pub grounded_net : ℕ × Net → DrawnNet
grounded_net numbered = record { number = numbered.0; nodes = []; items = numbered.1.items }

-- the nets of a layout by their numbers, grounded ones last
unfoldable pub drawn_nets : Wired → List DrawnNet
drawn_nets layout = map own_net (enumerate_from 0 layout.nets) ++ map grounded_net (enumerate_from (length layout.nets) layout.grounded)

-- the plane of a layout
abbrev pub layout_plane : Wired → Plane
layout_plane layout = plane_of_nets (drawn_nets layout)

-- ---- laws

-- no square has items of two nets over it, as where there is no short
abbrev pub SharesNoSquare : DrawnNet → DrawnNet → Type 0
SharesNoSquare a b = (layer : ℕ) (p : Pt) → IsTrue (is_some (first_over a.items layer p)) → first_over b.items layer p ≡ None

-- the tiles of all nets, one after another, make the plane of the nets
abbrev pub TilesMakeThePlane : Type 0
TilesMakeThePlane = (nets : List DrawnNet) (lists : List (List Tile)) → AllPairs SharesNoSquare nets →
    AllZip (λ net tiles. plane_of tiles ≡ plane_of_net net) nets lists → plane_of (flat_map (λ tiles. tiles) lists) ≡ plane_of_nets nets

-- the net of each square is that of the layout's metal
abbrev pub PlaneIsTheMetal : Type 0
PlaneIsTheMetal = (layout : Wired) (layer : ℕ) (p : Pt) → option_map (λ owner. owner.0) (layout_plane layout layer p) ≡ metal layout layer p
