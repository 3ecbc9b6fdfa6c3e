-- How the metal of an item is parted among the nodes on its centreline.
use Rattle.std.specs.Prelude.{◌≡◌, ◌<◌, ℕ, ℤ, List, [], ◌∷◌, ◌++◌, Some, All, int_lt, map, length, slice_get, if◌then◌else◌}
use Rattle.std.specs.List.{enumerate_from, flat_map}
use Rattle.rc_geom.specs.declared.rect.Rect.{Rect}
use Rattle.rc_geom.specs.declared.tile.Tile.{Tile}
use Rattle.rc_geom.specs.Split.{middle}
use Rattle.rc_geom.specs.Rects.{IsInside, IsNearRect}
use Rattle.rc_geom.specs.Context.{layer_count}
use Rattle.rc_layout.specs.declared.item.Item.{Item}
use Rattle.rc_layout.specs.Items.{is_level}
use Rattle.rc_nodes.specs.declared.node.Node.{Node}
use Rattle.rc_nodes.specs.declared.line.Tap.{Tap}
use Rattle.rc_nodes.specs.NetPlane.{nodes_on}
use Rattle.rc_nodes.specs.Lines.{tap_of}

-- a node's part of an item along its axis: from the first place to below the second
pub record Share : Type 0 where
  pub node : ℕ
  pub from : ℤ
  pub to : ℤ

-- a share, left out where it has no place
abbrev pub share : ℕ → ℤ → ℤ → List Share
share node from to = if int_lt from to then record { node = node; from = from; to = to } ∷ [] else []

-- a share ends in the middle of its node and the next one, the last one where the metal ends
abbrev pub share_end : ℤ → Tap → List Tap → ℤ
share_end end tap [] = end
share_end end tap (next ∷ later) = middle tap.along next.along

abbrev pub shares_from : ℤ → ℤ → List Tap → List Share
shares_from from end [] = []
shares_from from end (tap ∷ later) = share tap.node from (share_end end tap later) ++ shares_from (share_end end tap later) end later

-- the shares of all metal from one place to another: grounded where there is no node
abbrev pub shares : ℤ → ℤ → List Tap → List Share
shares from end [] = share 0 from end
shares from end (tap ∷ later) = shares_from from end (tap ∷ later)

-- where the metal of an item begins and ends along its axis
abbrev pub first_end : Item → ℤ
first_end item = if is_level item then item.rect.x0 else item.rect.y0

abbrev pub last_end : Item → ℤ
last_end item = if is_level item then item.rect.x1 else item.rect.y1

-- the rectangle of a share
abbrev pub share_rect : Item → ℤ → ℤ → Rect
share_rect item from to =
    if is_level item
    then record { x0 = from; y0 = item.rect.y0; x1 = to; y1 = item.rect.y1 }
    else record { x0 = item.rect.x0; y0 = from; x1 = item.rect.x1; y1 = to }

-- a share as a tile; the rank is the item's place in the net, so that the first item that covers a square owns it
abbrev pub share_tile : ℕ → ℕ → Item → Share → Tile
share_tile net rank item part = record {
  net = net;
  node = part.node;
  layer = item.layer;
  rect = share_rect item part.from part.to;
  rank = rank;
}

-- the tiles of an item with these taps on its centreline
abbrev pub tap_tiles : ℕ → ℕ → Item → List Tap → List Tile
tap_tiles net rank item taps = map (share_tile net rank item) (shares (first_end item) (last_end item) taps)

-- the tiles of an item
abbrev pub item_tiles : ℕ → List Node → ℕ × Item → List Tile
item_tiles net nodes ranked = tap_tiles net ranked.0 ranked.1 (map (tap_of (is_level ranked.1)) (nodes_on nodes ranked.1))

-- the tiles of a net's items, in order
unfoldable pub net_tiles : ℕ → List Node → List Item → List Tile
net_tiles net nodes items = flat_map (item_tiles net nodes) (enumerate_from 0 items)

-- a tile of that net: of a routing layer, with squares, near the origin
pub record IsTileOf (number : ℕ) (tile : Tile) : Type 0 where
  pub net : tile.net ≡ number
  pub layer : tile.layer < layer_count
  pub near : IsNearRect tile.rect

-- the tile lies in the item at the place that its rank tells, on its layer
pub record LiesInItem (items : List Item) (tile : Tile) : Type 0 where
  pub item : Item
  pub place : slice_get items tile.rank ≡ Some item
  pub layer : tile.layer ≡ item.layer
  pub inside : IsInside tile.rect item.rect

-- one tile an item, each grounded
pub record AreGrounded (items : List Item) (tiles : List Tile) : Type 0 where
  pub one : length tiles ≡ length items
  pub node : All (λ tile. tile.node ≡ 0) tiles
