-- The nodes and the tiles of nets, one net after another.
use Rattle.std.specs.Prelude.{◌≡◌, ◌<◌, ◌≤◌, ◌⊎◌, ◌^◌, ◌+◌, ◌-◌, ℕ, Option, List, [], length, map}
use Rattle.std.specs.List.{flat_map}
use Rattle.std.specs.Option.{option_or}
use Rattle.rc_keys.specs.declared.code.Quantity.TheVariants.{Nodes, Tiles}
use Rattle.rc_keys.specs.declared.fault.Fault.{Fault}
use Rattle.rc_keys.specs.declared.fault.Fault.TheVariants.{Refused, NoMemory}
use Rattle.rc_keys.specs.declared.fault.Refusal.{Refusal}
use Rattle.rc_keys.specs.declared.fault.Refusal.TheVariants.{Limit}
use Rattle.rc_geom.specs.declared.tile.Tile.{Tile}
use Rattle.rc_layout.specs.declared.net.Net.{Net}
use Rattle.rc_layout.specs.Nets.{IsTied}
use Rattle.rc_nodes.specs.declared.node.Node.{Node}
use Rattle.rc_nodes.specs.Nodes.{nodes_of}
use Rattle.rc_nodes.specs.Counts.{tile_count}
use Rattle.rc_nodes.specs.LayoutPlane.{DrawnNet}
use Rattle.rc_engine.specs.Windows.{tiles_of}
use Rattle.rc_engine.specs.Start.{above, node_count, tile_total}

-- the lists of nodes of nets, which have at most 2^22 nodes
pub record AreNodeLists (nets : List Net) (lists : List (List Node)) : Type 0 where
  pub are : lists ≡ map nodes_of nets
  pub few : node_count nets ≤ 2 ^ 22

-- why there may be none: the nets have more, or want of memory
abbrev pub HaveTooManyNodes : List Net → Fault → Type 0
HaveTooManyNodes nets (Refused refusal) = (refusal ≡ Limit Nodes) × (2 ^ 22 < node_count nets)
HaveTooManyNodes nets NoMemory = Unit {0}

-- a net with its nodes, or a grounded one
abbrev pub IsDrawn : Net → List Node → Type 0
IsDrawn net nodes = (IsTied net × (nodes ≡ nodes_of net)) ⊎ (nodes ≡ [])

-- why a net's nodes may not stand beside so many others: then there are more than 2^22, or want of memory
abbrev pub HasTooManyNodes : ℕ → ℕ → Fault → Type 0
HasTooManyNodes others more (Refused refusal) = (refusal ≡ Limit Nodes) × (2 ^ 22 < others + more)
HasTooManyNodes others more NoMemory = Unit {0}

-- how many nodes, and how many tiles, there are with a net in the place of another one, of so many before
abbrev pub nodes_with : ℕ → Net → Net → ℕ
nodes_with before old new = before - length (nodes_of old) + length (nodes_of new)

abbrev pub tiles_with : ℕ → Net → Net → ℕ
tiles_with before old new = before - tile_count (nodes_of old) old.items + tile_count (nodes_of new) new.items

-- which limit these pass
abbrev pub limit_with : ℕ → ℕ → Net → Net → Option Refusal
limit_with nodes tiles old new = option_or (above (2 ^ 22) (nodes_with nodes old new) Nodes) (above (2 ^ 23) (tiles_with tiles old new) Tiles)

-- the tiles of drawn nets, and how many they count, which is no less
pub record AreMeasured (drawn : List DrawnNet) (tiles : List Tile) (count : ℕ) : Type 0 where
  pub are : tiles ≡ flat_map tiles_of drawn
  pub counted : count ≡ tile_total drawn
  pub least : length tiles ≤ count

-- why a net's tiles may not join those that count so many: then there are more than 2^23, or want of memory
abbrev pub HasTooManyTiles : ℕ → ℕ → Fault → Type 0
HasTooManyTiles before more (Refused refusal) = (refusal ≡ Limit Tiles) × (2 ^ 23 < before + more)
HasTooManyTiles before more NoMemory = Unit {0}

-- the tiles of all of them, which count at most 2^23
pub record AreTilesWithin (drawn : List DrawnNet) (tiles : List Tile) : Type 0 where
  pub are : tiles ≡ flat_map tiles_of drawn
  pub few : tile_total drawn ≤ 2 ^ 23
  pub least : length tiles ≤ 2 ^ 23
