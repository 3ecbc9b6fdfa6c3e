-- What a net counts against the limit of tiles.
use Rattle.std.specs.Prelude.{ℕ, List, [], ◌∷◌, length, filter, if◌then◌else◌}
use Rattle.std.specs.List.{sum_by}
use Rattle.rc_layout.specs.declared.item.Item.{Item}
use Rattle.rc_layout.specs.Items.{is_piece, is_level}
use Rattle.rc_nodes.specs.declared.node.Node.{Node}
use Rattle.rc_nodes.specs.declared.line.Tap.{Tap}
use Rattle.rc_nodes.specs.Lines.{lies_on}
use Rattle.rc_nodes.specs.NetPlane.{nodes_on}

-- a pad or a patch counts 1, a piece as many as there are nodes on its centreline
abbrev pub item_count : List Node → Item → ℕ
item_count nodes item = if is_piece item then length (nodes_on nodes item) else 1

-- each item of a grounded net, which has no nodes, counts 1
abbrev pub tile_count : List Node → List Item → ℕ
tile_count [] items = length items
tile_count (node ∷ nodes) items = sum_by (item_count (node ∷ nodes)) items

-- the same by the taps of rows and columns
abbrev pub tap_count : List Tap → List Tap → Item → ℕ
tap_count rows columns item =
    if is_piece item then length (filter (lies_on item) (if is_level item then rows else columns)) else 1
