-- The shapes that windows have near an edit.
use Rattle.std.specs.Prelude.{ℕ, ◌==◌, List, Option, None, option_map, slice_get, if◌then◌else◌}
use Rattle.std.specs.List.{filter_map}
use Rattle.std.specs.Option.{option_and_then}
use Rattle.rc_geom.specs.declared.tile.Tile.{Tile}
use Rattle.rc_layout.specs.declared.item.Item.{Item}
use Rattle.rc_layout.specs.declared.net.Net.{Net}
use Rattle.rc_layout.specs.Layouts.{Wired}
use Rattle.rc_layout.specs.Metal.{all_nets}
use Rattle.rc_shorts.specs.declared.shape.Shape.{Shape}
use Rattle.rc_shorts.specs.OfLayouts.{metal_of}
use Rattle.rc_shorts.specs.Places.{shape_of}

-- the item of that place in the net of that number
abbrev pub item_in : List Net → ℕ → ℕ → Option Item
item_in nets number rank = option_and_then (λ (net : Net). slice_get net.items rank) (slice_get nets number)

-- the shape of the item that a tile is part of
abbrev pub tile_shape : Wired → Tile → Option Shape
tile_shape wired t = option_map (λ item. shape_of t.net (t.rank, metal_of item)) (item_in (all_nets wired) t.net t.rank)

-- that of a tile of another net
abbrev pub shape_beside : Wired → ℕ → Tile → Option Shape
shape_beside wired number t = if t.net == number then None else tile_shape wired t

-- those of tiles of other nets, with repeats
unfoldable pub shapes_beside : Wired → ℕ → List Tile → List Shape
shapes_beside wired number tiles = filter_map (shape_beside wired number) tiles
