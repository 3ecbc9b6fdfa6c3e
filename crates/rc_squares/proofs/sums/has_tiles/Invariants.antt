use Rattle.std.proofs.Common.{◌≡◌, false, take, eqb}
use Rattle.std.specs.List.{list_any}
use Rattle.rc_geom.specs.declared.tile.Tile.{Tile}
use Rattle.rc_squares.proofs.sums.has_tiles.Given as goal

-- none of the tiles so far lies on the layer
abbrev pub invariant-loop-tile : goal.invariant-loop-tile
invariant-loop-tile l = list_any (λ (tile : Tile). eqb tile.layer l.layer) (take l.tile-index l.tiles) ≡ false
