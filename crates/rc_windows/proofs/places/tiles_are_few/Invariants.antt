use Rattle.std.proofs.Common.{◌≡◌, ◌+◌, take}
use Rattle.rc_windows.specs.Indexes.{tile_places, most_places}
use Rattle.rc_windows.proofs.places.tiles_are_few.Given as goal

-- the places so far, and those that may be left
abbrev pub invariant-loop-tile : goal.invariant-loop-tile
invariant-loop-tile l = tile_places l.frame (take l.tile-index l.tiles) + l.left ≡ most_places
