use Rattle.std.proofs.Common.{◌≡◌, take}
use Rattle.rc_windows.specs.Indexes.{others_of}
use Rattle.rc_windows.proofs.index.others.Given as goal

-- the tiles so far that are other nets'
abbrev pub invariant-loop-tile : goal.invariant-loop-tile
invariant-loop-tile l = l.list ≡ others_of l.net (take l.tile-index l.tiles)
