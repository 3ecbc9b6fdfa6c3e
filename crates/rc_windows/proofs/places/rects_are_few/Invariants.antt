use Rattle.std.proofs.Common.{◌≡◌, ◌+◌, take}
use Rattle.rc_windows.specs.Indexes.{rect_places, most_places}
use Rattle.rc_windows.proofs.places.rects_are_few.Given as goal

-- the places so far, and those that may be left
abbrev pub invariant-loop-rect : goal.invariant-loop-rect
invariant-loop-rect l = rect_places l.frame (take l.rect-index l.rects) + l.left ≡ most_places
