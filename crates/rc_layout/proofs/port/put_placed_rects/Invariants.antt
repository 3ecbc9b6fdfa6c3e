-- The rectangles so far are there.
use Rattle.std.proofs.Common.{◌≡◌, take, Ok}
use Rattle.rc_layout.specs.Entries.{with_placed_rect}
use Rattle.rc_layout.specs.Refusals.{through}
use Rattle.rc_layout.proofs.port.put_placed_rects.Given as goal

abbrev pub invariant-loop-rect : goal.invariant-loop-rect
invariant-loop-rect l = through (with_placed_rect l.at l.o) l.initial.done (take l.rect-index l.rects) ≡ Ok l.done
