-- The rectangles so far are there.
use Rattle.std.proofs.Common.{◌≡◌, take, Ok}
use Rattle.rc_layout.specs.Entries.{via_rect}
use Rattle.rc_layout.specs.Wide.{brought_in}
use Rattle.rc_layout.specs.Refusals.{through, adds, after}
use Rattle.rc_layout.proofs.own_via.put_rects.Given as goal

abbrev pub invariant-loop-entry : goal.invariant-loop-entry
invariant-loop-entry l = through (adds (after brought_in (via_rect l.process.layers l.factor l.line))) l.initial.rects (take l.entry-index l.entries) ≡ Ok l.rects
