-- The rectangles so far are there.
use Rattle.std.proofs.Common.{◌≡◌, take, Ok}
use Rattle.std.specs.Prelude.{All}
use Rattle.rc_layout.specs.Entries.{with_port_rect}
use Rattle.rc_layout.specs.Wide.{HasCoordinates}
use Rattle.rc_layout.specs.Refusals.{through}
use Rattle.rc_layout.proofs.port.put_port_rects.Given as goal

abbrev pub invariant-loop-entry : goal.invariant-loop-entry
invariant-loop-entry l = record { near : All (λ rect. HasCoordinates rect.1) l.rects; is : through (with_port_rect l.process.layers l.factor l.line l.is_placed) l.initial.rects (take l.entry-index l.entries) ≡ Ok l.rects }
