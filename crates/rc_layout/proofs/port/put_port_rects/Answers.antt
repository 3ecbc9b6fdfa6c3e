-- One of the rectangles that is refused is the first.
use Rattle.std.proofs.Common.{subst, Err, List, ℕ}
use Rattle.rc_geom.specs.declared.rect.Rect.{Rect}
use Rattle.rc_layout.specs.Entries.{with_port_rect}
use Rattle.rc_layout.specs.Refusals.{Leaves}
use Rattle.rc_layout.proofs.Throughs.{leaves_refused}
use Rattle.rc_layout.proofs.port.put_port_rects.Goals as goal

pub returns-in-Err-clause-is : goal.returns-in-Err-clause-is
returns-in-Err-clause-is c =
    let step = with_port_rect c.args.process.now.layers c.args.factor c.args.line c.args.is_placed in
    let refused = rw c.in-Err.is at c.put_port_rect.ensures.is in
    leaves_refused (Unit {0}) step c.args.rects.now c.loop-entry.rects c.put_port_rect.new.rects c.put_port_rect.new.rects c.in-Err.fault c.args.entries.now
    c.loop-entry.entry-index c.entry-item.result c.loop-entry-test.true c.loop-entry.invariant.is
    (subst (λ (x : List ℕ × Rect). Leaves {T = Unit {0}} (Err c.in-Err.fault) c.put_port_rect.new.rects (step c.loop-entry.rects x)) c.entry-item.is refused)
