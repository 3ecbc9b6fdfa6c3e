-- One of the rectangles that is refused is the first.
use Rattle.std.proofs.Common.{subst, Err, List, ℕ}
use Rattle.rc_geom.specs.declared.rect.Rect.{Rect}
use Rattle.rc_layout.specs.Entries.{via_rect}
use Rattle.rc_layout.specs.Wide.{brought_in}
use Rattle.rc_layout.specs.Refusals.{Leaves, adds, after}
use Rattle.rc_layout.proofs.Throughs.{leaves_refused}
use Rattle.rc_layout.proofs.own_via.put_rects.Goals as goal

pub returns-in-Err : goal.returns-in-Err
returns-in-Err c =
    let step = adds (after brought_in (via_rect c.args.process.now.layers c.args.factor c.args.line)) in
    let refused = rw c.in-Err.is at c.put_rect.ensures in
    leaves_refused (Unit {0}) step c.args.rects.now c.loop-entry.rects c.put_rect.new.rects c.put_rect.new.rects c.in-Err.fault c.args.entries.now
    c.loop-entry.entry-index c.entry-item.result c.loop-entry-test.true c.loop-entry.invariant
    (subst (λ (x : List ℕ × Rect). Leaves {T = Unit {0}} (Err c.in-Err.fault) c.put_rect.new.rects (step c.loop-entry.rects x)) c.entry-item.is refused)
