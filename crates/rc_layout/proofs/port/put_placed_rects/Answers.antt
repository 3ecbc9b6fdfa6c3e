-- A rectangle that is refused is the first.
use Rattle.rc_layout.specs.Entries.{with_placed_rect}
use Rattle.rc_layout.proofs.Throughs.{leaves_refused}
use Rattle.rc_layout.proofs.port.put_placed_rects.Goals as goal

pub returns-in-Err : goal.returns-in-Err
returns-in-Err c =
    leaves_refused (Unit {0}) (with_placed_rect c.args.at c.args.o) c.args.done.now c.loop-rect.done c.put_placed_rect.new.done c.put_placed_rect.new.done c.in-Err.fault c.args.rects.now
    c.loop-rect.rect-index _ c.loop-rect-test.true c.loop-rect.invariant (rw c.in-Err.is at c.put_placed_rect.ensures)
