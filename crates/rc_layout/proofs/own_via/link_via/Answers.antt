-- A via links as its rectangles and its layers do.
use Rattle.rc_layout.proofs.OwnVias.{rects_refused, kinds_refused, via_linked}
use Rattle.rc_layout.proofs.own_via.link_via.Goals as goal

pub returns-in-Err : goal.returns-in-Err
returns-in-Err c =
    rects_refused c.args.process.now.layers c.args.factor c.args.raw c.in-Err.fault c.put_rects.new.rects c.new-rects.result c.items.result.now c.new-rects.ensures c.items.ensures
    (rw c.in-Err.is at c.put_rects.ensures)

pub returns-in-Err-put_kinds : goal.returns-in-Err-put_kinds
returns-in-Err-put_kinds c =
    kinds_refused c.args.process.now.layers c.args.factor c.args.raw c.in-Err-put_kinds.fault c.put_rects.new.rects c.new-rects.result c.items.result.now c.put_kinds.new.kinds c.new-kinds.result c.items-2.result.now
    c.new-rects.ensures c.items.ensures (rw c.in-Ok.is at c.put_rects.ensures) c.new-kinds.ensures c.items-2.ensures (rw c.in-Err-put_kinds.is at c.put_kinds.ensures)

pub returns-in-Ok-made : goal.returns-in-Ok-made
returns-in-Ok-made c =
    via_linked c.args.process.now.layers c.args.factor c.args.raw c.put_rects.new.rects c.items-3.result.now c.new-rects.result c.items.result.now c.put_kinds.new.kinds c.items-4.result.now c.new-kinds.result c.items-2.result.now
    c.array_in-array.result c.in-Ok-made.via c.new-rects.ensures c.items.ensures (rw c.in-Ok.is at c.put_rects.ensures) c.new-kinds.ensures c.items-2.ensures (rw c.in-Ok-put_kinds.is at c.put_kinds.ensures)
    c.items-3.ensures c.items-4.ensures c.array_in-array.ensures.is (rw c.in-Ok-made.is at c.made.ensures)
