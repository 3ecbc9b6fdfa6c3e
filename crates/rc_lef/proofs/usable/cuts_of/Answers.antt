use Rattle.std.proofs.Common.{arith}
use Rattle.rc_lef.proofs.Picked.{cuts_step}
use Rattle.rc_lef.proofs.usable.cuts_of.Goals as goal

pub loop-rect-preserved : goal.loop-rect-preserved
loop-rect-preserved c = cuts_step c.args.rects.now c.loop-rect.rect-index c.loop-rect.cuts c.put_cut.new.cuts c.in_ok-put_cut.ensures c.loop-rect.invariant (omega arith)
