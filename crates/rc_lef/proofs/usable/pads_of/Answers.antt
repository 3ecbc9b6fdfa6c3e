use Rattle.std.proofs.Common.{arith}
use Rattle.rc_lef.proofs.Picked.{pads_step}
use Rattle.rc_lef.proofs.usable.pads_of.Goals as goal

pub loop-rect-preserved : goal.loop-rect-preserved
loop-rect-preserved c = pads_step c.args.rects.now c.loop-rect.rect-index c.loop-rect.pads c.put_pad.new.pads c.in_ok-put_pad.ensures c.loop-rect.invariant (omega arith)
