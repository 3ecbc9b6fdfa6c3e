-- One capacitance more.
use Rattle.rc_gen.proofs.Additions.{adds_none, adds_more, room_here}
use Rattle.rc_gen.proofs.sums.Sums.add_all.Goals as goal

pub loop-cap-init : goal.loop-cap-init
loop-cap-init c = adds_none c.args.self.now

pub add-requires : goal.add-requires
add-requires c = room_here c.args.self.now c.loop-cap.self c.args.caps.now c.loop-cap.cap-index c.cap-item.result c.loop-cap-test.true c.cap-item.is c.requires c.loop-cap.invariant

pub loop-cap-preserved : goal.loop-cap-preserved
loop-cap-preserved c =
    adds_more c.args.self.now c.loop-cap.self c.add.new.self c.args.caps.now c.loop-cap.cap-index c.cap-item.result c.loop-cap-test.true c.cap-item.is c.loop-cap.invariant c.add.ensures
