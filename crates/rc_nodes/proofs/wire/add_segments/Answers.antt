use Rattle.std.proofs.Common.{◌<◌, length, rules}
use Rattle.rc_nodes.proofs.Found.{no_tap}
use Rattle.rc_nodes.proofs.Wired.{segments_more}
use Rattle.rc_nodes.proofs.wire.add_segments.Goals as goal

pub loop-k-preserved : goal.loop-k-preserved
loop-k-preserved c =
    let within : c.loop-k.k < length c.args.taps.now = search rules in
    segments_more c.args.item.now.width c.args.taps.now c.loop-k.k no_tap c.args.wires.now.items c.loop-k.wires.items c.add_segment.new.wires.items within c.loop-k.invariant (c.in_ok-add_segment.ensures no_tap)
