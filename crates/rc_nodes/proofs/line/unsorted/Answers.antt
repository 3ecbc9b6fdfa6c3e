use Rattle.std.proofs.Common.{◌<◌, ◌≤◌, ◌∙◌, length, rules}
use Rattle.rc_nodes.specs.Lines.{tap_of}
use Rattle.rc_nodes.proofs.Found.{pushed, taps_all}
use Rattle.rc_nodes.proofs.line.unsorted.Goals as goal

pub loop-k-preserved : goal.loop-k-preserved
loop-k-preserved c =
    let within : c.loop-k.k < length c.args.nodes.now = search rules in
    pushed (tap_of c.args.level) c.args.nodes.now c.loop-k.k c.tap_at.result c.loop-k.taps.items c.push.new.self.items within c.tap_at.ensures c.loop-k.invariant c.in_ok-push.ensures.items

pub returns : goal.returns
returns c =
    let all : length c.args.nodes.now ≤ c.loop-k.k = search rules in
    c.loop-k.invariant ∙ taps_all (tap_of c.args.level) 1 c.args.nodes.now c.loop-k.k all
