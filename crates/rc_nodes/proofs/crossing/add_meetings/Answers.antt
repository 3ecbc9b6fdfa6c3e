use Rattle.std.proofs.Common.{◌<◌, ◌∙◌, sym, length, rules}
use Rattle.rc_nodes.proofs.Crossed.{none_met, met_all}
use Rattle.rc_nodes.proofs.crossing.add_meetings.Goals as goal

pub loop-k-init : goal.loop-k-init
loop-k-init c = none_met c.args.probe.now c.args.others.now c.first_met-k.result c.args.nodes.now.items c.first_met-k.ensures.parted

pub returns-then-ends_before : goal.returns-then-ends_before
returns-then-ends_before c =
    let within : c.loop-k.k < length c.args.others.now = search rules in
    met_all c.args.probe.now c.args.others.now c.loop-k.k c.args.nodes.now.items c.loop-k.nodes.items c.requires within (sym c.ends_before.ensures ∙ c.if-ends_before.true) c.loop-k.invariant
