use Rattle.std.proofs.Common.{◌<◌, length, rules}
use Rattle.rc_nodes.proofs.Linked.{via_at, only_link}
use Rattle.rc_nodes.proofs.link.link_at.Goals as goal

pub returns : goal.returns
returns c = λ link.
    let within : c.args.number < length c.args.vias.now = search rules in
    only_link c.args.nodes.now c.args.vias.now (c.args.number, c.args.at) c.index-vias-number.result c.in-Some.lower c.in-Some-number_of.upper link c.requires.order
    (via_at c.args.vias.now c.args.number c.index-vias-number.result within c.index-vias-number.is) c.in-Some.ensures c.in-Some-number_of.ensures
