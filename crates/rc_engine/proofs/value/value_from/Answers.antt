-- A net's sums and its value.
use Rattle.std.proofs.Common.{◌≡◌, ◌<◌, ◌∙◌, length, ap, arith}
use Rattle.std.specs.Prelude.{Some, slice_get}
use Rattle.rc_nodes.specs.Nodes.{nodes_of}
use Rattle.rc_engine.specs.Brought.{entries_of}
use Rattle.rc_engine.specs.Extraction.{net_caps}
use Rattle.rc_engine.proofs.Drawings.{own_nodes_are}
use Rattle.rc_engine.proofs.Measures.{own_tied, nodes_in_order, few_nodes}
use Rattle.rc_engine.proofs.Engines.{own_fit, net_there, own_rated, small_total, value_is}
use Rattle.rc_engine.proofs.value.value_from.Goals as goal

pub capacitances-requires-clause-names : goal.capacitances-requires-clause-names
capacitances-requires-clause-names c = (own_fit c.args.layout.now c.args.rules.now c.args.number c.args.entries.now c.requires.sums).1

pub capacitances-requires-clause-fits : goal.capacitances-requires-clause-fits
capacitances-requires-clause-fits c = (own_fit c.args.layout.now c.args.rules.now c.args.number c.args.entries.now c.requires.sums).0

pub net_of-requires-clause-order : goal.net_of-requires-clause-order
net_of-requires-clause-order c =
    let same = ap length c.nets.ensures in
    let less = c.requires.number in
    let within : c.args.number < length c.nets.result.now = omega (arith, same, less) in
    let are = own_nodes_are c.args.layout.now c.nets.result.now c.args.nodes.now c.args.number c.index-nets-place.result c.index-nodes-place.result c.items-own_nodes.result.now c.nets.ensures within c.index-nets-place.is
    c.requires.nodes c.index-nodes-place.is c.items-own_nodes.ensures in
    nodes_in_order c.index-nets-place.result c.items-own_nodes.result.now (own_tied c.args.layout.now c.nets.result.now c.args.number c.index-nets-place.result c.facts.ensures c.nets.ensures within c.index-nets-place.is) are

pub net_of-requires-clause-few : goal.net_of-requires-clause-few
net_of-requires-clause-few c =
    let same = ap length c.nets.ensures in
    let less = c.requires.number in
    let within : c.args.number < length c.nets.result.now = omega (arith, same, less) in
    let are = own_nodes_are c.args.layout.now c.nets.result.now c.args.nodes.now c.args.number c.index-nets-place.result c.index-nodes-place.result c.items-own_nodes.result.now c.nets.ensures within c.index-nets-place.is
    c.requires.nodes c.index-nodes-place.is c.items-own_nodes.ensures in
    few_nodes c.args.layout.now c.nets.result.now c.args.number c.index-nets-place.result c.items-own_nodes.result.now c.nets.ensures within c.index-nets-place.is c.requires.sums.1.few_nodes are

pub net_of-requires-clause-rules : goal.net_of-requires-clause-rules
net_of-requires-clause-rules c =
    let same = ap length c.nets.ensures in
    let less = c.requires.number in
    let within : c.args.number < length c.nets.result.now = omega (arith, same, less) in
    own_rated c.args.layout.now c.args.rules.now c.nets.result.now c.args.number c.index-nets-place.result c.requires.sums.1.extractable.rated c.nets.ensures within c.index-nets-place.is

pub net_of-requires-clause-total : goal.net_of-requires-clause-total
net_of-requires-clause-total c =
    let same = ap length c.nets.ensures in
    let less = c.requires.number in
    let within : c.args.number < length c.nets.result.now = omega (arith, same, less) in
    let there = net_there c.args.layout.now c.nets.result.now c.args.number c.index-nets-place.result c.nets.ensures within c.index-nets-place.is in
    let sums = c.requires.sums in
    small_total c.args.layout.now c.args.rules.now c.args.number c.index-nets-place.result c.in_ok-caps.caps sums.1.extractable there
    (c.in_ok-caps.ensures c.args.layout.now c.args.rules.now c.args.number c.index-nets-place.result (entries_of sums.0) there sums.1.totals sums.2)

pub returns : goal.returns
returns c =
    let wired = c.args.layout.now in
    let rules = c.args.rules.now in
    let number = c.args.number in
    let net = c.index-nets-place.result in
    let same = ap length c.nets.ensures in
    let less = c.requires.number in
    let within : number < length c.nets.result.now = omega (arith, same, less) in
    let there = net_there wired c.nets.result.now number net c.nets.ensures within c.index-nets-place.is in
    let sums = c.requires.sums in
    let are = c.in_ok-caps.ensures wired rules number net (entries_of sums.0) there sums.1.totals sums.2 in
    value_is c.net_of.result wired rules c.args.naming.now number net c.in_ok-caps.caps c.net_of.ensures c.requires.naming are there
