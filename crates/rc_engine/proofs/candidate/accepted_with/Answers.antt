-- What refuses a layout with a net in the place of another one, in order.
use Rattle.std.proofs.Common.{◌∙◌, arith}
use Rattle.rc_layout.specs.Layouts.{with_put}
use Rattle.rc_engine.proofs.Accepting.{old_there, lacks, past_limits, nodes_are, tiles_are, within_limits, can_extract}
use Rattle.rc_engine.proofs.Lacking.{nodes_counted, tiles_are_counted}
use Rattle.rc_engine.proofs.Refusals.{missing_refuses, limits_kept, shorts_refuse, nothing_refuses}
use Rattle.rc_engine.proofs.candidate.accepted_with.Goals as goal

pub returns-in-Some-clause-fault : goal.returns-in-Some-clause-fault
returns-in-Some-clause-fault c =
    missing_refuses (with_put c.args.layout.now c.args.number c.args.new.now) c.args.rules.now c.in-Some.refusal (lacks c.args.layout.now c.args.rules.now c.args.number c.index-nets-number.result c.args.new.now c.vias.result.now c.net_missing.result (old_there c.args.layout.now c.nets.result.now c.args.number c.index-nets-number.result c.nets.ensures c.requires.number c.index-nets-number.is) c.requires.accepted c.vias.ensures c.net_missing.ensures.is ∙ c.in-Some.is)

pub measured_with-requires-clause-old_nodes : goal.measured_with-requires-clause-old_nodes
measured_with-requires-clause-old_nodes c =
    c.requires.old_nodes c.index-nets-number.result (old_there c.args.layout.now c.nets.result.now c.args.number c.index-nets-number.result c.nets.ensures c.requires.number c.index-nets-number.is)

pub measured_with-requires-clause-new : goal.measured_with-requires-clause-new
measured_with-requires-clause-new c =
    (c.requires.candidate c.index-nets-number.result (old_there c.args.layout.now c.nets.result.now c.args.number c.index-nets-number.result c.nets.ensures c.requires.number c.index-nets-number.is)).tied

pub measured_with-requires-clause-nodes : goal.measured_with-requires-clause-nodes
measured_with-requires-clause-nodes c =
    let least = nodes_counted c.args.layout.now c.args.number c.index-nets-number.result (old_there c.args.layout.now c.nets.result.now c.args.number c.index-nets-number.result c.nets.ensures c.requires.number c.index-nets-number.is) in
    let is = c.requires.nodes in
    omega (arith, least, is)

pub measured_with-requires-clause-few_nodes : goal.measured_with-requires-clause-few_nodes
measured_with-requires-clause-few_nodes c =
    let few = (limits_kept c.args.layout.now c.args.rules.now c.requires.accepted).0 in
    let is = c.requires.nodes in
    omega (arith, few, is)

pub measured_with-requires-clause-tiles : goal.measured_with-requires-clause-tiles
measured_with-requires-clause-tiles c =
    let least = tiles_are_counted c.args.layout.now c.args.number c.index-nets-number.result (old_there c.args.layout.now c.nets.result.now c.args.number c.index-nets-number.result c.nets.ensures c.requires.number c.index-nets-number.is) in
    let is = c.requires.tiles in
    omega (arith, least, is)

pub measured_with-requires-clause-few_tiles : goal.measured_with-requires-clause-few_tiles
measured_with-requires-clause-few_tiles c =
    let few = (limits_kept c.args.layout.now c.args.rules.now c.requires.accepted).1 in
    let is = c.requires.tiles in
    omega (arith, few, is)

pub returns-in-Err-clause-fault : goal.returns-in-Err-clause-fault
returns-in-Err-clause-fault c =
    past_limits c.args.layout.now c.args.rules.now c.args.number c.args.totals.now.nodes c.args.totals.now.tiles c.index-nets-number.result c.args.new.now c.in-Err.fault (old_there c.args.layout.now c.nets.result.now c.args.number c.index-nets-number.result c.nets.ensures c.requires.number c.index-nets-number.is) c.requires.nodes c.requires.tiles (lacks c.args.layout.now c.args.rules.now c.args.number c.index-nets-number.result c.args.new.now c.vias.result.now c.net_missing.result (old_there c.args.layout.now c.nets.result.now c.args.number c.index-nets-number.result c.nets.ensures c.requires.number c.index-nets-number.is) c.requires.accepted c.vias.ensures c.net_missing.ensures.is ∙ c.in_default.is) c.in-Err.ensures.fault

pub refuse_short_with-requires-clause-new : goal.refuse_short_with-requires-clause-new
refuse_short_with-requires-clause-new c =
    (c.requires.candidate c.index-nets-number.result (old_there c.args.layout.now c.nets.result.now c.args.number c.index-nets-number.result c.nets.ensures c.requires.number c.index-nets-number.is)).tied.formed.few_items

pub returns-in-Ok-refuse_short_with-clause-node_count : goal.returns-in-Ok-refuse_short_with-clause-node_count
returns-in-Ok-refuse_short_with-clause-node_count c =
    nodes_are c.args.layout.now c.args.number c.args.totals.now.nodes c.in-Ok.metal.totals.nodes c.index-nets-number.result c.args.new.now (old_there c.args.layout.now c.nets.result.now c.args.number c.index-nets-number.result c.nets.ensures c.requires.number c.index-nets-number.is) c.requires.nodes c.in-Ok.ensures.node_count

pub returns-in-Ok-refuse_short_with-clause-tile_count : goal.returns-in-Ok-refuse_short_with-clause-tile_count
returns-in-Ok-refuse_short_with-clause-tile_count c =
    tiles_are c.args.layout.now c.args.number c.args.totals.now.tiles c.in-Ok.metal.totals.tiles c.index-nets-number.result c.args.new.now (old_there c.args.layout.now c.nets.result.now c.args.number c.index-nets-number.result c.nets.ensures c.requires.number c.index-nets-number.is) c.requires.tiles c.in-Ok.ensures.tile_count

pub returns-in-Ok-refuse_short_with-clause-extractable : goal.returns-in-Ok-refuse_short_with-clause-extractable
returns-in-Ok-refuse_short_with-clause-extractable c =
    let there = old_there c.args.layout.now c.nets.result.now c.args.number c.index-nets-number.result c.nets.ensures c.requires.number c.index-nets-number.is in
    can_extract c.args.layout.now c.args.rules.now c.args.number c.in-Ok.metal.totals.tiles c.index-nets-number.result c.args.new.now c.requires.extractable there (c.requires.candidate c.index-nets-number.result there) (c.net_missing.ensures.rated c.in_default.is) (tiles_are c.args.layout.now c.args.number c.args.totals.now.tiles c.in-Ok.metal.totals.tiles c.index-nets-number.result c.args.new.now (old_there c.args.layout.now c.nets.result.now c.args.number c.index-nets-number.result c.nets.ensures c.requires.number c.index-nets-number.is) c.requires.tiles c.in-Ok.ensures.tile_count) c.in-Ok.ensures.few_tiles c.in-Ok-refuse_short_with.ensures.clear

pub returns-in-Ok-refuse_short_with-clause-clear : goal.returns-in-Ok-refuse_short_with-clause-clear
returns-in-Ok-refuse_short_with-clause-clear c =
    nothing_refuses (with_put c.args.layout.now c.args.number c.args.new.now) c.args.rules.now (lacks c.args.layout.now c.args.rules.now c.args.number c.index-nets-number.result c.args.new.now c.vias.result.now c.net_missing.result (old_there c.args.layout.now c.nets.result.now c.args.number c.index-nets-number.result c.nets.ensures c.requires.number c.index-nets-number.is) c.requires.accepted c.vias.ensures c.net_missing.ensures.is ∙ c.in_default.is) (within_limits (with_put c.args.layout.now c.args.number c.args.new.now) c.in-Ok.metal.totals.nodes c.in-Ok.metal.totals.tiles (nodes_are c.args.layout.now c.args.number c.args.totals.now.nodes c.in-Ok.metal.totals.nodes c.index-nets-number.result c.args.new.now (old_there c.args.layout.now c.nets.result.now c.args.number c.index-nets-number.result c.nets.ensures c.requires.number c.index-nets-number.is) c.requires.nodes c.in-Ok.ensures.node_count) (tiles_are c.args.layout.now c.args.number c.args.totals.now.tiles c.in-Ok.metal.totals.tiles c.index-nets-number.result c.args.new.now (old_there c.args.layout.now c.nets.result.now c.args.number c.index-nets-number.result c.nets.ensures c.requires.number c.index-nets-number.is) c.requires.tiles c.in-Ok.ensures.tile_count) c.in-Ok.ensures.few_nodes c.in-Ok.ensures.few_tiles) c.in-Ok-refuse_short_with.ensures.clear

pub returns-in-Err-refuse_short_with-clause-fault : goal.returns-in-Err-refuse_short_with-clause-fault
returns-in-Err-refuse_short_with-clause-fault c =
    shorts_refuse (with_put c.args.layout.now c.args.number c.args.new.now) c.args.rules.now c.in-Err-refuse_short_with.fault (lacks c.args.layout.now c.args.rules.now c.args.number c.index-nets-number.result c.args.new.now c.vias.result.now c.net_missing.result (old_there c.args.layout.now c.nets.result.now c.args.number c.index-nets-number.result c.nets.ensures c.requires.number c.index-nets-number.is) c.requires.accepted c.vias.ensures c.net_missing.ensures.is ∙ c.in_default.is) (within_limits (with_put c.args.layout.now c.args.number c.args.new.now) c.in-Ok.metal.totals.nodes c.in-Ok.metal.totals.tiles (nodes_are c.args.layout.now c.args.number c.args.totals.now.nodes c.in-Ok.metal.totals.nodes c.index-nets-number.result c.args.new.now (old_there c.args.layout.now c.nets.result.now c.args.number c.index-nets-number.result c.nets.ensures c.requires.number c.index-nets-number.is) c.requires.nodes c.in-Ok.ensures.node_count) (tiles_are c.args.layout.now c.args.number c.args.totals.now.tiles c.in-Ok.metal.totals.tiles c.index-nets-number.result c.args.new.now (old_there c.args.layout.now c.nets.result.now c.args.number c.index-nets-number.result c.nets.ensures c.requires.number c.index-nets-number.is) c.requires.tiles c.in-Ok.ensures.tile_count) c.in-Ok.ensures.few_nodes c.in-Ok.ensures.few_tiles) c.in-Err-refuse_short_with.ensures.fault
