-- The nodes of one net more.
use Rattle.std.proofs.Common.{◌∙◌, ap, subst, length, arith}
use Rattle.rc_nodes.specs.Nodes.{nodes_of, IsNodesFault}
use Rattle.rc_engine.specs.Start.{node_count}
use Rattle.rc_engine.proofs.Measures.{mapped_more, room_left, too_many_nodes}
use Rattle.rc_engine.proofs.measured.node_lists.Goals as goal

pub loop-net-init : goal.loop-net-init
unfolding node_count
loop-net-init c = record { are = c.in_ok-lists.ensures; room = omega arith }

pub returns-in-Err-clause-fault : goal.returns-in-Err-clause-fault
returns-in-Err-clause-fault c =
    too_many_nodes c.args.nets.now c.loop-net.net-index c.net-item.result c.loop-net.room c.in-Err.fault c.loop-net-test.true c.loop-net.invariant.room
    (subst (λ net. IsNodesFault c.loop-net.room net c.in-Err.fault) c.net-item.is c.in-Err.ensures.nodes)

pub loop-net-preserved : goal.loop-net-preserved
loop-net-preserved c =
    let nets = c.args.nets.now in
    let i = c.loop-net.net-index in
    let net = c.net-item.result in
    let list = c.in-Ok.ensures.nodes in
    let is = list.0 ∙ ap nodes_of c.net-item.is in
    let long = c.len.ensures ∙ ap length is in
    let within = list.1 in
    let same = c.len.ensures in
    record {
      are = mapped_more nodes_of nets i net c.loop-net.lists c.push.new.self c.in-Ok.list c.loop-net-test.true c.loop-net.invariant.are is c.in_ok-push.ensures.ok;
      room = room_left nets i net c.loop-net.room _ c.len.result c.loop-net-test.true c.loop-net.invariant.room long (omega (arith, within, same));
    }
