-- The lists so far, and the room that is left.
use Rattle.std.proofs.Common.{◌≡◌, ◌+◌, ◌^◌, take, map}
use Rattle.rc_nodes.specs.Nodes.{nodes_of}
use Rattle.rc_engine.specs.Start.{node_count}
use Rattle.rc_engine.proofs.measured.node_lists.Given as goal

abbrev pub invariant-loop-net : goal.invariant-loop-net
invariant-loop-net l = record {
  are : l.lists ≡ map nodes_of (take l.net-index l.nets);
  room : l.room + node_count (take l.net-index l.nets) ≡ 2 ^ 22;
}
