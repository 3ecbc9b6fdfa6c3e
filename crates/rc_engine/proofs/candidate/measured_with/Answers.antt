-- The old net's nodes are in order.
use Rattle.rc_engine.proofs.Measures.{nodes_in_order}
use Rattle.rc_engine.proofs.candidate.measured_with.Goals as goal

pub tile_count-requires-clause-order : goal.tile_count-requires-clause-order
tile_count-requires-clause-order c = nodes_in_order c.args.old.now c.args.old_nodes.now c.requires.old c.requires.old_nodes
