use Rattle.rc_nodes.proofs.Listed.{vias_are_linked_once}
use Rattle.rc_nodes.proofs.laws.vias_are_linked_once.Goals as goal

pub returns : goal.returns
returns c = vias_are_linked_once
