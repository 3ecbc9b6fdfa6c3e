use Rattle.std.proofs.Common.{subst, sym, ◌∙◌}
use Rattle.rc_nodes.specs.Nodes.{AreNodes}
use Rattle.rc_nodes.proofs.Numbered.{nodes_are}
use Rattle.rc_nodes.proofs.number.nodes.Goals as goal

pub returns-clause-words : goal.returns-clause-words
returns-clause-words c = subst (AreNodes c.args.net.now) (sym (c.from_vec.ensures ∙ c.in_ok-nodes.ensures.is)) (nodes_are c.args.net.now c.requires.items)
