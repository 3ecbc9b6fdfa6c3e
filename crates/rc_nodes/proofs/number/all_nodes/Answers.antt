use Rattle.std.proofs.Common.{◌∙◌, ap, subst, sym}
use Rattle.std.specs.Prelude.{Contains, ◌↔◌, ◌⊎◌}
use Rattle.std.specs.List.{dedup}
use Rattle.std.proofs.lemmas.List.Filters.{dedup_is}
use Rattle.std.proofs.lemmas.Result.{err_from_is_err_and}
use Rattle.rc_nodes.specs.declared.node.Node.{Node}
use Rattle.rc_nodes.specs.Nodes.{IsCrossing, AreInOrder}
use Rattle.rc_nodes.specs.Crossings.{Either, IsFull}
use Rattle.rc_nodes.specs.contracts.node.NodePartialEq.TheImpl as eqs
use Rattle.rc_nodes.specs.contracts.node.NodeOrd.TheImpl.Laws.{matches_eq-law}
use Rattle.rc_nodes.proofs.Numbered.{sorted_nodes, nodes_are}
use Rattle.rc_nodes.proofs.Crowded.{net_full}
use Rattle.rc_nodes.proofs.number.all_nodes.Goals as goal

pub returns-clause-is : goal.returns-clause-is
returns-clause-is c =
    sorted_nodes c.args.net.now c.in_ok-nodes.nodes.items c.add_crossings.new.nodes.items c.sort_unstable.new.self.items c.dedup.new.self.items c.requires.items c.in_ok-nodes.ensures
    (subst (λ items. (node : Node) → Contains c.add_crossings.new.nodes.items node ↔ (Contains c.in_ok-nodes.nodes.items node ⊎ IsCrossing items node)) c.items.ensures c.in_ok-add_crossings.ensures.found)
    c.sort_unstable.ensures.permutation c.sort_unstable.ensures.sorted
    (dedup_is eqs.ghosts.eq c.sort_unstable.new.self.items c.dedup.new.self.items c.dedup.ensures.filtered ∙ ap (λ e. dedup e c.sort_unstable.new.self.items) (λ i x y. matches_eq-law x y i))

pub returns-clause-order : goal.returns-clause-order
returns-clause-order c = subst AreInOrder (sym (returns-clause-is c)) (nodes_are c.args.net.now c.requires.items).order

pub returns-in_err-add_crossings-clause-fault : goal.returns-in_err-add_crossings-clause-fault
returns-in_err-add_crossings-clause-fault c =
    let p = err_from_is_err_and c.from_residual-in_err-add_crossings.result c.from_residual-in_err-add_crossings.ensures.1 in
    rw (p.1, p.2) (net_full c.args.room c.args.net.now c.in_ok-nodes.nodes.items c.in_err-add_crossings.field-0.0 c.requires.items c.in_ok-nodes.ensures
    (subst (λ items. IsFull c.args.room (Either c.in_ok-nodes.nodes.items (IsCrossing items)) c.in_err-add_crossings.field-0.0) c.items.ensures c.in_err-add_crossings.ensures.full))
