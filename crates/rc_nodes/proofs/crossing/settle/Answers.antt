use Rattle.std.proofs.Common.{◌≡◌, refl, ap, ◌∙◌, rules}
use Rattle.std.specs.List.{dedup}
use Rattle.std.proofs.lemmas.List.Filters.{dedup_is}
use Rattle.std.specs.Ordering.{eq_by_cmp}
use Rattle.rc_nodes.specs.Nodes.{node_cmp}
use Rattle.rc_nodes.specs.contracts.node.NodePartialEq.TheImpl as eqs
use Rattle.rc_nodes.specs.contracts.node.NodeOrd.TheImpl.Laws.{matches_eq-law}
use Rattle.rc_nodes.proofs.Crowded.{settled_order, settled_has}
use Rattle.rc_nodes.proofs.crossing.settle.Goals as goal

pub returns-then-len-room-2-clause-full : goal.returns-then-len-room-2-clause-full
returns-then-len-room-2-clause-full c =
    let kept : c.dedup.new.self.items ≡ dedup (eq_by_cmp node_cmp) c.sort_unstable.new.self.items =
    dedup_is eqs.ghosts.eq c.sort_unstable.new.self.items c.dedup.new.self.items c.dedup.ensures.filtered ∙ ap (λ e. dedup e c.sort_unstable.new.self.items) (λ i x y. matches_eq-law x y i) in (
      refl,
      record {
        nodes = c.dedup.new.self.items;
        order = settled_order c.sort_unstable.new.self.items c.dedup.new.self.items c.sort_unstable.ensures.sorted kept;
        pass = λ node in'. (settled_has c.args.nodes.now.items c.sort_unstable.new.self.items c.dedup.new.self.items c.sort_unstable.ensures.permutation kept node).0 in';
        many = search rules;
      },
    )

pub returns-clause-kept : goal.returns-clause-kept
returns-clause-kept c = λ node.
    let kept : c.dedup.new.self.items ≡ dedup (eq_by_cmp node_cmp) c.sort_unstable.new.self.items =
    dedup_is eqs.ghosts.eq c.sort_unstable.new.self.items c.dedup.new.self.items c.dedup.ensures.filtered ∙ ap (λ e. dedup e c.sort_unstable.new.self.items) (λ i x y. matches_eq-law x y i) in
    settled_has c.args.nodes.now.items c.sort_unstable.new.self.items c.dedup.new.self.items c.sort_unstable.ensures.permutation kept node
