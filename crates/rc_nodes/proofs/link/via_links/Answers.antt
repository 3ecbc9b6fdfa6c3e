use Rattle.std.proofs.Common.{◌∙◌, ap}
use Rattle.std.specs.List.{dedup}
use Rattle.std.proofs.lemmas.List.Filters.{dedup_is}
use Rattle.rc_nodes.specs.contracts.link.ViaLinkPartialEq.TheImpl as eqs
use Rattle.rc_nodes.specs.contracts.link.ViaLinkOrd.TheImpl.Laws.{matches_eq-law}
use Rattle.rc_nodes.proofs.Linked.{links_are}
use Rattle.rc_nodes.proofs.Listed.{links_are_listed}
use Rattle.rc_nodes.proofs.link.via_links.Goals as goal

pub returns : goal.returns
returns c =
    links_are_listed c.args.nodes.now c.args.vias.now c.args.placed.now c.dedup.new.self.items
    (links_are c.args.nodes.now c.args.vias.now c.args.placed.now c.in_ok-links.links.items c.sort_unstable.new.self.items c.dedup.new.self.items c.in_ok-links.ensures c.sort_unstable.ensures.permutation c.sort_unstable.ensures.sorted
    (dedup_is eqs.ghosts.eq c.sort_unstable.new.self.items c.dedup.new.self.items c.dedup.ensures.filtered ∙ ap (λ e. dedup e c.sort_unstable.new.self.items) (λ i x y. matches_eq-law x y i)))
