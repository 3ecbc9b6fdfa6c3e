use Rattle.std.proofs.Common.{◌∙◌, ap, map}
use Rattle.std.specs.List.{dedup}
use Rattle.std.proofs.lemmas.List.Filters.{dedup_is}
use Rattle.rc_nodes.specs.contracts.contact.ContactPartialEq.TheImpl as eqs
use Rattle.rc_nodes.specs.contracts.contact.ContactOrd.TheImpl.Laws.{matches_eq-law}
use Rattle.rc_nodes.specs.Pins.{conn_rects}
use Rattle.rc_nodes.proofs.Touching.{contacts_are}
use Rattle.rc_nodes.proofs.Listed.{contacts_are_listed}
use Rattle.rc_nodes.proofs.contact.contacts.Goals as goal

pub returns : goal.returns
returns c =
    contacts_are_listed c.args.nodes.now (map (conn_rects c.args.layout.now.parts) c.args.conns.now) c.dedup.new.self.items
    (contacts_are c.args.nodes.now (map (conn_rects c.args.layout.now.parts) c.args.conns.now) c.in_ok-found.found.items c.sort_unstable.new.self.items c.dedup.new.self.items c.in_ok-found.ensures c.sort_unstable.ensures.permutation c.sort_unstable.ensures.sorted
    (dedup_is eqs.ghosts.eq c.sort_unstable.new.self.items c.dedup.new.self.items c.dedup.ensures.filtered ∙ ap (λ e. dedup e c.sort_unstable.new.self.items) (λ i x y. matches_eq-law x y i)))
