use Rattle.std.proofs.Common.{◌≡◌, ◌<◌, ◌≤◌, ◌+◌, ◌∙◌, take, length, subst, sym, rules}
use Rattle.std.specs.Prelude.{◌↔◌, Contains}
use Rattle.rc_nodes.specs.declared.link.ViaLink.{ViaLink}
use Rattle.rc_nodes.specs.Vias.{IsLink}
use Rattle.rc_nodes.proofs.Linked.{link_more, link_same, links_done}
use Rattle.rc_nodes.proofs.link.all_links.Goals as goal
use Rattle.rc_nodes.proofs.link.all_links.Goals.{in-Some+in_ok-push, in_default}

pub loop-k-preserved : goal.loop-k-preserved
loop-k-preserved c =
    let within : c.loop-k.k < length c.args.placed.now = search rules in
    elim c.match-link_at.branch [
      | in-Some+in_ok-push w ↦
          let same : c.match-link_at.links.items ≡ w.push.new.self.items = λ i. (w.links-is i).items in
          link_more c.args.nodes.now c.args.vias.now c.args.placed.now c.loop-k.k w.in-Some.link c.loop-k.links.items c.match-link_at.links.items within
          w.in-Some.ensures
          c.loop-k.invariant (same ∙ w.in_ok-push.ensures.items)
      | in_default w ↦
          let same : c.match-link_at.links.items ≡ c.loop-k.links.items = λ i. (w.links-is i).items in
          subst (λ l. (link : ViaLink) → Contains l link ↔ IsLink c.args.nodes.now c.args.vias.now (take (c.loop-k.k + 1) c.args.placed.now) link) (sym same)
          (link_same c.args.nodes.now c.args.vias.now c.args.placed.now c.loop-k.k c.loop-k.links.items within
          w.in_default.ensures c.loop-k.invariant)
    ]

pub returns : goal.returns
returns c =
    let all : length c.args.placed.now ≤ c.loop-k.k = search rules in
    links_done c.args.nodes.now c.args.vias.now c.args.placed.now c.loop-k.k c.loop-k.links.items all c.loop-k.invariant
