use Rattle.std.proofs.Common.{List, map, subst, sym, ap, ◌∙◌}
use Rattle.std.specs.Prelude.{All}
use Rattle.rc_layout.specs.declared.item.Item.{Item}
use Rattle.rc_nodes.specs.Wires.{wires_of}
use Rattle.rc_nodes.specs.Vias.{links_of}
use Rattle.rc_nodes.specs.Contacts.{contacts_of}
use Rattle.rc_nodes.specs.Pins.{conn_rects}
use Rattle.rc_nodes.specs.Resistors.{resistors_of, wire_resistor, via_resistor, contact_resistor, CanRate}
use Rattle.rc_nodes.proofs.Placeable.{all_can_place}
use Rattle.rc_nodes.proofs.Rated.{wires_rated, in_three}
use Rattle.rc_nodes.proofs.resistor.resistors.Goals as goal

pub add_wires-requires : goal.add_wires-requires
add_wires-requires c =
    let nodes = c.args.nodes.now in
    subst (All (CanRate c.args.rules.now nodes)) (sym (c.items-4.ensures ∙ (c.in_ok-wires.ensures ∙ ap (λ (items : List Item). wires_of items nodes) c.items.ensures)))
    (wires_rated c.args.rules.now c.args.net.now.items nodes c.requires.order c.requires.net.items c.requires.rules)

pub returns : goal.returns
unfolding resistors_of
returns c =
    let nodes = c.args.nodes.now in
    let rules = c.args.rules.now in
    let net = c.args.net.now in
    let parts = c.args.layout.now.parts in
    let wires = ap (map (wire_resistor rules nodes)) (c.items-4.ensures ∙ (c.in_ok-wires.ensures ∙ ap (λ (items : List Item). wires_of items nodes) c.items.ensures)) in
    let links = ap (λ vias. map (via_resistor rules vias) c.deref.result.now) c.vias-2.ensures
    ∙ ap (map (via_resistor rules parts.vias)) (c.deref.ensures.value ∙ (c.in_ok-links.ensures ∙ (ap (λ vias. links_of vias c.items-2.result.now nodes) c.vias.ensures ∙ ap (λ placed. links_of parts.vias placed nodes) c.items-2.ensures))) in
    let contacts = ap (map (contact_resistor rules)) (c.deref-2.ensures.value ∙ (c.in_ok-contacts.ensures ∙ ap (λ conns. contacts_of (map (conn_rects parts) conns) nodes) c.items-3.ensures)) in
    in_three _ _ _ _ _ _ _ _ _ _ c.new-all.ensures c.in_ok-add_wires.ensures c.in_ok-add_links.ensures c.in_ok-add_contacts.ensures wires links contacts

pub contacts-requires-clause-place : goal.contacts-requires-clause-place
contacts-requires-clause-place c = all_can_place c.args.layout.now.parts c.items-3.result.now c.facts.ensures.sound
