-- The links and the contacts of a net are those that are listed.
use Rattle.std.proofs.Common.{◌≡◌, ◌<◌, ◌+◌, ◌⊎◌, inl, inr, ⊎_elim, ℕ, Bool, true, List, Some, refl, ap, sym, ◌∙◌, subst, arith}
use Rattle.std.specs.Prelude.{Contains, slice_get, ◌==◌, ◌&&◌}
use Rattle.std.specs.List.{enumerate_from, flat_map, list_any}
use Rattle.std.specs.List.Sorted.{IsStrictlySortedBy}
use Rattle.std.specs.declared.cmp.Ordering.TheVariants.{Less}
use Rattle.std.specs.Ordering.{nat_cmp, ordering_then}
use Rattle.std.proofs.lemmas.Bool.{and_parts, eqb-true}
use Rattle.std.proofs.lemmas.Option.{slice_get-get_or}
use Rattle.std.proofs.lemmas.List.Folds.{list_any-from_Any, Any-from_list_any}
use Rattle.rc_geom.specs.declared.rect.Pt.{Pt}
use Rattle.rc_geom.specs.declared.rect.Rect.{Rect}
use Rattle.rc_lef.specs.declared.via.Via.{Via}
use Rattle.rc_nodes.specs.declared.node.Node.{Node}
use Rattle.rc_nodes.specs.declared.link.ViaLink.{ViaLink}
use Rattle.rc_nodes.specs.declared.contact.Contact.{Contact}
use Rattle.rc_nodes.specs.Nodes.{IsNumber, numbered}
use Rattle.rc_nodes.specs.Wires.{same_point}
use Rattle.rc_nodes.specs.Vias.{stands_at, link_between, links_of, IsLinkAt, IsLink, link_cmp, AreLinks, ViasAreLinkedOnce}
use Rattle.rc_nodes.specs.Contacts.{is_in, contact_at, contacts_of, IsContact, contact_cmp, AreContacts}
use Rattle.rc_nodes.proofs.Sorted.{nat_is_less, nat_is_equal, same_sorted, sorted_from_pairs}
use Rattle.rc_nodes.proofs.Words.{number_in, in_number}
use Rattle.rc_nodes.proofs.Wired.{in_flat, flat_has}
use Rattle.rc_nodes.proofs.Linked.{link_total, only_link}
use Rattle.rc_nodes.proofs.Touching.{contact_total, enumerated_tells, enumerated_gives}
use Rattle.rc_nodes.proofs.Neighbours.{one_node, same_tells_point, same_gives_point}
use Rattle.rc_nodes.proofs.Pairs.{flat_sorted, one_sorted, numbers_rise, only_one, the_one}

both : (a b : Bool) → a ≡ true → b ≡ true → (a && b) ≡ true
both a b h k = grind arith

eq_passes : (a b : ℕ) → a ≡ b → (a == b) ≡ true
eq_passes a b h = grind arith

pub at_place : {X : Type 0} (xs : List X) (n : ℕ) (x : X) → Contains (enumerate_from 0 xs) (n, x) → slice_get xs n ≡ Some x
at_place xs n x h =
    let found = enumerated_tells 0 xs n x h in
    let is = found.1 in
    let same : n ≡ found.0 = omega (arith, is) in
    ap (slice_get xs) same ∙ found.2

pub placed_at : {X : Type 0} (xs : List X) (n : ℕ) (x : X) → slice_get xs n ≡ Some x → Contains (enumerate_from 0 xs) (n, x)
placed_at {X} xs n x h = let same : n + 0 ≡ n = omega arith in subst (λ k. Contains {X = ℕ × X} (enumerate_from 0 xs) (k, x)) same (enumerated_gives 0 xs n x h)

-- ---- links

link_less : (a b : ViaLink) → (a.lower < b.lower) ⊎ ((a.lower ≡ b.lower) × ((a.upper < b.upper) ⊎ ((a.upper ≡ b.upper) × (a.via < b.via)))) → link_cmp a b ≡ Less
link_less a b h = ⊎_elim
    (λ l. ap (λ o. ordering_then o (ordering_then (nat_cmp a.upper b.upper) (nat_cmp a.via b.via))) (nat_is_less a.lower b.lower l))
    (λ l. ap (λ o. ordering_then o (ordering_then (nat_cmp a.upper b.upper) (nat_cmp a.via b.via))) (nat_is_equal a.lower b.lower l.0) ∙ ⊎_elim
    (λ m. ap (λ o. ordering_then o (nat_cmp a.via b.via)) (nat_is_less a.upper b.upper m))
    (λ m. ap (λ o. ordering_then o (nat_cmp a.via b.via)) (nat_is_equal a.upper b.upper m.0) ∙ nat_is_less a.via b.via m.1)
    l.1)
    h

-- whether a via is placed between two nodes
abbrev joins : List (ℕ × Pt) → ℕ × Node → ℕ × Node → ℕ × Via → Bool
joins placed lower upper via = (lower.1.layer == via.1.lower) && (upper.1.layer == via.1.upper) && (same_point lower.1.at upper.1.at && list_any (stands_at via.0 lower.1.at) placed)

abbrev link_of : ℕ × Node → ℕ × Node → ℕ × Via → ViaLink
link_of lower upper via = record { lower = lower.0; upper = upper.0; via = via.0 }

abbrev links_between : List Via → List (ℕ × Pt) → ℕ × Node → ℕ × Node → List ViaLink
links_between vias placed lower upper = flat_map (link_between placed lower upper) (enumerate_from 0 vias)

abbrev links_from : List Via → List (ℕ × Pt) → List Node → ℕ × Node → List ViaLink
links_from vias placed nodes lower = flat_map (links_between vias placed lower) (numbered nodes)

is_link : (placed : List (ℕ × Pt)) (lower upper : ℕ × Node) (via : ℕ × Via) (link : ViaLink) → Contains (link_between placed lower upper via) link → (joins placed lower upper via ≡ true) × (link_of lower upper via ≡ link)
is_link placed lower upper via link h = only_one (joins placed lower upper via) (link_of lower upper via) link h

record IsFound (vias : List Via) (placed : List (ℕ × Pt)) (lower upper : ℕ × Node) (link : ViaLink) : Type 0 where
  via : ℕ × Via
  of : Contains (enumerate_from 0 vias) via
  joined : joins placed lower upper via ≡ true
  is : link_of lower upper via ≡ link

found_between : (vias : List Via) (placed : List (ℕ × Pt)) (lower upper : ℕ × Node) (link : ViaLink) → Contains (links_between vias placed lower upper) link → IsFound vias placed lower upper link
found_between vias placed lower upper link h =
    let found = in_flat (link_between placed lower upper) (enumerate_from 0 vias) link h in
    let one = is_link placed lower upper found.element link found.inside in
    record { via = found.element; of = found.member; joined = one.0; is = one.1 }

record IsFoundFrom (vias : List Via) (placed : List (ℕ × Pt)) (nodes : List Node) (lower : ℕ × Node) (link : ViaLink) : Type 0 where
  upper : ℕ × Node
  of : Contains (numbered nodes) upper
  found : IsFound vias placed lower upper link

found_from : (vias : List Via) (placed : List (ℕ × Pt)) (nodes : List Node) (lower : ℕ × Node) (link : ViaLink) → Contains (links_from vias placed nodes lower) link → IsFoundFrom vias placed nodes lower link
found_from vias placed nodes lower link h =
    let found = in_flat (links_between vias placed lower) (numbered nodes) link h in
    record { upper = found.element; of = found.member; found = found_between vias placed lower found.element link found.inside }

links_sorted : (vias : List Via) (placed : List (ℕ × Pt)) (nodes : List Node) → IsStrictlySortedBy link_cmp (links_of vias placed nodes)
unfolding links_of
links_sorted vias placed nodes =
    flat_sorted (λ (n : ℕ × Node). n.0) link_cmp (links_from vias placed nodes) (numbered nodes) (numbers_rise 1 nodes)
    (λ lower. flat_sorted (λ (n : ℕ × Node). n.0) link_cmp (links_between vias placed lower) (numbered nodes) (numbers_rise 1 nodes)
    (λ upper. flat_sorted (λ (n : ℕ × Via). n.0) link_cmp (link_between placed lower upper) (enumerate_from 0 vias) (numbers_rise 0 vias)
    (λ via. one_sorted link_cmp (joins placed lower upper via) (link_of lower upper via))
    (λ x y z w less in_z in_w.
    let a = (is_link placed lower upper x z in_z).1 in
    let b = (is_link placed lower upper y w in_w).1 in
    let via_a : z.via ≡ x.0 = ap (λ (l : ViaLink). l.via) (sym a) in
    let via_b : w.via ≡ y.0 = ap (λ (l : ViaLink). l.via) (sym b) in
    link_less z w (inr (ap (λ (l : ViaLink). l.lower) (sym a) ∙ ap (λ (l : ViaLink). l.lower) b, inr (ap (λ (l : ViaLink). l.upper) (sym a) ∙ ap (λ (l : ViaLink). l.upper) b, omega (arith, via_a, via_b, less))))))
    (λ x y z w less in_z in_w.
    let a = (found_between vias placed lower x z in_z).is in
    let b = (found_between vias placed lower y w in_w).is in
    let up_a : z.upper ≡ x.0 = ap (λ (l : ViaLink). l.upper) (sym a) in
    let up_b : w.upper ≡ y.0 = ap (λ (l : ViaLink). l.upper) (sym b) in
    link_less z w (inr (ap (λ (l : ViaLink). l.lower) (sym a) ∙ ap (λ (l : ViaLink). l.lower) b, inl (omega (arith, up_a, up_b, less))))))
    (λ x y z w less in_z in_w.
    let a = (found_from vias placed nodes x z in_z).found.is in
    let b = (found_from vias placed nodes y w in_w).found.is in
    let low_a : z.lower ≡ x.0 = ap (λ (l : ViaLink). l.lower) (sym a) in
    let low_b : w.lower ≡ y.0 = ap (λ (l : ViaLink). l.lower) (sym b) in
    link_less z w (inl (omega (arith, low_a, low_b, less))))

point_is : (p q : Pt) → same_point p q ≡ true → p ≡ q
point_is p q h = let same = same_tells_point p q h in λ i. record { x = same.0 i; y = same.1 i }

link_tells : (vias : List Via) (placed : List (ℕ × Pt)) (nodes : List Node) (link : ViaLink) → Contains (links_of vias placed nodes) link → IsLink nodes vias placed link
unfolding links_of
link_tells vias placed nodes link h =
    let first = in_flat (links_from vias placed nodes) (numbered nodes) link h in
    let lower = first.element in
    let from = found_from vias placed nodes lower link first.inside in
    let upper = from.upper in
    let found = from.found in
    let via = found.via in
    let outer = and_parts ((lower.1.layer == via.1.lower) && (upper.1.layer == via.1.upper)) (same_point lower.1.at upper.1.at && list_any (stands_at via.0 lower.1.at) placed) found.joined in
    let layers = and_parts (lower.1.layer == via.1.lower) (upper.1.layer == via.1.upper) outer.0 in
    let places = and_parts (same_point lower.1.at upper.1.at) (list_any (stands_at via.0 lower.1.at) placed) outer.1 in
    let stands = Any-from_list_any (stands_at via.0 lower.1.at) placed places.1 in
    let at = stands.1 in
    let tests = and_parts (at.0 == via.0) (same_point at.1 lower.1.at) stands.4 in
    let number : at.0 ≡ via.0 = eqb-true at.0 via.0 tests.0 in
    let here : at.1 ≡ lower.1.at = point_is at.1 lower.1.at tests.1 in
    let there : lower.1.at ≡ upper.1.at = point_is lower.1.at upper.1.at places.0 in
    let low : lower.1 ≡ record { layer = via.1.lower; at = at.1 } = let l = eqb-true lower.1.layer via.1.lower layers.0 in λ i. record { layer = l i; at = sym here i } in
    let up : upper.1 ≡ record { layer = via.1.upper; at = at.1 } = let l = eqb-true upper.1.layer via.1.upper layers.1 in λ i. record { layer = l i; at = (sym there ∙ sym here) i } in
    let in_low = in_number nodes lower.0 lower.1 first.member in
    let in_up = in_number nodes upper.0 upper.1 from.of in (
      at,
      (stands.0, stands.2, stands.3),
      subst (IsLinkAt nodes vias at) found.is (record {
        number = number;
        via = via.1;
        of = ap (slice_get vias) number ∙ at_place vias via.0 via.1 found.of;
        lower = subst (IsNumber nodes lower.0) low in_low;
        upper = subst (IsNumber nodes upper.0) up in_up;
      }),
    )

link_gives : (vias : List Via) (placed : List (ℕ × Pt)) (nodes : List Node) (link : ViaLink) → IsLink nodes vias placed link → Contains (links_of vias placed nodes) link
unfolding links_of
link_gives vias placed nodes link h =
    let at = h.0 in
    let in' = h.1 in
    let l = h.2 in
    let a : Node = record { layer = l.via.lower; at = at.1 } in
    let b : Node = record { layer = l.via.upper; at = at.1 } in
    let one = same_gives_point at.1 at.1 refl refl in
    let lower : ℕ × Node = (link.lower, a) in
    let upper : ℕ × Node = (link.upper, b) in
    let via : ℕ × Via = (link.via, l.via) in
    let test : stands_at link.via at.1 at ≡ true = both (at.0 == link.via) (same_point at.1 at.1) (eq_passes at.0 link.via l.number) one in
    let any : list_any (stands_at link.via at.1) placed ≡ true = list_any-from_Any (stands_at link.via at.1) placed (in'.0, at, in'.1, in'.2, test) in
    let joined : joins placed lower upper via ≡ true =
    both ((l.via.lower == l.via.lower) && (l.via.upper == l.via.upper)) (same_point at.1 at.1 && list_any (stands_at link.via at.1) placed)
    (both (l.via.lower == l.via.lower) (l.via.upper == l.via.upper) (eq_passes l.via.lower l.via.lower refl) (eq_passes l.via.upper l.via.upper refl))
    (both (same_point at.1 at.1) (list_any (stands_at link.via at.1) placed) one any) in
    flat_has (links_from vias placed nodes) (numbered nodes) lower link (number_in nodes link.lower a l.lower)
    (flat_has (links_between vias placed lower) (numbered nodes) upper link (number_in nodes link.upper b l.upper)
    (flat_has (link_between placed lower upper) (enumerate_from 0 vias) via link (placed_at vias link.via l.via (ap (slice_get vias) (sym l.number) ∙ l.of))
    (the_one (joins placed lower upper via) (link_of lower upper via) joined)))

pub links_are_listed : (nodes : List Node) (vias : List Via) (placed : List (ℕ × Pt)) (links : List ViaLink) → AreLinks nodes vias placed links → links ≡ links_of vias placed nodes
links_are_listed nodes vias placed links are =
    same_sorted link_total links (links_of vias placed nodes) (sorted_from_pairs link_cmp links are.order) (links_sorted vias placed nodes)
    (λ link in'. link_gives vias placed nodes link ((are.every link).0 in'))
    (λ link in'. (are.every link).1 (link_tells vias placed nodes link in'))

number_at : (nodes : List Node) (node : Node) → Contains nodes node → (n : ℕ) × IsNumber nodes n node
number_at nodes node h = (h.0 + 1, (h.0, refl, slice_get-get_or nodes h.0 node h.1 ∙ ap Some h.2))

pub vias_are_linked_once : ViasAreLinkedOnce
vias_are_linked_once vias all nodes placed via order in' of lower upper =
    let low = number_at nodes (record { layer = via.lower; at = placed.1 }) lower in
    let high = number_at nodes (record { layer = via.upper; at = placed.1 }) upper in
    let link : ViaLink = record { lower = low.0; upper = high.0; via = placed.0 } in
    let at : IsLinkAt nodes vias placed link = record { number = refl; via = via; of = of; lower = low.1; upper = high.1 } in
    record {
      link = link;
      listed = link_gives vias all nodes link (placed, in', at);
      at = at;
      only = λ other h. sym ((only_link nodes vias placed via low.0 high.0 other order of low.1 high.1).0 h);
      alone = λ other h.
          let node = one_node nodes low.0 (record { layer = h.via.lower; at = other.1 }) (record { layer = via.lower; at = placed.1 }) h.lower low.1 in
          λ i. (h.number i, ap (λ (n : Node). n.at) node i);
    }

-- ---- contacts

contact_less : (a b : Contact) → (a.conn < b.conn) ⊎ ((a.conn ≡ b.conn) × (a.node < b.node)) → contact_cmp a b ≡ Less
contact_less a b h = ⊎_elim
    (λ l. ap (λ o. ordering_then o (nat_cmp a.node b.node)) (nat_is_less a.conn b.conn l))
    (λ l. ap (λ o. ordering_then o (nat_cmp a.node b.node)) (nat_is_equal a.conn b.conn l.0) ∙ nat_is_less a.node b.node l.1)
    h

abbrev Pin : Type 0
Pin = ℕ × List (ℕ × Rect)

abbrev touched_by : Pin → ℕ × Node → Bool
touched_by pin node = list_any (λ (placed : ℕ × Rect). is_in placed.0 placed.1 node.1) pin.1

abbrev contact_of : Pin → ℕ × Node → Contact
contact_of pin node = record { conn = pin.0; node = node.0 }

is_contact : (pin : Pin) (node : ℕ × Node) (c : Contact) → Contains (contact_at pin node) c → (touched_by pin node ≡ true) × (contact_of pin node ≡ c)
is_contact pin node c h = only_one (touched_by pin node) (contact_of pin node) c h

abbrev contacts_from : List Node → Pin → List Contact
contacts_from nodes pin = flat_map (contact_at pin) (numbered nodes)

conn_of : (nodes : List Node) (pin : Pin) (c : Contact) → Contains (contacts_from nodes pin) c → c.conn ≡ pin.0
conn_of nodes pin c h =
    let found = in_flat (contact_at pin) (numbered nodes) c h in
    ap (λ (z : Contact). z.conn) (sym (is_contact pin found.element c found.inside).1)

contacts_sorted : (pins : List (List (ℕ × Rect))) (nodes : List Node) → IsStrictlySortedBy contact_cmp (contacts_of pins nodes)
unfolding contacts_of
contacts_sorted pins nodes =
    flat_sorted (λ (pin : Pin). pin.0) contact_cmp (contacts_from nodes) (enumerate_from 0 pins) (numbers_rise 0 pins)
    (λ pin. flat_sorted (λ (n : ℕ × Node). n.0) contact_cmp (contact_at pin) (numbered nodes) (numbers_rise 1 nodes)
    (λ node. one_sorted contact_cmp (touched_by pin node) (contact_of pin node))
    (λ x y z w less in_z in_w.
    let a = (is_contact pin x z in_z).1 in
    let b = (is_contact pin y w in_w).1 in
    let node_a : z.node ≡ x.0 = ap (λ (c : Contact). c.node) (sym a) in
    let node_b : w.node ≡ y.0 = ap (λ (c : Contact). c.node) (sym b) in
    contact_less z w (inr (ap (λ (c : Contact). c.conn) (sym a) ∙ ap (λ (c : Contact). c.conn) b, omega (arith, node_a, node_b, less)))))
    (λ x y z w less in_z in_w.
    let a = conn_of nodes x z in_z in
    let b = conn_of nodes y w in_w in
    contact_less z w (inl (omega (arith, a, b, less))))

contact_tells : (pins : List (List (ℕ × Rect))) (nodes : List Node) (c : Contact) → Contains (contacts_of pins nodes) c → IsContact nodes pins c
unfolding contacts_of
contact_tells pins nodes c h =
    let first = in_flat (contacts_from nodes) (enumerate_from 0 pins) c h in
    let pin = first.element in
    let second = in_flat (contact_at pin) (numbered nodes) c first.inside in
    let node = second.element in
    let one = is_contact pin node c second.inside in
    let any = Any-from_list_any (λ (placed : ℕ × Rect). is_in placed.0 placed.1 node.1) pin.1 one.0 in
    subst (IsContact nodes pins) one.1 (record {
      rects = pin.1;
      pin = at_place pins pin.0 pin.1 first.member;
      placed = any.1;
      of = (any.0, any.2, any.3);
      node = node.1;
      number = in_number nodes node.0 node.1 second.member;
      inside = any.4;
    })

contact_gives : (pins : List (List (ℕ × Rect))) (nodes : List Node) (c : Contact) → IsContact nodes pins c → Contains (contacts_of pins nodes) c
unfolding contacts_of
contact_gives pins nodes c h =
    let pin : Pin = (c.conn, h.rects) in
    let node : ℕ × Node = (c.node, h.node) in
    let any : touched_by pin node ≡ true = list_any-from_Any (λ (placed : ℕ × Rect). is_in placed.0 placed.1 h.node) h.rects (h.of.0, h.placed, h.of.1, h.of.2, h.inside) in
    flat_has (contacts_from nodes) (enumerate_from 0 pins) pin c (placed_at pins c.conn h.rects h.pin)
    (flat_has (contact_at pin) (numbered nodes) node c (number_in nodes c.node h.node h.number)
    (the_one (touched_by pin node) (contact_of pin node) any))

pub contacts_are_listed : (nodes : List Node) (pins : List (List (ℕ × Rect))) (contacts : List Contact) → AreContacts nodes pins contacts → contacts ≡ contacts_of pins nodes
contacts_are_listed nodes pins contacts are =
    same_sorted contact_total contacts (contacts_of pins nodes) (sorted_from_pairs contact_cmp contacts are.order) (contacts_sorted pins nodes)
    (λ c in'. contact_gives pins nodes c ((are.all c).0 in'))
    (λ c in'. (are.all c).1 (contact_tells pins nodes c in'))
