-- The resistors of a net: its wires, its vias, and its contacts.
use Rattle.std.specs.Prelude.{◌≤◌, ℕ, pos, ◌≤ℤ◌, ◌+◌, ◌-◌, ◌*◌, ◌/◌, ◌-ℤ◌, List, length, ◌++◌, Option, Some, None, map, slice_get, slice_index_or, unsigned_abs}
use Rattle.std.specs.Option.{option_map_or}
use Rattle.rc_geom.specs.declared.rect.Pt.{Pt}
use Rattle.rc_geom.specs.Sums.{natural}
use Rattle.rc_lef.specs.declared.via.Via.{Via}
use Rattle.rc_rules.specs.RuleFile.{RuleFile, HasRules, cut_in}
use Rattle.rc_rules.specs.LookUp.{ohm_of}
use Rattle.rc_layout.specs.declared.net.Net.{Net}
use Rattle.rc_layout.specs.declared.parts.Parts.{Parts}
use Rattle.rc_nodes.specs.declared.node.Node.{Node}
use Rattle.rc_nodes.specs.declared.wire.Wire.{Wire}
use Rattle.rc_nodes.specs.declared.link.ViaLink.{ViaLink}
use Rattle.rc_nodes.specs.declared.contact.Contact.{Contact}
use Rattle.rc_nodes.specs.declared.resistor.Res.{Res}
use Rattle.rc_nodes.specs.declared.resistor.ResEnd.TheVariants as ends
use Rattle.rc_nodes.specs.Wires.{wires_of}
use Rattle.rc_nodes.specs.Vias.{links_of}
use Rattle.rc_nodes.specs.Contacts.{contacts_of}
use Rattle.rc_nodes.specs.Pins.{conn_rects}

-- the node of a number
abbrev pub node_of : List Node → ℕ → Node
node_of nodes n = slice_index_or nodes (n - 1) (record { layer = 0; at = record { x = pos 0; y = pos 0 } })

-- a wire can be rated: its ends are nodes, its width is some, and there are rules for its layer
pub record CanRate (rules : RuleFile) (nodes : List Node) (wire : Wire) : Type 0 where
  pub lower : 1 ≤ wire.lower
  pub below : wire.lower ≤ length nodes
  pub upper : 1 ≤ wire.upper
  pub above : wire.upper ≤ length nodes
  pub width : pos 1 ≤ℤ wire.width
  pub rated : HasRules rules (node_of nodes wire.lower).layer

-- how far a point is from another, along both axes
abbrev pub distance : Pt → Pt → ℕ
distance p q = unsigned_abs (q.x -ℤ p.x) + unsigned_abs (q.y -ℤ p.y)

-- a wire has its length times the resistance of a unit of the layer's wires of that width
abbrev pub wire_resistor : RuleFile → List Node → Wire → Res
wire_resistor rules nodes wire =
    let lower = node_of nodes wire.lower in
    record {
      a = wire.lower;
      b = ends.Node wire.upper;
      value = distance lower.at (node_of nodes wire.upper).at * ohm_of rules lower.layer (natural wire.width);
    }

-- a via has the resistance of a cut, parted among its cuts
abbrev pub via_value : RuleFile → Option Via → ℕ
via_value rules None = 0
via_value rules (Some via) = option_map_or (λ cut. cut / via.cuts) (cut_in rules.cuts via.cut) 0

abbrev pub via_resistor : RuleFile → List Via → ViaLink → Res
via_resistor rules vias link = record { a = link.lower; b = ends.Node link.upper; value = via_value rules (slice_get vias link.via) }

abbrev pub contact_resistor : RuleFile → Contact → Res
contact_resistor rules contact = record { a = contact.node; b = ends.Conn contact.conn; value = rules.contact }

-- all wires, then all vias, then all contacts, each in its order
unfoldable pub resistors_of : Parts → RuleFile → Net → List Node → List Res
resistors_of parts rules net nodes =
    map (wire_resistor rules nodes) (wires_of net.items nodes)
    ++ map (via_resistor rules parts.vias) (links_of parts.vias net.vias nodes)
    ++ map (contact_resistor rules) (contacts_of (map (conn_rects parts) net.conns) nodes)
