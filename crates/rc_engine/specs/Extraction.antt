-- The square-by-square extraction of a layout: what its SPEF value is. Amounts are in units of 10^-15 fF and of 10^-15 ohm.
use Rattle.std.specs.Prelude.{ℕ, pos, negsuc, ◌+◌, ◌-◌, ◌^◌, ◌==◌, not, List, ◌++◌, Option, Some, None, length, map, filter, nat_lt, option_map, if◌then◌else◌}
use Rattle.std.specs.List.{range_with_len, enumerate_from, flat_map, filter_map, sum_by}
use Rattle.rc_geom.specs.declared.rect.Rect.{Rect}
use Rattle.rc_geom.specs.declared.key.Key.{Key}
use Rattle.rc_geom.specs.declared.key.Key.TheVariants.{Ground}
use Rattle.rc_geom.specs.Plane.{Metal}
use Rattle.rc_geom.specs.Sums.{numbers}
use Rattle.rc_geom.specs.Parts.{pair_key}
use Rattle.rc_geom.specs.Extraction.{key_value, key_count}
use Rattle.rc_rules.specs.RuleFile.{RuleFile}
use Rattle.rc_rules.specs.LookUp.{rates}
use Rattle.rc_layout.specs.declared.net.Net.{Net}
use Rattle.rc_layout.specs.Layouts.{Wired}
use Rattle.rc_nodes.specs.Nodes.{nodes_of}
use Rattle.rc_nodes.specs.LayoutPlane.{layout_plane}
use Rattle.rc_nodes.specs.Resistors.{resistors_of}
use Rattle.rc_spef.specs.declared.value.Cap.{Cap}
use Rattle.rc_spef.specs.declared.value.DNet.{DNet}
use Rattle.rc_spef.specs.declared.value.End.{End}
use Rattle.rc_spef.specs.declared.value.Spef.{Spef}
use Rattle.rc_engine.specs.Names.{Numbering, numbering_of, net_name, names_of, escaped_in}
use Rattle.rc_engine.specs.Connections.{node_end, conn_lines, res_lines, port_of}

-- ---- what the faces add up to

-- all squares that metal can cover
abbrev pub all_squares : Rect
all_squares = record { x0 = negsuc (2 ^ 29 - 1); y0 = negsuc (2 ^ 29 - 1); x1 = pos (2 ^ 29 + 1); y1 = pos (2 ^ 29 + 1) }

-- what all faces of the layout add for a key, and how many parts they add
unfoldable pub value_of : Wired → RuleFile → Key → ℕ
value_of wired rules key = key_value numbers (layout_plane wired) (rates rules) all_squares key

unfoldable pub count_of : Wired → RuleFile → Key → ℕ
count_of wired rules key = key_count (layout_plane wired) (rates rules) all_squares key

-- ---- capacitances

abbrev pub metal_end : Metal → End
metal_end a = node_end a.0 a.1

-- what a key adds up to between a node and another one, or ground; it stands where some face adds a part to the key
abbrev pub cap_for : Wired → RuleFile → Metal → Option Metal → Key → Option Cap
cap_for wired rules a b key =
    if nat_lt 0 (count_of wired rules key) then Some (record { a = metal_end a; b = option_map metal_end b; value = record { 0 = value_of wired rules key } })
    else None

-- the nodes of a net, by their numbers
abbrev pub own_nodes : ℕ × Net → List Metal
own_nodes net = map (λ node. (net.0, node)) (range_with_len 1 (length (nodes_of net.1)))

abbrev pub numbered_nets : Wired → List (ℕ × Net)
numbered_nets wired = enumerate_from 0 wired.nets

-- the nodes of all nets but one, by net and then by number
abbrev pub other_nodes : Wired → ℕ → List Metal
other_nodes wired net = flat_map own_nodes (filter (λ numbered. not (numbered.0 == net)) (numbered_nets wired))

-- the ground value of each node of the net
abbrev pub ground_caps : Wired → RuleFile → ℕ × Net → List Cap
ground_caps wired rules net = filter_map (λ a. cap_for wired rules a None (Ground a.0 a.1)) (own_nodes net)

-- the coupling of each node of the net with the nodes of other nets: by own node, then by the other net, then by its node
abbrev pub couplings : Wired → RuleFile → ℕ × Net → List Cap
couplings wired rules net =
    flat_map (λ a. filter_map (λ b. cap_for wired rules a (Some b) (pair_key a b)) (other_nodes wired net.0)) (own_nodes net)

unfoldable pub net_caps : Wired → RuleFile → ℕ × Net → List Cap
net_caps wired rules net = ground_caps wired rules net ++ couplings wired rules net

-- ---- nets

-- a net's total is the sum of its capacitances
abbrev pub total_of : List Cap → ℕ
total_of caps = sum_by (λ cap. cap.value.0) caps

-- a net with its connections, these capacitances, and its resistors
abbrev pub net_with : Wired → RuleFile → Numbering → ℕ × Net → List Cap → DNet
net_with wired rules numbering net caps =
    let lines = conn_lines wired.parts numbering net.1.conns in
    record {
      name = net_name net.0;
      total = record { 0 = total_of caps };
      conns = lines;
      caps = caps;
      res = res_lines net.0 lines (resistors_of wired.parts rules net.1 (nodes_of net.1));
    }

unfoldable pub net_value : Wired → RuleFile → ℕ × Net → DNet
net_value wired rules net = net_with wired rules (numbering_of wired) net (net_caps wired rules net)

-- ---- all together

-- a value with these nets
abbrev pub value_with : Wired → List DNet → Spef
value_with wired nets = record {
  design = escaped_in wired.parts wired.parts.design;
  divider = wired.parts.divider;
  bus_left = wired.parts.bus_left;
  bus_right = wired.parts.bus_right;
  names = names_of wired;
  ports = map (port_of (numbering_of wired)) (enumerate_from 0 wired.parts.ports);
  nets = nets;
}

unfoldable pub extraction : Wired → RuleFile → Spef
extraction wired rules = value_with wired (map (net_value wired rules) (numbered_nets wired))
