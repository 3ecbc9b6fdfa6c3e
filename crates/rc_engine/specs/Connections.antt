-- How the connections of a net, its resistors and the die pins stand in a SPEF value.
use Rattle.std.specs.Prelude.{ℕ, true, false, List, Option, Some, None, option_map, slice_get}
use Rattle.std.specs.List.{filter_map}
use Rattle.std.specs.Option.{option_and_then}
use Rattle.rc_lef.specs.declared.cell.Dir.{Dir}
use Rattle.rc_lef.specs.declared.cell.Dir.TheVariants as dirs
use Rattle.rc_lef.specs.declared.cell.Macro.{Macro}
use Rattle.rc_lef.specs.declared.cell.MacroPin.{MacroPin}
use Rattle.rc_layout.specs.declared.net.Conn.{Conn}
use Rattle.rc_layout.specs.declared.net.Conn.TheVariants as conns
use Rattle.rc_layout.specs.declared.part.Comp.{Comp}
use Rattle.rc_layout.specs.declared.part.Port.{Port}
use Rattle.rc_layout.specs.declared.parts.Parts.{Parts}
use Rattle.rc_nodes.specs.declared.resistor.Res.{Res}
use Rattle.rc_nodes.specs.declared.resistor.ResEnd.{ResEnd}
use Rattle.rc_nodes.specs.declared.resistor.ResEnd.TheVariants as ends
use Rattle.rc_spef.specs.declared.value.Dir3.{Dir3}
use Rattle.rc_spef.specs.declared.value.Dir3.TheVariants as dir3
use Rattle.rc_spef.specs.declared.value.End.{End}
use Rattle.rc_spef.specs.declared.value.Sub.TheVariants as sub
use Rattle.rc_spef.specs.declared.value.SpefConn.{SpefConn}
use Rattle.rc_spef.specs.declared.value.SpefPort.{SpefPort}
use Rattle.rc_spef.specs.declared.value.SpefRes.{SpefRes}
use Rattle.rc_spef.specs.References.{sub_of}
use Rattle.rc_engine.specs.Names.{Numbering, net_name, comp_name, port_name, escaped_in}

abbrev pub direction : Dir → Dir3
direction dirs.I = dir3.I
direction dirs.O = dir3.O
direction dirs.B = dir3.B

-- ---- ends

-- a node of a net
abbrev pub node_end : ℕ → ℕ → End
node_end net node = record { name = net_name net; sub = sub.Num node }

-- a pin of a component: behind the component's name stands that of the pin, escaped
abbrev pub pin_end : Parts → Numbering → ℕ → List ℕ → End
pin_end parts numbering comp pin = record { name = comp_name numbering comp; sub = sub_of (escaped_in parts pin) }

-- a die pin
abbrev pub port_end : Numbering → ℕ → End
port_end numbering port = record { name = port_name numbering port; sub = sub.Bare }

-- ---- connections

abbrev pub pin_line : Parts → Numbering → ℕ → Macro → MacroPin → SpefConn
pin_line parts numbering comp cell pin = record {
  port = false;
  end = pin_end parts numbering comp pin.name;
  dir = direction pin.dir;
  cell = Some (escaped_in parts cell.name);
}

abbrev pub port_line : Numbering → ℕ → Port → SpefConn
port_line numbering number port = record { port = true; end = port_end numbering number; dir = direction port.dir; cell = None }

-- a component's cell, and the pin of that number in a cell
abbrev pub cell_of : Parts → Comp → Option Macro
cell_of parts comp = slice_get parts.tech.macros comp.cell

abbrev pub line_in : Parts → Numbering → ℕ → ℕ → Option Macro → Option SpefConn
line_in parts numbering comp pin None = None
line_in parts numbering comp pin (Some cell) = option_map (pin_line parts numbering comp cell) (slice_get cell.pins pin)

-- the line of a connection; a layout has what its nets connect
abbrev pub conn_line : Parts → Numbering → Conn → Option SpefConn
conn_line parts numbering (conns.Pin comp pin) = line_in parts numbering comp pin (option_and_then (cell_of parts) (slice_get parts.comps comp))
conn_line parts numbering (conns.Port port) = option_map (port_line numbering port) (slice_get parts.ports port)

abbrev pub conn_lines : Parts → Numbering → List Conn → List SpefConn
conn_lines parts numbering conns = filter_map (conn_line parts numbering) conns

-- ---- resistors

-- where a resistor of a net ends, by the lines of the net's connections
abbrev pub res_end : ℕ → List SpefConn → ResEnd → Option End
res_end net lines (ends.Node node) = Some (node_end net node)
res_end net lines (ends.Conn conn) = option_map (λ line. line.end) (slice_get lines conn)

abbrev pub res_to : ℕ → Res → End → SpefRes
res_to net res end = record { a = node_end net res.a; b = end; value = record { 0 = res.value } }

abbrev pub res_line : ℕ → List SpefConn → Res → Option SpefRes
res_line net lines res = option_map (res_to net res) (res_end net lines res.b)

abbrev pub res_lines : ℕ → List SpefConn → List Res → List SpefRes
res_lines net lines resistors = filter_map (res_line net lines) resistors

-- ---- die pins

abbrev pub port_of : Numbering → ℕ × Port → SpefPort
port_of numbering numbered = record { name = port_name numbering numbered.0; dir = direction numbered.1.dir }
