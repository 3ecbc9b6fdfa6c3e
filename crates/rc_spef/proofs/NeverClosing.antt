-- No row closes a text.
use Rattle.std.proofs.Common.{ℕ, Bool, true, false, cond, List, [], ◌∷◌, inl, inr, Option, Some, None, Result, Ok, Err}
use Rattle.rc_fixed.specs.declared.decimal.Fixed.{Fixed}
use Rattle.std.specs.Prelude.{◌&&◌, ◌++◌, not, slice_index}
use Rattle.std.specs.List.{list_any}
use Rattle.std.specs.Str.{bytes_eq}
use Rattle.rc_keys.specs.declared.code.Code.{Code}
use Rattle.rc_keys.specs.declared.code.Code.TheVariants.{E03, E04, E07, E16}
use Rattle.rc_keys.specs.Lexemes.{Lexeme}
use Rattle.rc_keys.specs.Course.{Turn, Refuse, More, Done, Close, refuse}
use Rattle.rc_keys.specs.Statements.{at_line, Closes}
use Rattle.rc_spef.specs.declared.value.End.{End}
use Rattle.rc_spef.specs.declared.value.Dir3.{Dir3}
use Rattle.rc_spef.specs.declared.state.ConnKind.{ConnKind}
use Rattle.rc_spef.specs.declared.state.ConnKind.TheVariants as conn_kinds
use Rattle.rc_spef.specs.declared.state.State.{State}
use Rattle.rc_spef.specs.declared.state.Row.{Row}
use Rattle.rc_spef.specs.declared.state.Row.TheVariants as rows
use Rattle.rc_spef.specs.declared.key.Key.{Key}
use Rattle.rc_spef.specs.declared.key.Key.TheVariants as keys
use Rattle.rc_spef.specs.Keys.{key_of, is_quoted}
use Rattle.rc_spef.specs.References.{is_entry, is_in_map}
use Rattle.rc_spef.specs.Moves.{goes, done, end_read, name_read, value_read, direction_of}
use Rattle.rc_spef.specs.HeaderRows.{is_part, is_complete, has_bytes, first_byte, is_one, begin_row, version_row, nets_row, behind_names, behind_header, header_ends, header_word, header_row, design_row, quoted_row, flow_row, flows_row, divider_row, delimiter_row, bus_left_row, bus_right_row, number_row, other_unit_row, cap_unit_row, res_unit_row}
use Rattle.rc_spef.specs.NameRows.{entry_number, entry_row, names_row, name_of_word, takes_name, name_row, takes_port, ports_row, takes_port_direction, port_direction_row, or_attribute, port_tail_row, first_coordinate_row, passed_row, takes_cell, cell_row}
use Rattle.rc_spef.specs.NetRows.{takes_net_name, net_name_row, takes_total, net_total_row, behind_resistors, behind_caps, behind_conns, sections_row, net_tail_row, conns_row, end_of_conn, takes_conn_end, conn_end_row, takes_conn_direction, conn_direction_row, conn_tail_row, is_number, is_reference, caps_row, takes_cap_first, cap_first_row, takes_cap_value, cap_value_row, takes_cap_second, cap_second_row, resistors_row, takes_res_first, res_first_row, takes_res_second, res_second_row, takes_res_value, res_value_row}
use Rattle.rc_spef.specs.Rows.{row_in, spef_turn}

abbrev Open : Turn State → Type 0
Open (Refuse refusal) = Unit {0}
Open (More s) = Unit {0}
Open (Done s) = Unit {0}
Open (Close s) = ⊥

either : (b : Bool) (t u : Turn State) → Open t → Open u → Open (cond b t u)
either true t u first second = first
either false t u first second = second

begin_row-open : (s : State) (word : Lexeme) (key : Key) → Open (begin_row s key word)
unfolding begin_row
begin_row-open s word keys.Spef = tt
begin_row-open s word _ = tt

version_row-open : (s : State) (word : Lexeme) (key : Key) → Open (version_row s key word)
unfolding version_row
version_row-open s word keys.Quoted = tt
version_row-open s word _ = tt

design_row-open : (s : State) (word : Lexeme) (key : Key) → Open (design_row s key word)
unfolding design_row
design_row-open s word keys.Quoted = tt
design_row-open s word _ = tt

quoted_row-open : (s : State) (word : Lexeme) (key : Key) → Open (quoted_row s key word)
unfolding quoted_row
quoted_row-open s word keys.Quoted = tt
quoted_row-open s word _ = tt

flow_row-open : (s : State) (word : Lexeme) (key : Key) → Open (flow_row s key word)
unfolding flow_row
flow_row-open s word keys.Quoted = tt
flow_row-open s word _ = tt

delimiter_row-open : (s : State) (word : Lexeme) (key : Key) → Open (delimiter_row s key word)
unfolding delimiter_row
delimiter_row-open s word keys.Colon = tt
delimiter_row-open s word _ = tt

other_unit_row-open : (s : State) (word : Lexeme) (key : Key) → Open (other_unit_row s key word)
unfolding other_unit_row
other_unit_row-open s word keys.Quoted = tt
other_unit_row-open s word _ = tt

cap_unit_row-open : (s : State) (word : Lexeme) (key : Key) → Open (cap_unit_row s key word)
unfolding cap_unit_row
cap_unit_row-open s word keys.FemtoFarad = tt
cap_unit_row-open s word keys.PicoFarad = tt
cap_unit_row-open s word _ = tt

res_unit_row-open : (s : State) (word : Lexeme) (key : Key) → Open (res_unit_row s key word)
unfolding res_unit_row
res_unit_row-open s word keys.Ohm = tt
res_unit_row-open s word keys.KiloOhm = tt
res_unit_row-open s word _ = tt

nets_row-open : (s : State) (word : Lexeme) (key : Key) → Open (nets_row s key word)
unfolding nets_row
nets_row-open s word keys.DNet = tt
nets_row-open s word _ = tt

behind_resistors-open : (s : State) (word : Lexeme) (key : Key) → Open (behind_resistors s key word)
unfolding behind_resistors
behind_resistors-open s word keys.End = tt
behind_resistors-open s word _ = tt

behind_names-open : (s : State) (word : Lexeme) (key : Key) → Open (behind_names s key word)
unfolding behind_names
behind_names-open s word keys.Ports = tt
behind_names-open s word key = nets_row-open s word key

behind_header-open : (s : State) (word : Lexeme) (key : Key) → Open (behind_header s key word)
unfolding behind_header
behind_header-open s word keys.NameMap = tt
behind_header-open s word key = behind_names-open s word key

header_ends-open : (s : State) (word : Lexeme) (key : Key) → Open (header_ends s key word)
unfolding header_ends
header_ends-open s word key = either (is_part key && not (is_complete s.header)) (refuse E16 word) (behind_header s key word) tt (behind_header-open s word key)

header_word-open : (row : Row) (s : State) (word : Lexeme) → Open (header_word row s word)
unfolding header_word
header_word-open row s word = either (list_any (bytes_eq word.bytes) s.header.seen) (refuse E07 word) (goes row (record s { header = record s.header { seen = s.header.seen ++ word.bytes ∷ [] } })) tt tt

header_row-open : (s : State) (word : Lexeme) (key : Key) → Open (header_row s key word)
unfolding header_row
header_row-open s word keys.Design = header_word-open rows.Design s word
header_row-open s word keys.Date = header_word-open rows.Quoted s word
header_row-open s word keys.Vendor = header_word-open rows.Quoted s word
header_row-open s word keys.Program = header_word-open rows.Quoted s word
header_row-open s word keys.Version = header_word-open rows.Quoted s word
header_row-open s word keys.DesignFlow = header_word-open rows.Flow s word
header_row-open s word keys.Divider = header_word-open rows.Divider s word
header_row-open s word keys.Delimiter = header_word-open rows.Delimiter s word
header_row-open s word keys.BusDelimiter = header_word-open rows.BusLeft s word
header_row-open s word keys.TimeUnit = header_word-open rows.OtherNumber s word
header_row-open s word keys.InductUnit = header_word-open rows.OtherNumber s word
header_row-open s word keys.CapUnit = header_word-open rows.CapNumber s word
header_row-open s word keys.ResUnit = header_word-open rows.ResNumber s word
header_row-open s word key = header_ends-open s word key

flows_row-open : (s : State) (word : Lexeme) (key : Key) → Open (flows_row s key word)
unfolding flows_row
flows_row-open s word keys.Quoted = tt
flows_row-open s word key = header_row-open s word key

divider_row-open : (s : State) (word : Lexeme) (key : Key) → Open (divider_row s key word)
unfolding divider_row
divider_row-open s word key = either (has_bytes 1 key word) (done rows.Header (record s { header = record s.header { divider = first_byte word } })) (refuse E03 word) tt tt

bus_left_row-open : (s : State) (word : Lexeme) (key : Key) → Open (bus_left_row s key word)
unfolding bus_left_row
bus_left_row-open s word key =
    let one : Turn State = goes rows.BusRight (record s { header = record s.header { bus_left = first_byte word } }) in
    either (has_bytes 2 key word) (done rows.Header (record s { header = record s.header { bus_left = first_byte word; bus_right = slice_index word.bytes 1 } })) (cond (has_bytes 1 key word) one (refuse E03 word)) tt (either (has_bytes 1 key word) one (refuse E03 word) tt tt)

bus_right_row-open : (s : State) (word : Lexeme) (key : Key) → Open (bus_right_row s key word)
unfolding bus_right_row
bus_right_row-open s word key = either (has_bytes 1 key word) (done rows.Header (record s { header = record s.header { bus_right = first_byte word } })) (refuse E03 word) tt tt

number_row-open : (row : Row) (s : State) (word : Lexeme) → Open (number_row row s word)
unfolding number_row
number_row-open row s word = either (is_one (value_read None word)) (goes row s) (refuse E04 word) tt tt

entry_row-open : (s : State) (word : Lexeme) → Open (entry_row s word)
unfolding entry_row
entry_row-open s word = either (is_in_map s.map (entry_number word)) (refuse E07 word) (goes rows.Name (record s { map = s.map ++ entry_number word ∷ [] })) tt tt

names_row-open : (s : State) (word : Lexeme) (key : Key) → Open (names_row s key word)
unfolding names_row
names_row-open s word key = either (not (is_quoted key) && is_entry word.bytes) (entry_row s word) (behind_names s key word) (entry_row-open s word) (behind_names-open s word key)

name_row-by : (s : State) (word : Lexeme) (key : Key) (r : Result (List ℕ) Code) → Open (takes_name s word r)
name_row-by s word key (Ok x) = tt
name_row-by s word key (Err c) = tt

name_row-open : (s : State) (word : Lexeme) (key : Key) → Open (name_row s key word)
unfolding name_row
name_row-open s word key = name_row-by s word key (name_of_word key word)

port-by : (s : State) (word : Lexeme) (r : Result ℕ Code) → Open (takes_port s word r)
port-by s word (Ok x) = tt
port-by s word (Err c) = tt

ports_row-open : (s : State) (word : Lexeme) (key : Key) → Open (ports_row s key word)
unfolding ports_row
ports_row-open s word keys.DNet = tt
ports_row-open s word key = port-by s word (name_read s.map word)

port_direction_row-by : (s : State) (word : Lexeme) (key : Key) (r : Option Dir3) → Open (takes_port_direction s key word r)
port_direction_row-by s word key (Some x) = tt
port_direction_row-by s word key None = tt

port_direction_row-open : (s : State) (word : Lexeme) (key : Key) → Open (port_direction_row s key word)
unfolding port_direction_row
port_direction_row-open s word key = port_direction_row-by s word key (direction_of key)

attribute-open : (s : State) (key : Key) (other : Turn State) → Open other → Open (or_attribute s key other)
attribute-open s keys.Coordinates other is = tt
attribute-open s keys.Load other is = tt
attribute-open s keys.DrivingCell other is = tt
attribute-open s keys.Slews other is = tt
attribute-open s _ other is = is

port_tail_row-open : (s : State) (word : Lexeme) (key : Key) → Open (port_tail_row s key word)
unfolding port_tail_row
port_tail_row-open s word key = attribute-open s key (ports_row s key word) (ports_row-open s word key)

first_coordinate_row-open : (s : State) (key : Key) → Open (first_coordinate_row s key)
unfolding first_coordinate_row
first_coordinate_row-open s keys.Quoted = tt
first_coordinate_row-open s _ = tt

passed_row-open : (s : State) (key : Key) → Open (passed_row s key)
unfolding passed_row
passed_row-open s keys.Quoted = tt
passed_row-open s _ = tt

cell_row-by : (s : State) (word : Lexeme) (key : Key) (r : Result (List ℕ) Code) → Open (takes_cell s r)
cell_row-by s word key (Ok x) = tt
cell_row-by s word key (Err c) = tt

cell_row-open : (s : State) (word : Lexeme) (key : Key) → Open (cell_row s key word)
unfolding cell_row
cell_row-open s word key = cell_row-by s word key (name_of_word key word)

net_name_row-by : (s : State) (word : Lexeme) (r : Result ℕ Code) → Open (takes_net_name s word r)
net_name_row-by s word (Ok x) = tt
net_name_row-by s word (Err c) = tt

net_name_row-open : (s : State) (word : Lexeme) → Open (net_name_row s word)
unfolding net_name_row
net_name_row-open s word = net_name_row-by s word (name_read s.map word)

net_total_row-by : (s : State) (word : Lexeme) (r : Option Fixed) → Open (takes_total s word r)
net_total_row-by s word (Some x) = tt
net_total_row-by s word None = tt

net_total_row-open : (s : State) (word : Lexeme) → Open (net_total_row s word)
unfolding net_total_row
net_total_row-open s word = net_total_row-by s word (value_read s.header.cap_scale word)

behind_caps-open : (s : State) (word : Lexeme) (key : Key) → Open (behind_caps s key word)
unfolding behind_caps
behind_caps-open s word keys.Res = tt
behind_caps-open s word key = behind_resistors-open s word key

behind_conns-open : (s : State) (word : Lexeme) (key : Key) → Open (behind_conns s key word)
unfolding behind_conns
behind_conns-open s word keys.Cap = tt
behind_conns-open s word key = behind_caps-open s word key

sections_row-open : (s : State) (word : Lexeme) (key : Key) → Open (sections_row s key word)
unfolding sections_row
sections_row-open s word keys.Conn = tt
sections_row-open s word key = behind_conns-open s word key

net_tail_row-open : (s : State) (word : Lexeme) (key : Key) → Open (net_tail_row s key word)
unfolding net_tail_row
net_tail_row-open s word keys.Confidence = tt
net_tail_row-open s word key = sections_row-open s word key

conns_row-open : (s : State) (word : Lexeme) (key : Key) → Open (conns_row s key word)
unfolding conns_row
conns_row-open s word keys.ExternalConn = tt
conns_row-open s word keys.InternalConn = tt
conns_row-open s word keys.InternalNode = tt
conns_row-open s word key = behind_conns-open s word key

conn_tail_row-open : (s : State) (word : Lexeme) (key : Key) → Open (conn_tail_row s key word)
unfolding conn_tail_row
conn_tail_row-open s word key = attribute-open s key (conns_row s key word) (conns_row-open s word key)

kind-open : (kind : ConnKind) (end : End) (s : State) → Open (end_of_conn kind end s)
kind-open conn_kinds.Node end s = tt
kind-open conn_kinds.External end s = tt
kind-open conn_kinds.Internal end s = tt

conn_end_row-by : (s : State) (word : Lexeme) (r : Result End Code) → Open (takes_conn_end s word r)
conn_end_row-by s word (Ok end) = kind-open s.kind end s
conn_end_row-by s word (Err c) = tt

conn_end_row-open : (s : State) (word : Lexeme) → Open (conn_end_row s word)
unfolding conn_end_row
conn_end_row-open s word = conn_end_row-by s word (end_read s.map word)

conn_direction_row-by : (s : State) (word : Lexeme) (key : Key) (r : Option Dir3) → Open (takes_conn_direction s key word r)
conn_direction_row-by s word key (Some x) = tt
conn_direction_row-by s word key None = tt

conn_direction_row-open : (s : State) (word : Lexeme) (key : Key) → Open (conn_direction_row s key word)
unfolding conn_direction_row
conn_direction_row-open s word key = conn_direction_row-by s word key (direction_of key)

caps_row-open : (s : State) (word : Lexeme) → Open (caps_row s word)
unfolding caps_row
caps_row-open s word = either (is_number word) (goes rows.CapFirst s) (behind_caps s (key_of word) word) tt (behind_caps-open s word (key_of word))

cap_first_row-by : (s : State) (word : Lexeme) (r : Result End Code) → Open (takes_cap_first s word r)
cap_first_row-by s word (Ok x) = tt
cap_first_row-by s word (Err c) = tt

cap_first_row-open : (s : State) (word : Lexeme) → Open (cap_first_row s word)
unfolding cap_first_row
cap_first_row-open s word = cap_first_row-by s word (end_read s.map word)

cap_value_row-by : (s : State) (word : Lexeme) (r : Option Fixed) → Open (takes_cap_value s word r)
cap_value_row-by s word (Some x) = tt
cap_value_row-by s word None = tt

cap_value_row-open : (s : State) (word : Lexeme) → Open (cap_value_row s word)
unfolding cap_value_row
cap_value_row-open s word = cap_value_row-by s word (value_read s.header.cap_scale word)

second-by : (s : State) (word : Lexeme) (r : Result End Code) → Open (takes_cap_second s word r)
second-by s word (Ok end) = tt
second-by s word (Err c) = tt

cap_second_row-open : (s : State) (word : Lexeme) → Open (cap_second_row s word)
unfolding cap_second_row
cap_second_row-open s word = either (is_reference word) (takes_cap_second s word (end_read s.map word)) (cap_value_row s word) (second-by s word (end_read s.map word)) (cap_value_row-open s word)

resistors_row-open : (s : State) (word : Lexeme) → Open (resistors_row s word)
unfolding resistors_row
resistors_row-open s word = either (is_number word) (goes rows.ResFirst s) (behind_resistors s (key_of word) word) tt (behind_resistors-open s word (key_of word))

res_first_row-by : (s : State) (word : Lexeme) (r : Result End Code) → Open (takes_res_first s word r)
res_first_row-by s word (Ok x) = tt
res_first_row-by s word (Err c) = tt

res_first_row-open : (s : State) (word : Lexeme) → Open (res_first_row s word)
unfolding res_first_row
res_first_row-open s word = res_first_row-by s word (end_read s.map word)

res_second_row-by : (s : State) (word : Lexeme) (r : Result End Code) → Open (takes_res_second s word r)
res_second_row-by s word (Ok x) = tt
res_second_row-by s word (Err c) = tt

res_second_row-open : (s : State) (word : Lexeme) → Open (res_second_row s word)
unfolding res_second_row
res_second_row-open s word = res_second_row-by s word (end_read s.map word)

res_value_row-by : (s : State) (word : Lexeme) (r : Option Fixed) → Open (takes_res_value s word r)
res_value_row-by s word (Some x) = tt
res_value_row-by s word None = tt

res_value_row-open : (s : State) (word : Lexeme) → Open (res_value_row s word)
unfolding res_value_row
res_value_row-open s word = res_value_row-by s word (value_read s.header.res_scale word)

row-open : (row : Row) (s : State) (word : Lexeme) → Open (row_in row s word)
row-open rows.Begin s word = begin_row-open s word (key_of word)
row-open rows.Version s word = version_row-open s word (key_of word)
row-open rows.Header s word = header_row-open s word (key_of word)
row-open rows.Design s word = design_row-open s word (key_of word)
row-open rows.Quoted s word = quoted_row-open s word (key_of word)
row-open rows.Flow s word = flow_row-open s word (key_of word)
row-open rows.Flows s word = flows_row-open s word (key_of word)
row-open rows.Divider s word = divider_row-open s word (key_of word)
row-open rows.Delimiter s word = delimiter_row-open s word (key_of word)
row-open rows.BusLeft s word = bus_left_row-open s word (key_of word)
row-open rows.BusRight s word = bus_right_row-open s word (key_of word)
row-open rows.OtherNumber s word = number_row-open rows.OtherUnit s word
row-open rows.OtherUnit s word = other_unit_row-open s word (key_of word)
row-open rows.CapNumber s word = number_row-open rows.CapUnit s word
row-open rows.CapUnit s word = cap_unit_row-open s word (key_of word)
row-open rows.ResNumber s word = number_row-open rows.ResUnit s word
row-open rows.ResUnit s word = res_unit_row-open s word (key_of word)
row-open rows.Names s word = names_row-open s word (key_of word)
row-open rows.Name s word = name_row-open s word (key_of word)
row-open rows.Ports s word = ports_row-open s word (key_of word)
row-open rows.PortDirection s word = port_direction_row-open s word (key_of word)
row-open rows.PortTail s word = port_tail_row-open s word (key_of word)
row-open rows.FirstCoordinate s word = first_coordinate_row-open s (key_of word)
row-open rows.SecondCoordinate s word = passed_row-open s (key_of word)
row-open rows.Load s word = passed_row-open s (key_of word)
row-open rows.Cell s word = cell_row-open s word (key_of word)
row-open rows.Nets s word = nets_row-open s word (key_of word)
row-open rows.NetName s word = net_name_row-open s word
row-open rows.NetTotal s word = net_total_row-open s word
row-open rows.NetTail s word = net_tail_row-open s word (key_of word)
row-open rows.Confidence s word = passed_row-open s (key_of word)
row-open rows.Sections s word = sections_row-open s word (key_of word)
row-open rows.Conns s word = conns_row-open s word (key_of word)
row-open rows.ConnEnd s word = conn_end_row-open s word
row-open rows.ConnDirection s word = conn_direction_row-open s word (key_of word)
row-open rows.ConnTail s word = conn_tail_row-open s word (key_of word)
row-open rows.NodeTail s word = conn_tail_row-open s word (key_of word)
row-open rows.Caps s word = caps_row-open s word
row-open rows.CapFirst s word = cap_first_row-open s word
row-open rows.CapSecond s word = cap_second_row-open s word
row-open rows.CapValue s word = cap_value_row-open s word
row-open rows.Resistors s word = resistors_row-open s word
row-open rows.ResFirst s word = res_first_row-open s word
row-open rows.ResSecond s word = res_second_row-open s word
row-open rows.ResValue s word = res_value_row-open s word

turn-open : (s : State) (word : Lexeme) → Open (spef_turn s word)
unfolding spef_turn
turn-open s word = row-open s.row s word

pub never_closes : (line : ℕ) (s after : State) (words : List Lexeme) → Closes spef_turn line s words after → ⊥
never_closes line s after [] is = is
never_closes line s after (word ∷ words) (inl is) = let open_turn : Open (spef_turn s (at_line line word)) = turn-open s (at_line line word) in rw is at open_turn
never_closes line s after (word ∷ words) (inr more) = never_closes line more.0 after words more.2
