-- What a token does by the row that reads it, and what a whole SPEF text comes to.
use Rattle.std.specs.Prelude.{ℕ, Bool, true, false, Result, Ok, Err, List}
use Rattle.rc_keys.specs.declared.code.Code.TheVariants.{E16}
use Rattle.rc_keys.specs.declared.fault.Refusal.{Refusal}
use Rattle.rc_keys.specs.declared.fault.Refusal.TheVariants.{At}
use Rattle.rc_keys.specs.declared.token.Mode.TheVariants as mode
use Rattle.rc_keys.specs.Lexemes.{Lexeme, words_of}
use Rattle.rc_keys.specs.Course.{Turn, Reading, Read, Refuses, Unfinished, reading}
use Rattle.rc_spef.specs.declared.value.Spef.{Spef}
use Rattle.rc_spef.specs.declared.state.State.{State}
use Rattle.rc_spef.specs.declared.state.Row.{Row}
use Rattle.rc_spef.specs.declared.state.Row.TheVariants as rows
use Rattle.rc_spef.specs.Keys.{key_of}
use Rattle.rc_spef.specs.Moves.{spef_begin, spef_made}
use Rattle.rc_spef.specs.HeaderRows.{begin_row, version_row, header_row, design_row, quoted_row, flow_row, flows_row, divider_row, delimiter_row, bus_left_row, bus_right_row, number_row, other_unit_row, cap_unit_row, res_unit_row, nets_row, is_complete}
use Rattle.rc_spef.specs.NameRows.{names_row, name_row, ports_row, port_direction_row, port_tail_row, first_coordinate_row, passed_row, cell_row}
use Rattle.rc_spef.specs.NetRows.{net_name_row, net_total_row, net_tail_row, sections_row, conns_row, conn_end_row, conn_direction_row, conn_tail_row, caps_row, cap_first_row, cap_second_row, cap_value_row, resistors_row, res_first_row, res_second_row, res_value_row}

abbrev pub row_in : Row → State → Lexeme → Turn State
row_in rows.Begin s word = begin_row s (key_of word) word
row_in rows.Version s word = version_row s (key_of word) word
row_in rows.Header s word = header_row s (key_of word) word
row_in rows.Design s word = design_row s (key_of word) word
row_in rows.Quoted s word = quoted_row s (key_of word) word
row_in rows.Flow s word = flow_row s (key_of word) word
row_in rows.Flows s word = flows_row s (key_of word) word
row_in rows.Divider s word = divider_row s (key_of word) word
row_in rows.Delimiter s word = delimiter_row s (key_of word) word
row_in rows.BusLeft s word = bus_left_row s (key_of word) word
row_in rows.BusRight s word = bus_right_row s (key_of word) word
row_in rows.OtherNumber s word = number_row rows.OtherUnit s word
row_in rows.OtherUnit s word = other_unit_row s (key_of word) word
row_in rows.CapNumber s word = number_row rows.CapUnit s word
row_in rows.CapUnit s word = cap_unit_row s (key_of word) word
row_in rows.ResNumber s word = number_row rows.ResUnit s word
row_in rows.ResUnit s word = res_unit_row s (key_of word) word
row_in rows.Names s word = names_row s (key_of word) word
row_in rows.Name s word = name_row s (key_of word) word
row_in rows.Ports s word = ports_row s (key_of word) word
row_in rows.PortDirection s word = port_direction_row s (key_of word) word
row_in rows.PortTail s word = port_tail_row s (key_of word) word
row_in rows.FirstCoordinate s word = first_coordinate_row s (key_of word)
row_in rows.SecondCoordinate s word = passed_row s (key_of word)
row_in rows.Load s word = passed_row s (key_of word)
row_in rows.Cell s word = cell_row s (key_of word) word
row_in rows.Nets s word = nets_row s (key_of word) word
row_in rows.NetName s word = net_name_row s word
row_in rows.NetTotal s word = net_total_row s word
row_in rows.NetTail s word = net_tail_row s (key_of word) word
row_in rows.Confidence s word = passed_row s (key_of word)
row_in rows.Sections s word = sections_row s (key_of word) word
row_in rows.Conns s word = conns_row s (key_of word) word
row_in rows.ConnEnd s word = conn_end_row s word
row_in rows.ConnDirection s word = conn_direction_row s (key_of word) word
row_in rows.ConnTail s word = conn_tail_row s (key_of word) word
row_in rows.NodeTail s word = conn_tail_row s (key_of word) word
row_in rows.Caps s word = caps_row s word
row_in rows.CapFirst s word = cap_first_row s word
row_in rows.CapSecond s word = cap_second_row s word
row_in rows.CapValue s word = cap_value_row s word
row_in rows.Resistors s word = resistors_row s word
row_in rows.ResFirst s word = res_first_row s word
row_in rows.ResSecond s word = res_second_row s word
row_in rows.ResValue s word = res_value_row s word

-- what a token does
unfoldable pub spef_turn : State → Lexeme → Turn State
spef_turn s word = row_in s.row s word

-- a text may end behind a header that lacks nothing, where no net is open
unfoldable pub spef_may_end : State → Bool
spef_may_end s = ends_in s.row
  where
    ends_in : Row → Bool
    ends_in rows.Header = is_complete s.header
    ends_in rows.Flows = is_complete s.header
    ends_in rows.Names = true
    ends_in rows.Ports = true
    ends_in rows.PortTail = true
    ends_in rows.Nets = true
    ends_in _ = false

abbrev pub outcome_of : Reading State → Result Spef Refusal
outcome_of (Read s) = Ok (spef_made s)
outcome_of (Refuses refusal) = Err refusal
outcome_of (Unfinished begun last) = Err (At E16 last)

-- what a SPEF text comes to: its value, or its first refused place
unfoldable pub spef_outcome : List ℕ → Result Spef Refusal
spef_outcome text = outcome_of (reading spef_turn spef_may_end spef_begin (words_of mode.Spef text))
