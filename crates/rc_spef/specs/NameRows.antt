-- The rows of the map of names, of the ports, and of attributes.
use Rattle.std.specs.Prelude.{◌++◌, ◌&&◌, ℕ, Bool, true, false, not, Option, Some, None, Result, Ok, Err, List, [], ◌∷◌, drop, if◌then◌else◌}
use Rattle.std.specs.Str.Parse.{digits_value}
use Rattle.rc_keys.specs.declared.code.Code.{Code}
use Rattle.rc_keys.specs.declared.code.Code.TheVariants.{E03, E04, E07}
use Rattle.rc_keys.specs.Lexemes.{Lexeme}
use Rattle.rc_keys.specs.Course.{Turn, refuse}
use Rattle.rc_spef.specs.declared.value.SpefConn.{SpefConn}
use Rattle.rc_spef.specs.declared.value.Dir3.{Dir3}
use Rattle.rc_spef.specs.declared.state.State.{State}
use Rattle.rc_spef.specs.declared.state.Row.{Row}
use Rattle.rc_spef.specs.declared.state.Row.TheVariants as rows
use Rattle.rc_spef.specs.declared.key.Key.{Key}
use Rattle.rc_spef.specs.declared.key.Key.TheVariants as keys
use Rattle.rc_spef.specs.Keys.{is_quoted, unexpected}
use Rattle.rc_spef.specs.References.{is_entry, is_in_map, begins_star}
use Rattle.rc_spef.specs.Moves.{goes, done, refuse_there, name_read, direction_of}
use Rattle.rc_spef.specs.HeaderRows.{net_begins, behind_names}

-- ---- *NAME_MAP

-- *k name: the number of an entry
abbrev pub entry_number : Lexeme → ℕ
entry_number word = digits_value 10 (drop 1 word.bytes)

unfoldable pub entry_row : State → Lexeme → Turn State
entry_row s word = if is_in_map s.map (entry_number word) then refuse E07 word else goes rows.Name (record s { map = s.map ++ entry_number word ∷ [] })

unfoldable pub names_row : State → Key → Lexeme → Turn State
names_row s key word = if not (is_quoted key) && is_entry word.bytes then entry_row s word else behind_names s key word

-- a name or a cell: a word that doesn't begin with `*`
abbrev pub name_of_word : Key → Lexeme → Result (List ℕ) Code
name_of_word key word =
    if is_quoted key then Err E03 else if begins_star word.bytes then Err (unexpected key word) else Ok word.bytes

abbrev pub takes_name : State → Lexeme → Result (List ℕ) Code → Turn State
takes_name s word (Err code) = refuse code word
takes_name s word (Ok name) = done rows.Names (record s { names = s.names ++ name ∷ [] })

unfoldable pub name_row : State → Key → Lexeme → Turn State
name_row s key word = takes_name s word (name_of_word key word)

-- ---- *PORTS

-- *k D
abbrev pub takes_port : State → Lexeme → Result ℕ Code → Turn State
takes_port s word (Err code) = refuse code word
takes_port s word (Ok name) = goes rows.PortDirection (record s { name = name; line = word.line })

unfoldable pub ports_row : State → Key → Lexeme → Turn State
ports_row s keys.DNet word = net_begins s word
ports_row s key word = takes_port s word (name_read s.map word)

abbrev pub takes_port_direction : State → Key → Lexeme → Option Dir3 → Turn State
takes_port_direction s key word None = refuse (unexpected key word) word
takes_port_direction s key word (Some dir) = done rows.PortTail (record s { ports = s.ports ++ record { name = s.name; dir = dir } ∷ [] })

unfoldable pub port_direction_row : State → Key → Lexeme → Turn State
port_direction_row s key word = takes_port_direction s key word (direction_of key)

-- ---- attributes, which belong to the statement before them: *C x y, *L v, *D cell

-- an attribute is begun, and behind it the row goes on that stands now
abbrev pub attribute_begins : Row → State → Turn State
attribute_begins row s = goes row (record s { back = s.row })

-- where attributes may stand, and else another row
abbrev pub or_attribute : State → Key → Turn State → Turn State
or_attribute s keys.Coordinates other = attribute_begins rows.FirstCoordinate s
or_attribute s keys.Load other = attribute_begins rows.Load s
or_attribute s keys.DrivingCell other = attribute_begins rows.Cell s
or_attribute s keys.Slews other = refuse_there E04 s
or_attribute s _ other = other

unfoldable pub port_tail_row : State → Key → Lexeme → Turn State
port_tail_row s key word = or_attribute s key (ports_row s key word)

unfoldable pub first_coordinate_row : State → Key → Turn State
first_coordinate_row s keys.Quoted = refuse_there E03 s
first_coordinate_row s _ = goes rows.SecondCoordinate s

-- the last token of an attribute that is passed over
unfoldable pub passed_row : State → Key → Turn State
passed_row s keys.Quoted = refuse_there E03 s
passed_row s _ = done s.back s

-- the first of several counts
abbrev pub first_cell : Option (List ℕ) → List ℕ → Option (List ℕ)
first_cell None name = Some name
first_cell (Some earlier) name = Some earlier

-- the last connection has this cell, where it has none yet
unfoldable pub with_cell : List SpefConn → List ℕ → List SpefConn
with_cell [] name = []
with_cell (conn ∷ []) name = record conn { cell = first_cell conn.cell name } ∷ []
with_cell (conn ∷ next ∷ conns) name = conn ∷ with_cell (next ∷ conns) name

abbrev pub is_conn_tail : Row → Bool
is_conn_tail rows.ConnTail = true
is_conn_tail _ = false

-- the cell of a connection is kept
abbrev pub cell_kept : State → List ℕ → State
cell_kept s name = if is_conn_tail s.back then record s { net = record s.net { conns = with_cell s.net.conns name } } else s

abbrev pub takes_cell : State → Result (List ℕ) Code → Turn State
takes_cell s (Err code) = refuse_there code s
takes_cell s (Ok name) = done s.back (cell_kept s name)

unfoldable pub cell_row : State → Key → Lexeme → Turn State
cell_row s key word = takes_cell s (name_of_word key word)
