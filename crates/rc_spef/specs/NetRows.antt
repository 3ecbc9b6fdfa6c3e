-- The rows of a net.
use Rattle.std.specs.Prelude.{◌++◌, ◌&&◌, ℕ, Bool, true, false, not, Option, Some, None, Result, Ok, Err, [], ◌∷◌, if◌then◌else◌}
use Rattle.rc_fixed.specs.declared.decimal.Fixed.{Fixed}
use Rattle.rc_keys.specs.declared.code.Code.{Code}
use Rattle.rc_keys.specs.declared.code.Code.TheVariants.{E05}
use Rattle.rc_keys.specs.Lexemes.{Lexeme}
use Rattle.rc_keys.specs.Course.{Turn, refuse}
use Rattle.rc_spef.specs.declared.value.End.{End}
use Rattle.rc_spef.specs.declared.value.Dir3.{Dir3}
use Rattle.rc_spef.specs.declared.state.State.{State}
use Rattle.rc_spef.specs.declared.state.ConnKind.{ConnKind}
use Rattle.rc_spef.specs.declared.state.ConnKind.TheVariants as conn_kinds
use Rattle.rc_spef.specs.declared.state.Row.TheVariants as rows
use Rattle.rc_spef.specs.declared.key.Key.{Key}
use Rattle.rc_spef.specs.declared.key.Key.TheVariants as keys
use Rattle.rc_spef.specs.Keys.{key_of, unexpected}
use Rattle.rc_spef.specs.References.{is_plain, begins_star}
use Rattle.rc_spef.specs.Moves.{goes, done, name_read, end_read, value_read, direction_of, is_quoted_kind, no_end, no_net}
use Rattle.rc_spef.specs.NameRows.{or_attribute}

-- ---- *D_NET *k total

abbrev pub takes_net_name : State → Lexeme → Result ℕ Code → Turn State
takes_net_name s word (Err code) = refuse code word
takes_net_name s word (Ok name) = goes rows.NetTotal (record s { net = record no_net { name = name } })

unfoldable pub net_name_row : State → Lexeme → Turn State
net_name_row s word = takes_net_name s word (name_read s.map word)

abbrev pub takes_total : State → Lexeme → Option Fixed → Turn State
takes_total s word None = refuse E05 word
takes_total s word (Some total) = done rows.NetTail (record s { net = record s.net { total = total } })

unfoldable pub net_total_row : State → Lexeme → Turn State
net_total_row s word = takes_total s word (value_read s.header.cap_scale word)

-- ---- the sections, in their order

-- *END
abbrev pub net_ends : State → Turn State
net_ends s = done rows.Nets (record s { nets = s.nets ++ s.net ∷ []; net = no_net })

unfoldable pub behind_resistors : State → Key → Lexeme → Turn State
behind_resistors s keys.End word = net_ends s
behind_resistors s key word = refuse (unexpected key word) word

unfoldable pub behind_caps : State → Key → Lexeme → Turn State
behind_caps s keys.Res word = done rows.Resistors s
behind_caps s key word = behind_resistors s key word

unfoldable pub behind_conns : State → Key → Lexeme → Turn State
behind_conns s keys.Cap word = done rows.Caps s
behind_conns s key word = behind_caps s key word

unfoldable pub sections_row : State → Key → Lexeme → Turn State
sections_row s keys.Conn word = done rows.Conns s
sections_row s key word = behind_conns s key word

-- *V and a word
unfoldable pub net_tail_row : State → Key → Lexeme → Turn State
net_tail_row s keys.Confidence word = goes rows.Confidence (record s { back = rows.Sections })
net_tail_row s key word = sections_row s key word

-- ---- *CONN

-- *P end D, *I end D, *N end
abbrev pub conn_begins : ConnKind → State → Lexeme → Turn State
conn_begins kind s word = goes rows.ConnEnd (record s { kind = kind; line = word.line })

unfoldable pub conns_row : State → Key → Lexeme → Turn State
conns_row s keys.ExternalConn word = conn_begins conn_kinds.External s word
conns_row s keys.InternalConn word = conn_begins conn_kinds.Internal s word
conns_row s keys.InternalNode word = conn_begins conn_kinds.Node s word
conns_row s key word = behind_conns s key word

-- an internal node is passed over
abbrev pub end_of_conn : ConnKind → End → State → Turn State
end_of_conn conn_kinds.Node end s = done rows.NodeTail s
end_of_conn _ end s = goes rows.ConnDirection (record s { first = end })

abbrev pub takes_conn_end : State → Lexeme → Result End Code → Turn State
takes_conn_end s word (Err code) = refuse code word
takes_conn_end s word (Ok end) = end_of_conn s.kind end s

unfoldable pub conn_end_row : State → Lexeme → Turn State
conn_end_row s word = takes_conn_end s word (end_read s.map word)

abbrev pub is_external : ConnKind → Bool
is_external conn_kinds.External = true
is_external _ = false

abbrev pub takes_conn_direction : State → Key → Lexeme → Option Dir3 → Turn State
takes_conn_direction s key word None = refuse (unexpected key word) word
takes_conn_direction s key word (Some dir) =
    done rows.ConnTail (record s { net = record s.net { conns = s.net.conns ++ record { port = is_external s.kind; end = s.first; dir = dir; cell = None } ∷ [] }; first = no_end })

unfoldable pub conn_direction_row : State → Key → Lexeme → Turn State
conn_direction_row s key word = takes_conn_direction s key word (direction_of key)

unfoldable pub conn_tail_row : State → Key → Lexeme → Turn State
conn_tail_row s key word = or_attribute s key (conns_row s key word)

-- ---- *CAP

-- a plain number
abbrev pub is_number : Lexeme → Bool
is_number word = not (is_quoted_kind word.kind) && is_plain word.bytes

-- n end value, n end end value
unfoldable pub caps_row : State → Lexeme → Turn State
caps_row s word = if is_number word then goes rows.CapFirst s else behind_caps s (key_of word) word

abbrev pub takes_cap_first : State → Lexeme → Result End Code → Turn State
takes_cap_first s word (Err code) = refuse code word
takes_cap_first s word (Ok end) = goes rows.CapSecond (record s { first = end })

unfoldable pub cap_first_row : State → Lexeme → Turn State
cap_first_row s word = takes_cap_first s word (end_read s.map word)

abbrev pub takes_cap_value : State → Lexeme → Option Fixed → Turn State
takes_cap_value s word None = refuse E05 word
takes_cap_value s word (Some value) =
    done rows.Caps (record s { net = record s.net { caps = s.net.caps ++ record { a = s.first; b = s.second; value = value } ∷ [] }; first = no_end; second = None })

unfoldable pub cap_value_row : State → Lexeme → Turn State
cap_value_row s word = takes_cap_value s word (value_read s.header.cap_scale word)

abbrev pub takes_cap_second : State → Lexeme → Result End Code → Turn State
takes_cap_second s word (Err code) = refuse code word
takes_cap_second s word (Ok end) = goes rows.CapValue (record s { second = Some end })

-- the second end is known by its `*`
abbrev pub is_reference : Lexeme → Bool
is_reference word = not (is_quoted_kind word.kind) && begins_star word.bytes

unfoldable pub cap_second_row : State → Lexeme → Turn State
cap_second_row s word = if is_reference word then takes_cap_second s word (end_read s.map word) else cap_value_row s word

-- ---- *RES

-- n end end value
unfoldable pub resistors_row : State → Lexeme → Turn State
resistors_row s word = if is_number word then goes rows.ResFirst s else behind_resistors s (key_of word) word

abbrev pub takes_res_first : State → Lexeme → Result End Code → Turn State
takes_res_first s word (Err code) = refuse code word
takes_res_first s word (Ok end) = goes rows.ResSecond (record s { first = end })

unfoldable pub res_first_row : State → Lexeme → Turn State
res_first_row s word = takes_res_first s word (end_read s.map word)

abbrev pub takes_res_second : State → Lexeme → Result End Code → Turn State
takes_res_second s word (Err code) = refuse code word
takes_res_second s word (Ok end) = goes rows.ResValue (record s { second = Some end })

unfoldable pub res_second_row : State → Lexeme → Turn State
res_second_row s word = takes_res_second s word (end_read s.map word)

-- the second end of a resistor
abbrev pub end_or_none : Option End → End
end_or_none (Some end) = end
end_or_none None = no_end

abbrev pub takes_res_value : State → Lexeme → Option Fixed → Turn State
takes_res_value s word None = refuse E05 word
takes_res_value s word (Some value) =
    done rows.Resistors (record s { net = record s.net { res = s.net.res ++ record { a = s.first; b = end_or_none s.second; value = value } ∷ [] }; first = no_end; second = None })

unfoldable pub res_value_row : State → Lexeme → Turn State
res_value_row s word = takes_res_value s word (value_read s.header.res_scale word)
