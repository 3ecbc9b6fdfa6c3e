-- The rows of a SPEF header: what a token does in each place.
use Rattle.std.specs.Prelude.{◌++◌, ◌==◌, ◌&&◌, ◌^◌, ℕ, Bool, true, false, not, Option, Some, None, is_some, [], ◌∷◌, length, slice_index, if◌then◌else◌}
use Rattle.std.specs.List.{list_any}
use Rattle.std.specs.Str.{bytes_eq}
use Rattle.rc_fixed.specs.declared.decimal.Fixed.{Fixed}
use Rattle.rc_keys.specs.declared.code.Code.TheVariants.{E03, E04, E07, E16}
use Rattle.rc_keys.specs.Lexemes.{Lexeme}
use Rattle.rc_keys.specs.Course.{Turn, Done, refuse}
use Rattle.rc_spef.specs.declared.state.Header.{Header}
use Rattle.rc_spef.specs.declared.state.State.{State}
use Rattle.rc_spef.specs.declared.state.Scale.TheVariants as scales
use Rattle.rc_spef.specs.declared.state.Row.{Row}
use Rattle.rc_spef.specs.declared.state.Row.TheVariants as rows
use Rattle.rc_spef.specs.declared.key.Key.{Key}
use Rattle.rc_spef.specs.declared.key.Key.TheVariants as keys
use Rattle.rc_spef.specs.Keys.{is_quoted, unexpected}
use Rattle.rc_spef.specs.Moves.{goes, done, value_read}

-- *SPEF "version"
unfoldable pub begin_row : State → Key → Lexeme → Turn State
begin_row s keys.Spef word = goes rows.Version s
begin_row s _ word = refuse E03 word

unfoldable pub version_row : State → Key → Lexeme → Turn State
version_row s keys.Quoted word = done rows.Header s
version_row s _ word = refuse E03 word

-- ---- behind the header

abbrev pub is_complete : Header → Bool
is_complete header = is_some header.design && (is_some header.cap_scale && is_some header.res_scale)

-- a net begins: its statement's line is kept for what may follow it
abbrev pub net_begins : State → Lexeme → Turn State
net_begins s word = goes rows.NetName (record s { line = word.line })

unfoldable pub nets_row : State → Key → Lexeme → Turn State
nets_row s keys.DNet word = net_begins s word
nets_row s key word = refuse (unexpected key word) word

unfoldable pub behind_names : State → Key → Lexeme → Turn State
behind_names s keys.Ports word = done rows.Ports s
behind_names s key word = nets_row s key word

unfoldable pub behind_header : State → Key → Lexeme → Turn State
behind_header s keys.NameMap word = done rows.Names s
behind_header s key word = behind_names s key word

-- what may stand behind a header
abbrev pub is_part : Key → Bool
is_part keys.NameMap = true
is_part keys.Ports = true
is_part keys.DNet = true
is_part _ = false

-- a header that lacks a required word is refused at the statement behind it
unfoldable pub header_ends : State → Key → Lexeme → Turn State
header_ends s key word = if is_part key && not (is_complete s.header) then refuse E16 word else behind_header s key word

-- ---- words of the header

-- a word of the header, which stands once
unfoldable pub header_word : Row → State → Lexeme → Turn State
header_word row s word =
    if list_any (bytes_eq word.bytes) s.header.seen then refuse E07 word
    else goes row (record s { header = record s.header { seen = s.header.seen ++ word.bytes ∷ [] } })

unfoldable pub header_row : State → Key → Lexeme → Turn State
header_row s keys.Design word = header_word rows.Design s word
header_row s keys.Date word = header_word rows.Quoted s word
header_row s keys.Vendor word = header_word rows.Quoted s word
header_row s keys.Program word = header_word rows.Quoted s word
header_row s keys.Version word = header_word rows.Quoted s word
header_row s keys.DesignFlow word = header_word rows.Flow s word
header_row s keys.Divider word = header_word rows.Divider s word
header_row s keys.Delimiter word = header_word rows.Delimiter s word
header_row s keys.BusDelimiter word = header_word rows.BusLeft s word
header_row s keys.TimeUnit word = header_word rows.OtherNumber s word
header_row s keys.InductUnit word = header_word rows.OtherNumber s word
header_row s keys.CapUnit word = header_word rows.CapNumber s word
header_row s keys.ResUnit word = header_word rows.ResNumber s word
header_row s key word = header_ends s key word

-- *DESIGN "name"
unfoldable pub design_row : State → Key → Lexeme → Turn State
design_row s keys.Quoted word = done rows.Header (record s { header = record s.header { design = Some word.bytes } })
design_row s _ word = refuse E03 word

-- *DATE, *VENDOR, *PROGRAM, *VERSION "text"
unfoldable pub quoted_row : State → Key → Lexeme → Turn State
quoted_row s keys.Quoted word = done rows.Header s
quoted_row s _ word = refuse E03 word

-- *DESIGN_FLOW "text" ..
unfoldable pub flow_row : State → Key → Lexeme → Turn State
flow_row s keys.Quoted word = done rows.Flows s
flow_row s _ word = refuse E03 word

unfoldable pub flows_row : State → Key → Lexeme → Turn State
flows_row s keys.Quoted word = Done s
flows_row s key word = header_row s key word

-- a word of so many bytes
abbrev pub has_bytes : ℕ → Key → Lexeme → Bool
has_bytes count key word = not (is_quoted key) && (length word.bytes == count)

abbrev pub first_byte : Lexeme → ℕ
first_byte word = slice_index word.bytes 0

-- *DIVIDER c
unfoldable pub divider_row : State → Key → Lexeme → Turn State
divider_row s key word =
    if has_bytes 1 key word then done rows.Header (record s { header = record s.header { divider = first_byte word } }) else refuse E03 word

-- *DELIMITER :
unfoldable pub delimiter_row : State → Key → Lexeme → Turn State
delimiter_row s keys.Colon word = done rows.Header s
delimiter_row s _ word = refuse E04 word

-- *BUS_DELIMITER lr, or l r
unfoldable pub bus_left_row : State → Key → Lexeme → Turn State
bus_left_row s key word =
    if has_bytes 2 key word then done rows.Header (record s { header = record s.header { bus_left = first_byte word; bus_right = slice_index word.bytes 1 } })
    else if has_bytes 1 key word then goes rows.BusRight (record s { header = record s.header { bus_left = first_byte word } })
    else refuse E03 word

unfoldable pub bus_right_row : State → Key → Lexeme → Turn State
bus_right_row s key word =
    if has_bytes 1 key word then done rows.Header (record s { header = record s.header { bus_right = first_byte word } }) else refuse E03 word

-- ---- units

-- a number of value 1
abbrev pub is_one : Option Fixed → Bool
is_one None = false
is_one (Some value) = value.0 == 10 ^ 15

unfoldable pub number_row : Row → State → Lexeme → Turn State
number_row row s word = if is_one (value_read None word) then goes row s else refuse E04 word

-- *T_UNIT, *L_UNIT 1 word
unfoldable pub other_unit_row : State → Key → Lexeme → Turn State
other_unit_row s keys.Quoted word = refuse E04 word
other_unit_row s _ word = done rows.Header s

-- *C_UNIT 1 FF or PF
unfoldable pub cap_unit_row : State → Key → Lexeme → Turn State
cap_unit_row s keys.FemtoFarad word = done rows.Header (record s { header = record s.header { cap_scale = Some scales.One } })
cap_unit_row s keys.PicoFarad word = done rows.Header (record s { header = record s.header { cap_scale = Some scales.Thousand } })
cap_unit_row s _ word = refuse E04 word

-- *R_UNIT 1 OHM or KOHM
unfoldable pub res_unit_row : State → Key → Lexeme → Turn State
res_unit_row s keys.Ohm word = done rows.Header (record s { header = record s.header { res_scale = Some scales.One } })
res_unit_row s keys.KiloOhm word = done rows.Header (record s { header = record s.header { res_scale = Some scales.Thousand } })
res_unit_row s _ word = refuse E04 word
