-- What the rows of the header, of the map of names and of the ports do with a token that says what is due.
use Rattle.std.proofs.Common.{◌≡◌, ◌∙◌, ℕ, true, false, List, [], ◌∷◌, ◌++◌, length, refl, sym, Some}
use Rattle.std.specs.Prelude.{◌==◌, slice_index}
use Rattle.std.specs.List.{list_any}
use Rattle.std.specs.Str.{bytes_eq}
use Rattle.rc_keys.specs.declared.token.Kind.TheVariants as kinds
use Rattle.rc_keys.specs.Lexemes.{Lexeme}
use Rattle.rc_keys.specs.Course.{More, Done}
use Rattle.rc_keys.specs.Statements.{at_line}
use Rattle.rc_spef.specs.declared.value.Dir3.{Dir3}
use Rattle.rc_spef.specs.declared.state.Header.{Header}
use Rattle.rc_spef.specs.declared.state.Scale.{Scale}
use Rattle.rc_spef.specs.declared.state.Scale.TheVariants as scales
use Rattle.rc_spef.specs.declared.state.Row.{Row}
use Rattle.rc_spef.specs.declared.state.Row.TheVariants as rows
use Rattle.rc_spef.specs.declared.key.Key.{Key}
use Rattle.rc_spef.specs.declared.key.Key.TheVariants as keys
use Rattle.rc_spef.specs.Keys.{key_of, is_quoted}
use Rattle.rc_spef.specs.References.{is_in_map}
use Rattle.rc_spef.specs.Moves.{value_read, name_read}
use Rattle.rc_spef.specs.HeaderRows.{begin_row, version_row, header_row, header_word, header_ends, behind_header, behind_names, nets_row, design_row, quoted_row, flow_row, flows_row, divider_row, delimiter_row, bus_left_row, bus_right_row, number_row, other_unit_row, cap_unit_row, res_unit_row, is_complete}
use Rattle.rc_spef.specs.NameRows.{names_row, entry_row, name_row, ports_row, port_direction_row, port_tail_row}
use Rattle.rc_spef.specs.Rows.{spef_turn}
use Rattle.rc_spef.specs.HeaderLines.{cap_word, res_word}
use Rattle.rc_spef.specs.Parts.{Says, AnyWord, Quoted, AnyQuoted, Byte, TwoBytes, One, Entry, Name, Reference, Direction}
use Rattle.rc_spef.proofs.Walks.{Known, Left, at, HeaderRow, BeforePorts, PortRow, BeforeNet}
use Rattle.rc_spef.proofs.Walks.HeaderRow.{at_header, at_flows}
use Rattle.rc_spef.proofs.Walks.BeforePorts.{no_names, at_names}
use Rattle.rc_spef.proofs.Walks.PortRow.{first_port, behind_port}
use Rattle.rc_spef.proofs.Walks.BeforeNet.{no_ports, some_ports, at_nets}
use Rattle.rc_spef.proofs.NetTokens.{keyed}
use Rattle.rc_spef.proofs.Starts.{no_entry, reference_key, word_key}

pub quoted_key : (word : Lexeme) → word.kind ≡ kinds.Quoted → key_of word ≡ keys.Quoted
unfolding key_of
quoted_key word is = rw is refl

-- ---- the first line

pub spef_word : (k : Known) (z : Left) (line : ℕ) (word : Lexeme) → key_of word ≡ keys.Spef → spef_turn (at rows.Begin k z) (at_line line word) ≡ More (at rows.Version k z)
unfolding spef_turn begin_row
spef_word k z line word is = rw (keyed line word, is) refl

pub version_word : (k : Known) (z : Left) (line : ℕ) (word : Lexeme) → Says AnyQuoted word → spef_turn (at rows.Version k z) (at_line line word) ≡ Done (at rows.Header k z)
unfolding spef_turn version_row
version_word k z line word is = rw (keyed line word, quoted_key word is) refl

-- ---- words of the header

abbrev pub with_header : Known → Header → Known
with_header k h = record k { header = h }

-- the row behind a word of the header
abbrev pub value_row : Key → Row
value_row keys.Design = rows.Design
value_row keys.DesignFlow = rows.Flow
value_row keys.Divider = rows.Divider
value_row keys.Delimiter = rows.Delimiter
value_row keys.BusDelimiter = rows.BusLeft
value_row keys.TimeUnit = rows.OtherNumber
value_row keys.InductUnit = rows.OtherNumber
value_row keys.CapUnit = rows.CapNumber
value_row keys.ResUnit = rows.ResNumber
value_row _ = rows.Quoted

pub data HeaderKey : Key → Type 0 where
  design : HeaderKey keys.Design
  date : HeaderKey keys.Date
  vendor : HeaderKey keys.Vendor
  program : HeaderKey keys.Program
  version : HeaderKey keys.Version
  flow : HeaderKey keys.DesignFlow
  divider : HeaderKey keys.Divider
  delimiter : HeaderKey keys.Delimiter
  bus : HeaderKey keys.BusDelimiter
  time : HeaderKey keys.TimeUnit
  induct : HeaderKey keys.InductUnit
  farad : HeaderKey keys.CapUnit
  ohm : HeaderKey keys.ResUnit

-- the header with one word more
abbrev pub noted : Header → List ℕ → Header
noted h bytes = record h { seen = h.seen ++ bytes ∷ [] }

header_key : (s : Known) (z : Left) (row : Row) → HeaderRow row → (line : ℕ) (word : Lexeme) (key : Key) → HeaderKey key → key_of word ≡ key →
    spef_turn (at row s z) (at_line line word) ≡ header_word (value_row key) (at row s z) (at_line line word)
unfolding spef_turn header_row flows_row
header_key s z row at_header line word key design is = rw (keyed line word, is) refl
header_key s z row at_header line word key date is = rw (keyed line word, is) refl
header_key s z row at_header line word key vendor is = rw (keyed line word, is) refl
header_key s z row at_header line word key program is = rw (keyed line word, is) refl
header_key s z row at_header line word key version is = rw (keyed line word, is) refl
header_key s z row at_header line word key flow is = rw (keyed line word, is) refl
header_key s z row at_header line word key divider is = rw (keyed line word, is) refl
header_key s z row at_header line word key delimiter is = rw (keyed line word, is) refl
header_key s z row at_header line word key bus is = rw (keyed line word, is) refl
header_key s z row at_header line word key time is = rw (keyed line word, is) refl
header_key s z row at_header line word key induct is = rw (keyed line word, is) refl
header_key s z row at_header line word key farad is = rw (keyed line word, is) refl
header_key s z row at_header line word key ohm is = rw (keyed line word, is) refl
header_key s z row at_flows line word key design is = rw (keyed line word, is) refl
header_key s z row at_flows line word key date is = rw (keyed line word, is) refl
header_key s z row at_flows line word key vendor is = rw (keyed line word, is) refl
header_key s z row at_flows line word key program is = rw (keyed line word, is) refl
header_key s z row at_flows line word key version is = rw (keyed line word, is) refl
header_key s z row at_flows line word key flow is = rw (keyed line word, is) refl
header_key s z row at_flows line word key divider is = rw (keyed line word, is) refl
header_key s z row at_flows line word key delimiter is = rw (keyed line word, is) refl
header_key s z row at_flows line word key bus is = rw (keyed line word, is) refl
header_key s z row at_flows line word key time is = rw (keyed line word, is) refl
header_key s z row at_flows line word key induct is = rw (keyed line word, is) refl
header_key s z row at_flows line word key farad is = rw (keyed line word, is) refl
header_key s z row at_flows line word key ohm is = rw (keyed line word, is) refl

noted_word : (row next : Row) (k : Known) (z : Left) (line : ℕ) (word : Lexeme) → list_any (bytes_eq word.bytes) k.header.seen ≡ false →
    header_word next (at row k z) (at_line line word) ≡ More (at next (with_header k (noted k.header word.bytes)) z)
unfolding header_word
noted_word row next k z line word new = rw new refl

pub header_begins : (k : Known) (z : Left) (row : Row) → HeaderRow row → (line : ℕ) (word : Lexeme) (key : Key) → HeaderKey key → key_of word ≡ key → list_any (bytes_eq word.bytes) k.header.seen ≡ false →
    spef_turn (at row k z) (at_line line word) ≡ More (at (value_row key) (with_header k (noted k.header word.bytes)) z)
header_begins k z row may line word key one is new = header_key k z row may line word key one is ∙ noted_word row (value_row key) k z line word new

pub design_word : (k : Known) (z : Left) (line : ℕ) (word : Lexeme) (name : List ℕ) → Says (Quoted name) word → spef_turn (at rows.Design k z) (at_line line word) ≡ Done (at rows.Header (with_header k (record k.header { design = Some name })) z)
unfolding spef_turn design_row
design_word k z line word name is = rw (keyed line word, quoted_key word is.0, is.1) refl

pub remark_word : (k : Known) (z : Left) (line : ℕ) (word : Lexeme) → Says AnyQuoted word → spef_turn (at rows.Quoted k z) (at_line line word) ≡ Done (at rows.Header k z)
unfolding spef_turn quoted_row
remark_word k z line word is = rw (keyed line word, quoted_key word is) refl

pub flow_first : (k : Known) (z : Left) (line : ℕ) (word : Lexeme) → Says AnyQuoted word → spef_turn (at rows.Flow k z) (at_line line word) ≡ Done (at rows.Flows k z)
unfolding spef_turn flow_row
flow_first k z line word is = rw (keyed line word, quoted_key word is) refl

pub flow_more : (k : Known) (z : Left) (line : ℕ) (word : Lexeme) → Says AnyQuoted word → spef_turn (at rows.Flows k z) (at_line line word) ≡ Done (at rows.Flows k z)
unfolding spef_turn flows_row
flow_more k z line word is = rw (keyed line word, quoted_key word is) refl

one_byte : (byte : ℕ) (bytes : List ℕ) → bytes ≡ byte ∷ [] → ((length bytes == 1) ≡ true) × (slice_index bytes 0 ≡ byte) × ((length bytes == 2) ≡ false)
one_byte byte bytes is = rw is (refl, refl, refl)

two_bytes : (first second : ℕ) (bytes : List ℕ) → bytes ≡ first ∷ second ∷ [] → ((length bytes == 2) ≡ true) × (slice_index bytes 0 ≡ first) × (slice_index bytes 1 ≡ second)
two_bytes first second bytes is = rw is (refl, refl, refl)

pub divider_word : (k : Known) (z : Left) (line : ℕ) (word : Lexeme) (byte : ℕ) → Says (Byte byte) word → spef_turn (at rows.Divider k z) (at_line line word) ≡ Done (at rows.Header (with_header k (record k.header { divider = byte })) z)
unfolding spef_turn divider_row
divider_word k z line word byte is = let b = one_byte byte word.bytes is.1 in rw (keyed line word, word_key word is.0, b.0, b.1) refl

pub delimiter_word : (k : Known) (z : Left) (line : ℕ) (word : Lexeme) → key_of word ≡ keys.Colon → spef_turn (at rows.Delimiter k z) (at_line line word) ≡ Done (at rows.Header k z)
unfolding spef_turn delimiter_row
delimiter_word k z line word is = rw (keyed line word, is) refl

pub bus_joined : (k : Known) (z : Left) (line : ℕ) (word : Lexeme) (left right : ℕ) → Says (TwoBytes left right) word →
    spef_turn (at rows.BusLeft k z) (at_line line word) ≡ Done (at rows.Header (with_header k (record k.header { bus_left = left; bus_right = right })) z)
unfolding spef_turn bus_left_row
bus_joined k z line word left right is = let b = two_bytes left right word.bytes is.1 in rw (keyed line word, word_key word is.0, b.0, b.1, b.2) refl

pub bus_left : (k : Known) (z : Left) (line : ℕ) (word : Lexeme) (left : ℕ) → Says (Byte left) word → spef_turn (at rows.BusLeft k z) (at_line line word) ≡ More (at rows.BusRight (with_header k (record k.header { bus_left = left })) z)
unfolding spef_turn bus_left_row
bus_left k z line word left is = let b = one_byte left word.bytes is.1 in rw (keyed line word, word_key word is.0, b.2, b.0, b.1) refl

pub bus_right : (k : Known) (z : Left) (line : ℕ) (word : Lexeme) (right : ℕ) → Says (Byte right) word → spef_turn (at rows.BusRight k z) (at_line line word) ≡ Done (at rows.Header (with_header k (record k.header { bus_right = right })) z)
unfolding spef_turn bus_right_row
bus_right k z line word right is = let b = one_byte right word.bytes is.1 in rw (keyed line word, word_key word is.0, b.0, b.1) refl

-- ---- units

pub other_number : (k : Known) (z : Left) (line : ℕ) (word : Lexeme) → Says One word → spef_turn (at rows.OtherNumber k z) (at_line line word) ≡ More (at rows.OtherUnit k z)
unfolding spef_turn number_row value_read
other_number k z line word is = rw (is.0, is.1) refl

pub cap_unit_number : (k : Known) (z : Left) (line : ℕ) (word : Lexeme) → Says One word → spef_turn (at rows.CapNumber k z) (at_line line word) ≡ More (at rows.CapUnit k z)
unfolding spef_turn number_row value_read
cap_unit_number k z line word is = rw (is.0, is.1) refl

pub res_unit_number : (k : Known) (z : Left) (line : ℕ) (word : Lexeme) → Says One word → spef_turn (at rows.ResNumber k z) (at_line line word) ≡ More (at rows.ResUnit k z)
unfolding spef_turn number_row value_read
res_unit_number k z line word is = rw (is.0, is.1) refl

-- a key that is no quoted token's
other_unit_key : (k : Known) (z : Left) (word : Lexeme) (key : Key) → is_quoted key ≡ false → other_unit_row (at rows.OtherUnit k z) key word ≡ Done (at rows.Header k z)
unfolding other_unit_row
other_unit_key k z word keys.Quoted is = absurd cc
other_unit_key k z word _ is = refl

pub other_unit : (k : Known) (z : Left) (line : ℕ) (word : Lexeme) → Says AnyWord word → spef_turn (at rows.OtherUnit k z) (at_line line word) ≡ Done (at rows.Header k z)
unfolding spef_turn
other_unit k z line word is = other_unit_key k z (at_line line word) (key_of (at_line line word)) (rw (keyed line word) (word_key word is))

pub cap_unit : (k : Known) (z : Left) (line : ℕ) (word : Lexeme) (scale : Scale) → key_of word ≡ cap_word scale → spef_turn (at rows.CapUnit k z) (at_line line word) ≡ Done (at rows.Header (with_header k (record k.header { cap_scale = Some scale })) z)
unfolding spef_turn cap_unit_row
cap_unit k z line word scales.One is = rw (keyed line word, is) refl
cap_unit k z line word scales.Thousand is = rw (keyed line word, is) refl

pub res_unit : (k : Known) (z : Left) (line : ℕ) (word : Lexeme) (scale : Scale) → key_of word ≡ res_word scale → spef_turn (at rows.ResUnit k z) (at_line line word) ≡ Done (at rows.Header (with_header k (record k.header { res_scale = Some scale })) z)
unfolding spef_turn res_unit_row
res_unit k z line word scales.One is = rw (keyed line word, is) refl
res_unit k z line word scales.Thousand is = rw (keyed line word, is) refl

-- ---- the map of names

pub names_keyword : (k : Known) (z : Left) (row : Row) → HeaderRow row → (line : ℕ) (word : Lexeme) → is_complete k.header ≡ true → key_of word ≡ keys.NameMap → spef_turn (at row k z) (at_line line word) ≡ Done (at rows.Names k z)
unfolding spef_turn header_row flows_row header_ends behind_header
names_keyword k z row at_header line word whole is = rw (keyed line word, is, whole) refl
names_keyword k z row at_flows line word whole is = rw (keyed line word, is, whole) refl

pub name_entry : (k : Known) (z : Left) (line : ℕ) (word : Lexeme) (number : ℕ) → Says (Entry number) word → is_in_map k.map number ≡ false →
    spef_turn (at rows.Names k z) (at_line line word) ≡ More (at rows.Name (record k { map = k.map ++ number ∷ [] }) z)
unfolding spef_turn names_row entry_row
name_entry k z line word number is new = rw (keyed line word, word_key word is.0, is.1, is.2, new) refl

pub name_word : (k : Known) (z : Left) (line : ℕ) (word : Lexeme) (name : List ℕ) → Says (Name name) word →
    spef_turn (at rows.Name k z) (at_line line word) ≡ Done (at rows.Names (record k { names = k.names ++ name ∷ [] }) z)
unfolding spef_turn name_row
name_word k z line word name is = rw (keyed line word, word_key word is.0, is.1, is.2) refl

-- ---- ports

pub ports_keyword : (k : Known) (z : Left) (row : Row) → BeforePorts row → (line : ℕ) (word : Lexeme) → is_complete k.header ≡ true → word.kind ≡ kinds.Word → key_of word ≡ keys.Ports → spef_turn (at row k z) (at_line line word) ≡ Done (at rows.Ports k z)
unfolding spef_turn header_row flows_row header_ends behind_header behind_names names_row
ports_keyword k z row (no_names r at_header) line word whole kind is = rw (keyed line word, is, whole) refl
ports_keyword k z row (no_names r at_flows) line word whole kind is = rw (keyed line word, is, whole) refl
ports_keyword k z row at_names line word whole kind is = rw (keyed line word, no_entry word kind (λ e. absurd (let no : keys.Ports ≡ keys.Other = sym is ∙ e in cc)), is) refl

pub port_name : (k : Known) (z : Left) (row : Row) → PortRow row → (line : ℕ) (word : Lexeme) (name : ℕ) → Says (Reference k.map name) word →
    spef_turn (at row k z) (at_line line word) ≡ More (at rows.PortDirection k (record z { name = name; line = line }))
unfolding spef_turn ports_row port_tail_row name_read
port_name k z row first_port line word name is = rw (keyed line word, reference_key k.map word name is.0 is.1, is.0, is.1) refl
port_name k z row behind_port line word name is = rw (keyed line word, reference_key k.map word name is.0 is.1, is.0, is.1) refl

pub port_direction : (k : Known) (z : Left) (line : ℕ) (word : Lexeme) (dir : Dir3) → Says (Direction dir) word →
    spef_turn (at rows.PortDirection k z) (at_line line word) ≡ Done (at rows.PortTail (record k { ports = k.ports ++ record { name = z.name; dir = dir } ∷ [] }) z)
unfolding spef_turn port_direction_row
port_direction k z line word dir is = rw (keyed line word, is) refl

-- ---- nets

pub net_keyword : (k : Known) (z : Left) (row : Row) → BeforeNet row → (line : ℕ) (word : Lexeme) → is_complete k.header ≡ true → word.kind ≡ kinds.Word → key_of word ≡ keys.DNet →
    spef_turn (at row k z) (at_line line word) ≡ More (at rows.NetName k (record z { line = line }))
unfolding spef_turn header_row flows_row header_ends behind_header behind_names names_row nets_row ports_row port_tail_row
net_keyword k z row (no_ports r (no_names q at_header)) line word whole kind is = rw (keyed line word, is, whole) refl
net_keyword k z row (no_ports r (no_names q at_flows)) line word whole kind is = rw (keyed line word, is, whole) refl
net_keyword k z row (no_ports r at_names) line word whole kind is = rw (keyed line word, no_entry word kind (λ e. absurd (let no : keys.DNet ≡ keys.Other = sym is ∙ e in cc)), is) refl
net_keyword k z row (some_ports r first_port) line word whole kind is = rw (keyed line word, is) refl
net_keyword k z row (some_ports r behind_port) line word whole kind is = rw (keyed line word, is) refl
net_keyword k z row at_nets line word whole kind is = rw (keyed line word, is) refl
