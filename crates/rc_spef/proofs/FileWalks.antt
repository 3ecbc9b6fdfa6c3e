-- The rows take the header, the map of names, and nets.
use Rattle.std.proofs.Common.{◌≡◌, ℕ, true, false, List, [], ◌∷◌, ◌++◌, refl, inl, inr, Some}
use Rattle.std.specs.List.{list_any, AllByRecursion}
use Rattle.std.specs.Str.{bytes_eq}
use Rattle.rc_keys.specs.Lexemes.{Lexeme}
use Rattle.rc_keys.specs.Statements.{IsStatement}
use Rattle.rc_keys.proofs.Phrasing.{Step}
use Rattle.rc_spef.specs.declared.value.DNet.{DNet}
use Rattle.rc_spef.specs.declared.state.Header.{Header}
use Rattle.rc_spef.specs.declared.state.Scale.{Scale}
use Rattle.rc_spef.specs.declared.state.State.{State}
use Rattle.rc_spef.specs.declared.state.Row.{Row}
use Rattle.rc_spef.specs.declared.state.Row.TheVariants as rows
use Rattle.rc_spef.specs.declared.key.Key.{Key}
use Rattle.rc_spef.specs.declared.key.Key.TheVariants as keys
use Rattle.rc_spef.specs.Keys.{key_of}
use Rattle.rc_spef.specs.Moves.{no_net}
use Rattle.rc_spef.specs.HeaderRows.{is_complete}
use Rattle.rc_spef.specs.Rows.{spef_turn}
use Rattle.rc_spef.specs.Parts.{Says, Word, AnyWord, Quoted, AnyQuoted, Byte, TwoBytes, One, Value, Entry, Name, Reference, Are}
use Rattle.rc_spef.specs.HeaderLines.{HeaderSays, HeaderLine, is_remark, is_other_unit, cap_word, res_word}
use Rattle.rc_spef.specs.HeaderLines.HeaderSays.{Design, Remark, Flow, Divider, Delimiter, BusJoined, BusApart, OtherUnit, CapUnit, ResUnit}
use Rattle.rc_spef.specs.NetLines.{Names, NameLine, ConnLine, CapLine, ResLine, NetBlock, NetLine, Confidence}
use Rattle.rc_spef.proofs.Starts.{keyword_word}
use Rattle.rc_spef.proofs.Walks.{Known, Left, at, Walks, Leads, Is, HeaderRow, BeforeNet, BeforeConns, ConnRow, BeforeCaps, BeforeResistors, BeforeEnd, nothing, one, then}
use Rattle.rc_spef.proofs.Walks.HeaderRow.{at_header, at_flows}
use Rattle.rc_spef.proofs.Walks.BeforeConns.{at_total, at_sections}
use Rattle.rc_spef.proofs.Walks.ConnRow.{first_conn}
use Rattle.rc_spef.proofs.Walks.BeforeCaps.{no_conns, some_conns}
use Rattle.rc_spef.proofs.Walks.BeforeResistors.{no_caps, at_caps}
use Rattle.rc_spef.proofs.Walks.BeforeEnd.{no_resistors, at_resistors}
use Rattle.rc_spef.proofs.Walks.BeforeNet.{at_nets}
use Rattle.rc_spef.proofs.NetTokens.{with_conns, with_caps, with_resistors, conns_keyword, caps_keyword, res_keyword, end_keyword, ended, net_name, net_total, confidence_word}
use Rattle.rc_spef.proofs.TailTokens.{confidence_value}
use Rattle.rc_spef.proofs.HeadTokens.{HeaderKey, with_header, noted, value_row, header_begins, design_word, remark_word, flow_first, flow_more, divider_word, delimiter_word, bus_joined, bus_left, bus_right, other_number, cap_unit_number, res_unit_number, other_unit, cap_unit, res_unit, name_entry, name_word, net_keyword}
use Rattle.rc_spef.proofs.HeadTokens.HeaderKey.{design, date, vendor, program, version, flow, divider, delimiter, bus, time, induct, farad, ohm}
use Rattle.rc_spef.proofs.LineWalks.{Each, taken, one_part, two_parts, three_parts, section_walk, caps_each, resistors_each, scaled_cap, scaled_res}
use Rattle.rc_spef.proofs.ConnWalks.{conn_each}

-- ---- the header

-- a word of the header and what stands behind it are one statement
begins : (k : Known) (z : Left) (row : Row) → HeaderRow row → (first : Lexeme) (key : Key) → HeaderKey key → key_of first ≡ key → list_any (bytes_eq first.bytes) k.header.seen ≡ false → (a : Lexeme) (rest : List Lexeme) (t : State) →
    IsStatement spef_turn first.line (at (value_row key) (with_header k (noted k.header first.bytes)) z) (a ∷ rest) t → Step spef_turn (at row k z) (first ∷ a ∷ rest) t
begins k z row may first key kind is new a rest t more = (at (value_row key) (with_header k (noted k.header first.bytes)) z, header_begins k z row may first.line first key kind is new, more)

remark_key : (key : Key) → is_remark key ≡ true → HeaderKey key × (value_row key ≡ rows.Quoted)
remark_key keys.Date is = (date, refl)
remark_key keys.Vendor is = (vendor, refl)
remark_key keys.Program is = (program, refl)
remark_key keys.Version is = (version, refl)
remark_key _ is = absurd cc

other_unit_key : (key : Key) → is_other_unit key ≡ true → HeaderKey key × (value_row key ≡ rows.OtherNumber)
other_unit_key keys.TimeUnit is = (time, refl)
other_unit_key keys.InductUnit is = (induct, refl)
other_unit_key _ is = absurd cc

-- further quoted tokens of a design flow, each by itself
flows_walk : (k : Known) (z : Left) (words : List Lexeme) → AllByRecursion (Says AnyQuoted) words → Walks (at rows.Flows k z) words (at rows.Flows k z)
flows_walk k z [] all = nothing (at rows.Flows k z)
flows_walk k z (word ∷ words) all =
    then (at rows.Flows k z) (at rows.Flows k z) (at rows.Flows k z) (word ∷ []) words (one (at rows.Flows k z) (at rows.Flows k z) (word ∷ []) (flow_more k z word.line word all.0)) (flows_walk k z words all.1)

-- a statement of the header that ends where another may begin
abbrev Ended : Known → Left → Row → Lexeme → List Lexeme → Header → Type 0
Ended k z row first rest after = Leads (at row k z) (first ∷ rest) HeaderRow (with_header k after)

ends : (k : Known) (z : Left) (row : Row) (first : Lexeme) (rest others : List Lexeme) (after told : Header) → rest ≡ others → told ≡ after → Step spef_turn (at row k z) (first ∷ others) (at rows.Header (with_header k after) z) → Ended k z row first rest told
ends k z row first rest others after told is same step = rw (is, same) (rows.Header, z, at_header, one (at row k z) (at rows.Header (with_header k after) z) (first ∷ others) step)

says_walk : (k : Known) (z : Left) (row : Row) → HeaderRow row → (first : Lexeme) (rest : List Lexeme) (after : Header) → list_any (bytes_eq first.bytes) k.header.seen ≡ false →
    HeaderSays (key_of first) (noted k.header first.bytes) rest after → Ended k z row first rest after
says_walk k z row may first rest after new (Design name is are same) =
    let t = one_part (Quoted name) rest are in
    let now : Known = with_header k (noted k.header first.bytes) in
    ends k z row first rest (t.0 ∷ []) (record now.header { design = Some name }) after t.1 same
    (begins k z row may first keys.Design design is new t.0 [] (at rows.Header (with_header now (record now.header { design = Some name })) z) (design_word now z first.line t.0 name t.2))
says_walk k z row may first rest after new (Remark is are same) =
    let t = one_part AnyQuoted rest are in
    let now : Known = with_header k (noted k.header first.bytes) in
    let kind = remark_key (key_of first) is in
    ends k z row first rest (t.0 ∷ []) now.header after t.1 same
    (begins k z row may first (key_of first) kind.0 refl new t.0 [] (at rows.Header now z) (rw kind.1 (remark_word now z first.line t.0 t.2)))
says_walk k z row may first rest after new (Flow word others is parts quoted same) =
    let now : Known = with_header k (noted k.header first.bytes) in
    let head : Walks (at row k z) (first ∷ word ∷ []) (at rows.Flows now z) =
    one (at row k z) (at rows.Flows now z) (first ∷ word ∷ []) (begins k z row may first keys.DesignFlow flow is new word [] (at rows.Flows now z) (flow_first now z first.line word quoted.0)) in
    rw (parts, same) (rows.Flows, z, at_flows, then (at row k z) (at rows.Flows now z) (at rows.Flows now z) (first ∷ word ∷ []) others head (flows_walk now z others quoted.1))
says_walk k z row may first rest after new (Divider byte is are same) =
    let t = one_part (Byte byte) rest are in
    let now : Known = with_header k (noted k.header first.bytes) in
    ends k z row first rest (t.0 ∷ []) (record now.header { divider = byte }) after t.1 same
    (begins k z row may first keys.Divider divider is new t.0 [] (at rows.Header (with_header now (record now.header { divider = byte })) z) (divider_word now z first.line t.0 byte t.2))
says_walk k z row may first rest after new (Delimiter is are same) =
    let t = one_part (Word keys.Colon) rest are in
    let now : Known = with_header k (noted k.header first.bytes) in
    ends k z row first rest (t.0 ∷ []) now.header after t.1 same (begins k z row may first keys.Delimiter delimiter is new t.0 [] (at rows.Header now z) (delimiter_word now z first.line t.0 t.2))
says_walk k z row may first rest after new (BusJoined left right is are same) =
    let t = one_part (TwoBytes left right) rest are in
    let now : Known = with_header k (noted k.header first.bytes) in
    ends k z row first rest (t.0 ∷ []) (record now.header { bus_left = left; bus_right = right }) after t.1 same
    (begins k z row may first keys.BusDelimiter bus is new t.0 [] (at rows.Header (with_header now (record now.header { bus_left = left; bus_right = right })) z) (bus_joined now z first.line t.0 left right t.2))
says_walk k z row may first rest after new (BusApart left right is are same) =
    let t = two_parts (Byte left) (Byte right) rest are in
    let now : Known = with_header k (noted k.header first.bytes) in
    let mid : Known = with_header now (record now.header { bus_left = left }) in
    ends k z row first rest (t.0 ∷ t.1 ∷ []) (record now.header { bus_left = left; bus_right = right }) after t.2 same
    (begins k z row may first keys.BusDelimiter bus is new t.0 (t.1 ∷ []) (at rows.Header (with_header now (record now.header { bus_left = left; bus_right = right })) z)
    (at rows.BusRight mid z, bus_left now z first.line t.0 left t.3, bus_right mid z first.line t.1 right t.4))
says_walk k z row may first rest after new (OtherUnit is are same) =
    let t = two_parts One AnyWord rest are in
    let now : Known = with_header k (noted k.header first.bytes) in
    let kind = other_unit_key (key_of first) is in
    ends k z row first rest (t.0 ∷ t.1 ∷ []) now.header after t.2 same
    (begins k z row may first (key_of first) kind.0 refl new t.0 (t.1 ∷ []) (at rows.Header now z) (at rows.OtherUnit now z, rw kind.1 (other_number now z first.line t.0 t.3), other_unit now z first.line t.1 t.4))
says_walk k z row may first rest after new (CapUnit scale is are same) =
    let t = two_parts One (Word (cap_word scale)) rest are in
    let now : Known = with_header k (noted k.header first.bytes) in
    ends k z row first rest (t.0 ∷ t.1 ∷ []) (record now.header { cap_scale = Some scale }) after t.2 same
    (begins k z row may first keys.CapUnit farad is new t.0 (t.1 ∷ []) (at rows.Header (with_header now (record now.header { cap_scale = Some scale })) z) (at rows.CapUnit now z, cap_unit_number now z first.line t.0 t.3, cap_unit now z first.line t.1 scale t.4))
says_walk k z row may first rest after new (ResUnit scale is are same) =
    let t = two_parts One (Word (res_word scale)) rest are in
    let now : Known = with_header k (noted k.header first.bytes) in
    ends k z row first rest (t.0 ∷ t.1 ∷ []) (record now.header { res_scale = Some scale }) after t.2 same
    (begins k z row may first keys.ResUnit ohm is new t.0 (t.1 ∷ []) (at rows.Header (with_header now (record now.header { res_scale = Some scale })) z) (at rows.ResUnit now z, res_unit_number now z first.line t.0 t.3, res_unit now z first.line t.1 scale t.4))

pub header_each : (k : Known) → Each HeaderLine HeaderRow (with_header k)
header_each k row z before after words may line = rw line.parts (says_walk (with_header k before) z row may line.first line.rest after line.once line.says)

-- ---- the map of names

abbrev pub with_names : Known → Names → Known
with_names k names = record k { map = names.numbers; names = names.names }

pub name_each : (k : Known) → Each NameLine (Is rows.Names) (with_names k)
name_each k row z before after words is line =
    let t = two_parts (Entry line.number) (Name line.name) words line.are in
    let now : Known = with_names k before in
    let mid : Known = record now { map = before.numbers ++ line.number ∷ [] } in
    let done : Known = with_names k (record { numbers = before.numbers ++ line.number ∷ []; names = before.names ++ line.name ∷ [] }) in
    rw (is, line.then) (
      rows.Names,
      z,
      refl,
      taken (at rows.Names now z) (at rows.Names done z) words (t.0 ∷ t.1 ∷ []) t.2 (at rows.Name mid z, name_entry now z t.0.line t.0 line.number t.3 line.once, name_word mid z t.0.line t.1 line.name t.4),
    )

-- ---- nets

abbrev pub with_nets : Known → List DNet → Known
with_nets k nets = record k { nets = nets; net = no_net }

-- the net that is open
abbrev pub with_net : Known → DNet → Known
with_net k net = record k { net = net }

confidence_walk : (k : Known) (z : Left) (words : List Lexeme) → Confidence words → Leads (at rows.NetTail k z) words BeforeConns k
confidence_walk k z words (inl none) = (rows.NetTail, z, at_total, rw none (nothing (at rows.NetTail k z)))
confidence_walk k z words (inr are) =
    let t = two_parts (Word keys.Confidence) AnyWord words are in
    let left : Left = record z { back = rows.Sections } in
    (rows.Sections, left, at_sections, taken (at rows.NetTail k z) (at rows.Sections k left) words (t.0 ∷ t.1 ∷ []) t.2 (at rows.Confidence k left, confidence_word k z t.0.line t.0 t.3, confidence_value k left t.0.line t.1 t.4))

-- what a net's first line tells
abbrev opened : DNet → DNet
opened net = record no_net { name = net.name; total = net.total }

head_walk : (k : Known) (z : Left) (row : Row) → BeforeNet row → (cap_scale : Scale) (net : DNet) (words : List Lexeme) → is_complete k.header ≡ true → scaled_cap k cap_scale →
    Are (Word keys.DNet ∷ Reference k.map net.name ∷ Value cap_scale net.total ∷ []) words → (z' : Left) × Walks (at row k z) words (at rows.NetTail (with_net k (opened net)) z')
head_walk k z row may cap_scale net words whole scaled are =
    let t = three_parts (Word keys.DNet) (Reference k.map net.name) (Value cap_scale net.total) words are in
    let line : ℕ = t.0.line in
    let left : Left = record z { line = line } in
    let named : Known = with_net k (record no_net { name = net.name }) in (
      left,
      taken (at row k z) (at rows.NetTail (with_net k (opened net)) left) words (t.0 ∷ t.1 ∷ t.2 ∷ []) t.3 (
        at rows.NetName k left,
        net_keyword k z row may line t.0 whole (keyword_word t.0 keys.DNet t.4 refl) t.4,
        (at rows.NetTotal named left, net_name k left line t.1 net.name t.5, net_total named left line t.2 cap_scale net.total scaled t.6),
      ),
    )

pub net_walk : (k : Known) (z : Left) (row : Row) → BeforeNet row → (cap_scale res_scale : Scale) (net : DNet) (words : List Lexeme) → is_complete k.header ≡ true → scaled_cap k cap_scale → scaled_res k res_scale →
    NetBlock cap_scale res_scale k.map net words → Leads (at row k z) words BeforeNet (with_nets k (k.nets ++ net ∷ []))
net_walk k z row may cap_scale res_scale net words whole farads ohms block =
    let s0 : State = at row k z in
    let k1 : Known = with_net k (opened net) in
    let k2 : Known = with_conns k1 net.conns in
    let k3 : Known = with_caps k2 net.caps in
    let k4 : Known = with_resistors k3 net.res in
    let first = head_walk k z row may cap_scale net block.head whole farads block.begins in
    let s1 : State = at rows.NetTail k1 first.0 in
    let second = confidence_walk k1 first.0 block.confidence block.told in
    let s2 : State = at second.0 k1 second.1 in
    let third = section_walk keys.Conn (ConnLine k.map) BeforeConns ConnRow BeforeCaps rows.Conns (with_conns k1) (conn_each k1)
    (λ row z word conns stands is. conns_keyword row stands (with_conns k1 conns) z word.line word is) first_conn no_conns some_conns second.0 second.1 [] net.conns block.conns second.2 block.connects in
    let s3 : State = at third.0 k2 third.1 in
    let fourth = section_walk keys.Cap (CapLine cap_scale k.map) BeforeCaps (Is rows.Caps) BeforeResistors rows.Caps (with_caps k2) (caps_each k2 cap_scale farads)
    (λ row z word caps stands is. caps_keyword row stands (with_caps k2 caps) z word.line word is) refl no_caps (λ row is. rw is at_caps) third.0 third.1 [] net.caps block.caps third.2 block.couples in
    let s4 : State = at fourth.0 k3 fourth.1 in
    let fifth = section_walk keys.Res (ResLine res_scale k.map) BeforeResistors (Is rows.Resistors) BeforeEnd rows.Resistors (with_resistors k3) (resistors_each k3 res_scale ohms)
    (λ row z word res stands is. res_keyword row stands (with_resistors k3 res) z word.line word is) refl no_resistors (λ row is. rw is at_resistors) fourth.0 fourth.1 [] net.res block.resistors fourth.2 block.resists in
    let s5 : State = at fifth.0 k4 fifth.1 in
    let t = one_part (Word keys.End) block.last block.ends in
    let s6 : State = at rows.Nets (ended k4) fifth.1 in
    let last : Walks s5 block.last s6 = taken s5 s6 block.last (t.0 ∷ []) t.1 (end_keyword fifth.0 fifth.2 k4 fifth.1 t.0.line t.0 t.2) in (
      rows.Nets,
      fifth.1,
      at_nets,
      rw block.parts (then s0 s1 s6 block.head (block.confidence ++ (block.conns ++ (block.caps ++ (block.resistors ++ block.last)))) first.1
          (then s1 s2 s6 block.confidence (block.conns ++ (block.caps ++ (block.resistors ++ block.last))) second.3
          (then s2 s3 s6 block.conns (block.caps ++ (block.resistors ++ block.last)) third.3
          (then s3 s4 s6 block.caps (block.resistors ++ block.last) fourth.3 (then s4 s5 s6 block.resistors block.last fifth.3 last))))),
    )

pub net_each : (k : Known) (cap_scale res_scale : Scale) → is_complete k.header ≡ true → scaled_cap k cap_scale → scaled_res k res_scale → Each (NetLine cap_scale res_scale k.map) BeforeNet (with_nets k)
net_each k cap_scale res_scale whole farads ohms row z before after words may line =
    rw line.then (net_walk (with_nets k before) z row may cap_scale res_scale line.net words whole farads ohms line.block)
