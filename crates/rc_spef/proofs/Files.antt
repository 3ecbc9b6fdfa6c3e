-- A text that says a value is read as that value.
use Rattle.std.proofs.Common.{◌≡◌, ◌∙◌, ℕ, true, List, [], ◌∷◌, ◌++◌, refl, ap, sym, inl, Some, None, Ok, Err, append-nil}
use Rattle.rc_keys.specs.declared.fault.Refusal.{Refusal}
use Rattle.rc_keys.specs.declared.token.Mode.TheVariants as mode
use Rattle.rc_keys.specs.Lexemes.{Lexeme, Remaining, words_of}
use Rattle.rc_keys.specs.Course.{Read, reading}
use Rattle.rc_keys.specs.Phrases.{joined}
use Rattle.rc_keys.proofs.Phrasing.{reads_join}
use Rattle.rc_keys.proofs.Readings.{accepts_statements}
use Rattle.rc_spef.specs.declared.value.Spef.{Spef}
use Rattle.rc_spef.specs.declared.state.Header.{Header}
use Rattle.rc_spef.specs.declared.state.Scale.{Scale}
use Rattle.rc_spef.specs.declared.state.State.{State}
use Rattle.rc_spef.specs.declared.state.ConnKind.TheVariants as conn_kinds
use Rattle.rc_spef.specs.declared.state.Row.{Row}
use Rattle.rc_spef.specs.declared.state.Row.TheVariants as rows
use Rattle.rc_spef.specs.declared.key.Key.TheVariants as keys
use Rattle.rc_spef.specs.Moves.{no_header, no_net, spef_begin, spef_made}
use Rattle.rc_spef.specs.HeaderRows.{is_complete}
use Rattle.rc_spef.specs.Rows.{spef_turn, spef_may_end, spef_outcome, outcome_of}
use Rattle.rc_spef.specs.Parts.{Word, AnyQuoted, Are}
use Rattle.rc_spef.specs.HeaderLines.{HeaderLine}
use Rattle.rc_spef.specs.NetLines.{no_names, NameLine, PortLine, NetLine}
use Rattle.rc_spef.specs.Grammar.{IsSpef}
use Rattle.rc_spef.proofs.Starts.{keyword_word}
use Rattle.rc_spef.proofs.Walks.{Known, Left, at, Walks, Is, HeaderRow, BeforePorts, PortRow, BeforeNet, then}
use Rattle.rc_spef.proofs.Walks.HeaderRow.{at_header, at_flows}
use Rattle.rc_spef.proofs.Walks.BeforePorts.{no_names as without_names, at_names}
use Rattle.rc_spef.proofs.Walks.PortRow.{first_port, behind_port}
use Rattle.rc_spef.proofs.Walks.BeforeNet.{no_ports, some_ports, at_nets}
use Rattle.rc_spef.proofs.HeadTokens.{with_header, spef_word, version_word, names_keyword, ports_keyword}
use Rattle.rc_spef.proofs.LineWalks.{taken, two_parts, turns_walk, section_walk}
use Rattle.rc_spef.proofs.ConnWalks.{with_ports, port_each}
use Rattle.rc_spef.proofs.FileWalks.{header_each, with_names, name_each, with_nets, net_each}

-- nothing is known of a text at its front
abbrev nothing_known : Known
nothing_known = record { header = no_header; map = []; names = []; ports = []; nets = []; net = no_net }

abbrev nothing_left : Left
nothing_left = record { back = rows.Begin; line = 1; name = 0; kind = conn_kinds.Node }

-- a header that tells these lacks nothing
complete : (h : Header) (design : List ℕ) (cap_scale res_scale : Scale) → h.design ≡ Some design → h.cap_scale ≡ Some cap_scale → h.res_scale ≡ Some res_scale → is_complete h ≡ true
complete h design cap_scale res_scale named farads ohms = rw (named, farads, ohms) refl

-- a text may end where a net may stand
may_end : (row : Row) → BeforeNet row → (k : Known) (z : Left) → is_complete k.header ≡ true → spef_may_end (at row k z) ≡ true
unfolding spef_may_end
may_end row (no_ports r (without_names q at_header)) k z whole = whole
may_end row (no_ports r (without_names q at_flows)) k z whole = whole
may_end row (no_ports r at_names) k z whole = refl
may_end row (some_ports r first_port) k z whole = refl
may_end row (some_ports r behind_port) k z whole = refl
may_end row at_nets k z whole = refl

-- what the rows take up to the end of a text is read
pub read_whole : (s t : State) (text : Remaining) → Walks s text.words t → text.fault ≡ None → spef_may_end t ≡ true → reading spef_turn spef_may_end s text ≡ Read t
read_whole s t text walk whole ends =
    let split : text.words ≡ joined walk.parts ++ [] = walk.whole ∙ sym (append-nil (joined walk.parts)) in
    (accepts_statements spef_turn spef_may_end s t text).1 (walk.parts, reads_join spef_turn spef_may_end walk.parts s t t [] text split walk.each (inl (refl, whole, ends, refl)))

front_walk : (words : List Lexeme) → Are (Word keys.Spef ∷ AnyQuoted ∷ []) words → Walks (at rows.Begin nothing_known nothing_left) words (at rows.Header nothing_known nothing_left)
front_walk words are =
    let t = two_parts (Word keys.Spef) AnyQuoted words are in
    taken (at rows.Begin nothing_known nothing_left) (at rows.Header nothing_known nothing_left) words (t.0 ∷ t.1 ∷ []) t.2
    (at rows.Version nothing_known nothing_left, spef_word nothing_known nothing_left t.0.line t.0 t.3, version_word nothing_known nothing_left t.0.line t.1 t.4)

-- the value that the rows have made
made : (spef : Spef) (h : Header) (k : Known) (row : Row) (z : Left) → k.header ≡ h → k.names ≡ spef.names → k.ports ≡ spef.ports → k.nets ≡ spef.nets → h.design ≡ Some spef.design → spef.divider ≡ h.divider → spef.bus_left ≡ h.bus_left → spef.bus_right ≡ h.bus_right → spef_made (at row k z) ≡ spef
made spef h k row z header names ports nets design divider left right = rw (header, names, ports, nets, design, sym divider, sym left, sym right) refl

pub reads : (text : Remaining) (spef : Spef) → IsSpef text spef → (t : State) × (reading spef_turn spef_may_end spef_begin text ≡ Read t) × (spef_made t ≡ spef)
reads text spef file =
    let k1 : Known = with_header nothing_known file.header in
    let k2 : Known = with_names k1 (record { numbers = file.numbers; names = spef.names }) in
    let k3 : Known = with_ports k2 spef.ports in
    let k4 : Known = with_nets k3 spef.nets in
    let whole = complete file.header spef.design file.cap_scale file.res_scale file.design file.farads file.ohms in
    let s0 : State = at rows.Begin nothing_known nothing_left in
    let s1 : State = at rows.Header nothing_known nothing_left in
    let first = front_walk file.version file.begins in
    let second = turns_walk HeaderLine HeaderRow (with_header nothing_known) (header_each nothing_known) rows.Header nothing_left no_header file.header file.head at_header file.tells in
    let s2 : State = at second.0 k1 second.1 in
    let third = section_walk keys.NameMap NameLine HeaderRow (Is rows.Names) BeforePorts rows.Names (with_names k1) (name_each k1)
    (λ row z word names stands is. names_keyword (with_names k1 names) z row stands word.line word whole is) refl without_names (λ row is. rw is at_names) second.0 second.1 no_names (record { numbers = file.numbers; names = spef.names }) file.map second.2 file.names in
    let s3 : State = at third.0 k2 third.1 in
    let fourth = section_walk keys.Ports (PortLine file.numbers) BeforePorts PortRow BeforeNet rows.Ports (with_ports k2) (port_each k2)
    (λ row z word ports stands is. ports_keyword (with_ports k2 ports) z row stands word.line word whole (keyword_word word keys.Ports is refl) is) first_port no_ports some_ports third.0 third.1 [] spef.ports file.ports third.2 file.pins in
    let s4 : State = at fourth.0 k3 fourth.1 in
    let fifth = turns_walk (NetLine file.cap_scale file.res_scale file.numbers) BeforeNet (with_nets k3) (net_each k3 file.cap_scale file.res_scale whole file.farads file.ohms) fourth.0 fourth.1 [] spef.nets file.blocks fourth.2 file.nets in
    let s5 : State = at fifth.0 k4 fifth.1 in
    let all : Walks s0 text.words s5 =
    rw file.parts (then s0 s1 s5 file.version (file.head ++ (file.map ++ (file.ports ++ file.blocks))) first
    (then s1 s2 s5 file.head (file.map ++ (file.ports ++ file.blocks)) second.3
    (then s2 s3 s5 file.map (file.ports ++ file.blocks) third.3 (then s3 s4 s5 file.ports file.blocks fourth.3 fifth.3)))) in
    (s5, read_whole s0 s5 text all file.whole (may_end fifth.0 fifth.2 k4 fifth.1 whole), made spef file.header k4 fifth.0 fifth.1 refl refl refl refl file.design file.divider file.bus_left file.bus_right)

pub says_value : (text : List ℕ) (spef : Spef) → IsSpef (words_of mode.Spef text) spef → spef_outcome text ≡ Ok spef
unfolding spef_outcome
says_value text spef file = let r = reads (words_of mode.Spef text) spef file in ap outcome_of r.1 ∙ ap (λ (value : Spef). Ok value) r.2

pub says_one : (text : List ℕ) (some other : Spef) → IsSpef (words_of mode.Spef text) some → IsSpef (words_of mode.Spef text) other → some ≡ other
says_one text some other first second = let e : Ok some ≡ Ok other = sym (says_value text some first) ∙ says_value text other second in cc

-- what is read is the value that a text says, and what is refused says none
pub read_as : (text : List ℕ) (now spef : Spef) → spef_outcome text ≡ Ok now → IsSpef (words_of mode.Spef text) spef → now ≡ spef
read_as text now spef is file = let e : Ok now ≡ Ok spef = sym is ∙ says_value text spef file in cc

pub refused_says_none : (text : List ℕ) (refusal : Refusal) (spef : Spef) → spef_outcome text ≡ Err refusal → IsSpef (words_of mode.Spef text) spef → ⊥
refused_says_none text refusal spef is file = let e : Err refusal ≡ Ok spef = sym is ∙ says_value text spef file in absurd cc
