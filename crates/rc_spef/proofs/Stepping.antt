-- Each statement that the rows take leads on by the grammar.
use Rattle.std.proofs.Common.{◌≡◌, ◌∙◌, ℕ, true, false, List, [], ◌∷◌, ◌++◌, refl, ap, sym, subst, inl, inr, Option, Some, None, append_assoc, append-nil}
use Rattle.std.specs.Prelude.{◌⊎◌}
use Rattle.std.specs.List.{list_any}
use Rattle.std.specs.Str.{bytes_eq}
use Rattle.rc_keys.specs.Lexemes.{Lexeme}
use Rattle.rc_keys.specs.Statements.{at_line}
use Rattle.rc_keys.specs.Phrases.{InTurn}
use Rattle.rc_spef.specs.declared.value.SpefConn.{SpefConn}
use Rattle.rc_spef.specs.declared.value.SpefPort.{SpefPort}
use Rattle.rc_spef.specs.declared.state.Header.{Header}
use Rattle.rc_spef.specs.declared.state.State.{State}
use Rattle.rc_spef.specs.declared.state.Row.TheVariants as rows
use Rattle.rc_spef.specs.declared.key.Key.{Key}
use Rattle.rc_spef.specs.declared.key.Key.TheVariants as keys
use Rattle.rc_spef.specs.Keys.{key_of}
use Rattle.rc_spef.specs.Moves.{no_net}
use Rattle.rc_spef.specs.HeaderRows.{is_complete}
use Rattle.rc_spef.specs.NameRows.{first_cell, with_cell}
use Rattle.rc_spef.specs.References.{is_in_map}
use Rattle.rc_spef.specs.Parts.{Says, Entry}
use Rattle.rc_spef.specs.HeaderLines.{HeaderSays}
use Rattle.rc_spef.specs.NetLines.{no_names, NameLine, Attribute, WithAttributes, PortLine, ConnLine, Section, NetLine, first_of}
use Rattle.rc_spef.specs.NetLines.ConnLine.{Connects, Passes}
use Rattle.rc_spef.specs.NetLines.Attribute.{At, Loaded, Driven}
use Rattle.rc_spef.proofs.Tails.{cell_of_last}
use Rattle.rc_spef.proofs.Walks.{Known, Left, at}
use Rattle.rc_spef.proofs.NetTokens.{keyed}
use Rattle.rc_spef.proofs.HeadTokens.{noted}
use Rattle.rc_spef.proofs.TailTokens.{back_to}
use Rattle.rc_spef.proofs.Turned.{of_key, quoted_key_from, AttributeFrom, PortFrom, NamesBehind, HeaderBehind, HeaderFrom}
use Rattle.rc_spef.proofs.Backward.{More, Last, HeaderRest, header_rest, name_rest, port_rest, net_rest, at_rest, load_rest, cell_rest}
use Rattle.rc_spef.proofs.Parsed.{turn_more, no_turn, section_more, section_begins, Behind, add, none_behind, on, so, Headed, headed_more, Flowing, flowed, flowing_more, only, Complete, names_of, cap_scale, res_scale, InNames, Named, InPorts, Ported, OpenPort, Netted, NetHead, InConns, OpenConn, OpenNode, told_cap, Upto}
use Rattle.rc_spef.proofs.Parsed.Upto.{AtHeader, AtFlows, AtNames, AtPorts, AtPortTail, AtNetTail}

-- ---- what is complete stays so

pub complete_of : (k : Known) (words : List Lexeme) → Ported k words → is_complete k.header ≡ true
complete_of k words p = p.before.before.1

pub whole_names : (k : Known) (words : List Lexeme) → Behind (Complete k) (InNames k) words → Named k words
whole_names k words b = so (Complete k) (InNames k) (λ ws. Section keys.NameMap NameLine no_names ws (names_of k)) words b (λ rest inside. inr inside)

pub without_names : (k : Known) (words : List Lexeme) → Complete k words → k.map ≡ [] → k.names ≡ [] → Named k words
without_names k words c map names = none_behind (Complete k) (λ ws. Section keys.NameMap NameLine no_names ws (names_of k)) words c (inl (refl, λ i. record { numbers = map i; names = names i }))

pub without_ports : (k : Known) (words : List Lexeme) → Named k words → k.ports ≡ [] → Ported k words
without_ports k words n ports = none_behind (Named k) (λ ws. Section keys.Ports (PortLine k.map) [] ws k.ports) words n (inl (refl, ports))

pub whole_ports : (k : Known) (words : List Lexeme) → Behind (Named k) (InPorts k k.ports) words → Ported k words
whole_ports k words b = so (Named k) (InPorts k k.ports) (λ ws. Section keys.Ports (PortLine k.map) [] ws k.ports) words b (λ rest inside. inr inside)

pub without_nets : (k : Known) (words : List Lexeme) → Ported k words → k.nets ≡ [] → Netted k words
without_nets k words p nets = none_behind (Ported k) (λ ws. InTurn (NetLine (cap_scale k) (res_scale k) k.map) [] ws k.nets) words p (no_turn (NetLine (cap_scale k) (res_scale k) k.map) [] k.nets nets)

-- a port is complete
close_port : (k : Known) (words : List Lexeme) → OpenPort k words → InPorts k k.ports words
close_port k words o = subst (InPorts k k.ports) (sym o.1.parts) (section_more keys.Ports (PortLine k.map) [] o.0 k.ports o.1.front o.1.rest o.1.before o.1.here)

pub closed_ports : (k : Known) (words : List Lexeme) → Behind (Named k) (OpenPort k) words → Behind (Named k) (InPorts k k.ports) words
closed_ports k words b = so (Named k) (OpenPort k) (InPorts k k.ports) words b (close_port k)

-- a connection is
pub close_conn : (k : Known) (words : List Lexeme) → OpenConn k words → InConns k k.net.conns words
close_conn k words o =
    subst (InConns k k.net.conns) (sym o.lines.parts)
    (section_more keys.Conn (ConnLine k.map) [] o.earlier k.net.conns o.lines.front o.lines.rest o.lines.before (Connects o.joins.port o.joins.end o.joins.dir o.joins.cell o.lines.here o.conns))

pub close_node : (k : Known) (words : List Lexeme) → OpenNode k words → InConns k k.net.conns words
close_node k words o =
    subst (InConns k k.net.conns) (sym o.2.parts) (section_more keys.Conn (ConnLine k.map) [] k.net.conns k.net.conns o.2.front o.2.rest o.2.before (Passes o.0 o.1 o.2.here refl))

-- ---- attributes

pub with_more : (Fixed : List Lexeme → Type 0) (cell after : Option (List ℕ)) (words line : List Lexeme) → WithAttributes Fixed cell words → Attribute cell line after → WithAttributes Fixed after (words ++ line)
with_more Fixed cell after words line w is = record {
  head = w.head;
  tail = w.tail ++ line;
  parts = ap (λ (ws : List Lexeme). ws ++ line) w.parts ∙ append_assoc w.head w.tail line;
  fixed = w.fixed;
  attributes = turn_more Attribute None cell after w.tail line w.attributes is;
}

pub without_attributes : (Fixed : List Lexeme → Type 0) (words : List Lexeme) → Fixed words → WithAttributes Fixed None words
without_attributes Fixed words is = record { head = words; tail = []; parts = sym (append-nil words); fixed = is; attributes = no_turn Attribute None None refl }

port_more : (numbers : List ℕ) (before after : List SpefPort) (words line : List Lexeme) → PortLine numbers before words after → ((cell : Option (List ℕ)) → (now : Option (List ℕ)) × Attribute cell line now) → PortLine numbers before (words ++ line) after
port_more numbers before after words line p says = let more = says p.cell in record {
  name = p.name;
  dir = p.dir;
  cell = more.0;
  are = with_more _ p.cell more.0 words line p.are more.1;
  then = p.then;
}

pub cell_joined : (earlier conns : List SpefConn) (joins : SpefConn) (name : List ℕ) → conns ≡ earlier ++ joins ∷ [] → with_cell conns name ≡ earlier ++ record joins { cell = first_of joins.cell name } ∷ []
cell_joined earlier conns joins name is = ap (λ (cs : List SpefConn). with_cell cs name) is ∙ cell_of_last earlier joins name ∙ ap (λ (cell : Option (List ℕ)). earlier ++ record joins { cell = cell } ∷ []) (same joins.cell)
  where
    same : (cell : Option (List ℕ)) → first_cell cell name ≡ first_of cell name
    same None = refl
    same (Some earlier) = refl

module _ (line : ℕ) (t : State) where
  abbrev pub Ending : List Lexeme → Lexeme → List Lexeme → Type 0
  Ending words word rest = Upto t (words ++ word ∷ rest)

  -- nothing is left behind the last token
  pub alone : (words : List Lexeme) (word : Lexeme) (rest : List Lexeme) → rest ≡ [] → Upto t (words ++ word ∷ []) → Ending words word rest
  alone words word rest none up = subst (λ (ws : List Lexeme). Upto t (words ++ word ∷ ws)) (sym none) up

  pub moved : (words all : List Lexeme) (word : Lexeme) (rest : List Lexeme) → all ≡ word ∷ rest → Ending words word rest → Upto t (words ++ all)
  moved words all word rest is up = subst (λ (ws : List Lexeme). Upto t (words ++ ws)) (sym is) up

  pub net_starts : (k : Known) (z : Left) (words : List Lexeme) (word : Lexeme) (rest : List Lexeme) → Netted k words → key_of word ≡ keys.DNet → More line t rest (at rows.NetName k (record z { line = line })) → Ending words word rest
  net_starts k z words word rest n key more =
      let r = net_rest line t k (record z { line = line }) (cap_scale k) (told_cap k.header (complete_of k n.front n.before)) rest more in
      let now : Known = record k { net = record no_net { name = r.0; total = r.1 } } in
      AtNetTail now (record z { line = line }) refl refl refl (add (Netted now) (NetHead now) words (word ∷ rest) n (key, r.2)) r.3

  names_end : (k : Known) (z : Left) (words : List Lexeme) (word : Lexeme) (rest : List Lexeme) → Named k words → k.ports ≡ [] → k.nets ≡ [] → NamesBehind (More line t rest) (Last line t rest) line (key_of (at_line line word)) k z → Ending words word rest
  names_end k z words word rest n ports nets (inl d) =
      alone words word rest d.1.0 (AtPorts k z nets (add (Named k) (InPorts k k.ports) words (word ∷ []) n (section_begins keys.Ports (PortLine k.map) [] k.ports word (of_key line word keys.Ports d.0) ports)) (sym d.1.1))
  names_end k z words word rest n ports nets (inr m) = net_starts k z words word rest (without_nets k words (without_ports k words n ports) nets) (of_key line word keys.DNet m.0) m.1

  -- ---- the header

  header_ends : (h : Header) (z : Left) (words : List Lexeme) (word : Lexeme) (rest : List Lexeme) → Headed h words → HeaderBehind (More line t rest) (Last line t rest) line (key_of (at_line line word)) (only h) z → Ending words word rest
  header_ends h z words word rest hd (whole, inl d) =
      alone words word rest d.1.0 (AtNames (only h) z refl refl (add (Complete (only h)) (InNames (only h)) words (word ∷ []) (hd, whole) (section_begins keys.NameMap NameLine no_names (names_of (only h)) word (of_key line word keys.NameMap d.0) refl)) (sym d.1.1))
  header_ends h z words word rest hd (whole, inr b) = names_end (only h) z words word rest (without_names (only h) words (hd, whole) refl refl) refl refl b

  header_said : (h : Header) (z : Left) (words : List Lexeme) (word : Lexeme) (rest : List Lexeme) → Headed h words → list_any (bytes_eq word.bytes) h.seen ≡ false → HeaderRest line t (key_of (at_line line word)) (only (noted h word.bytes)) z rest → Ending words word rest
  header_said h z words word rest hd once (inl s) =
      AtHeader s.0 z (headed_more h s.0 words (word ∷ rest) hd (record {
        first = word;
        rest = rest;
        parts = refl;
        once = once;
        says = subst (λ (key : Key). HeaderSays key (noted h word.bytes) rest s.0) (keyed line word) s.1;
      })) s.2
  header_said h z words word rest hd once (inr f) =
      AtFlows (noted h word.bytes) z (record {
        front = words;
        first = word;
        word = f.0;
        others = [];
        parts = ap (λ (ws : List Lexeme). words ++ word ∷ ws) f.2;
        earlier = h;
        headed = hd;
        flows = of_key line word keys.DesignFlow f.1;
        once = once;
        quoted = (f.3, tt);
        now = refl;
      }) f.4

  pub header_goes : (h : Header) (z : Left) (words : List Lexeme) (word : Lexeme) (rest : List Lexeme) → Headed h words → HeaderFrom (More line t rest) (Last line t rest) line word (key_of (at_line line word)) (only h) z → Ending words word rest
  header_goes h z words word rest hd (inr b) = header_ends h z words word rest hd b
  header_goes h z words word rest hd (inl w) = header_said h z words word rest hd w.1 (header_rest line t (only (noted h word.bytes)) z (key_of (at_line line word)) w.0 rest w.2)

  pub flows_go : (h : Header) (z : Left) (words : List Lexeme) (word : Lexeme) (rest : List Lexeme) → Flowing h words →
      ((key_of (at_line line word) ≡ keys.Quoted) × Last line t rest (at rows.Flows (only h) z)) ⊎ HeaderFrom (More line t rest) (Last line t rest) line word (key_of (at_line line word)) (only h) z → Ending words word rest
  flows_go h z words word rest f (inl d) = alone words word rest d.1.0 (AtFlows h z (flowing_more h words word f (quoted_key_from line word d.0)) (sym d.1.1))
  flows_go h z words word rest f (inr b) = header_goes h z words word rest (flowed h words f) b

  -- ---- the map of names, and ports

  pub names_go : (k : Known) (z : Left) (words : List Lexeme) (word : Lexeme) (rest : List Lexeme) → k.ports ≡ [] → k.nets ≡ [] → Behind (Complete k) (InNames k) words →
      ((number : ℕ) × Says (Entry number) word × (is_in_map k.map number ≡ false) × More line t rest (at rows.Name (record k { map = k.map ++ number ∷ [] }) z)) ⊎ NamesBehind (More line t rest) (Last line t rest) line (key_of (at_line line word)) k z → Ending words word rest
  names_go k z words word rest ports nets b (inr e) = names_end k z words word rest (whole_names k words b) ports nets e
  names_go k z words word rest ports nets b (inl m) =
      let r = name_rest line t (record k { map = k.map ++ m.0 ∷ [] }) z rest m.3 in
      let now : Known = record k { map = k.map ++ m.0 ∷ []; names = k.names ++ r.0 ∷ [] } in
      AtNames now z ports nets (on (Complete k) (InNames k) (InNames now) words (word ∷ rest) b
      (λ front inside. section_more keys.NameMap NameLine no_names (names_of k) (names_of now) front (word ∷ rest) inside (record { number = m.0; name = r.0; are = (m.1, r.1); once = m.2; then = refl }))) r.2

  pub port_goes : (k : Known) (z : Left) (words : List Lexeme) (word : Lexeme) (rest : List Lexeme) → k.nets ≡ [] → Behind (Named k) (InPorts k k.ports) words → PortFrom (More line t rest) line word k z → Ending words word rest
  port_goes k z words word rest nets b (inl m) = net_starts k z words word rest (without_nets k words (whole_ports k words b) nets) m.0 m.1
  port_goes k z words word rest nets b (inr m) =
      let left : Left = record z { name = m.0; line = line } in
      let r = port_rest line t k left rest m.2 in
      let now : Known = record k { ports = k.ports ++ record { name = m.0; dir = r.0 } ∷ [] } in
      AtPortTail now left nets (on (Named k) (InPorts k k.ports) (OpenPort now) words (word ∷ rest) b
      (λ front inside. (
        k.ports,
        add (InPorts k k.ports) (λ ws. PortLine k.map k.ports ws now.ports) front (word ∷ rest) inside
            (record { name = m.0; dir = r.0; cell = None; are = without_attributes _ (word ∷ rest) (m.1, r.1); then = refl }),
      ))) r.2

  port_keeps : (k : Known) (z : Left) (words : List Lexeme) (word : Lexeme) (rest : List Lexeme) → k.nets ≡ [] → Behind (Named k) (OpenPort k) words → ((cell : Option (List ℕ)) → (now : Option (List ℕ)) × Attribute cell (word ∷ rest) now) → t ≡ at rows.PortTail k z → Ending words word rest
  port_keeps k z words word rest nets b says is =
      AtPortTail k z nets (on (Named k) (OpenPort k) (OpenPort k) words (word ∷ rest) b
      (λ front o. (o.0, on (InPorts k o.0) (λ ws. PortLine k.map o.0 ws k.ports) (λ ws. PortLine k.map o.0 ws k.ports) front (word ∷ rest) o.1 (λ last p. port_more k.map o.0 k.ports last (word ∷ rest) p says)))) is

  pub port_tail_goes : (k : Known) (z : Left) (words : List Lexeme) (word : Lexeme) (rest : List Lexeme) → k.nets ≡ [] → Behind (Named k) (OpenPort k) words → AttributeFrom (More line t rest) rows.PortTail (key_of (at_line line word)) k z (PortFrom (More line t rest) line word k z) → Ending words word rest
  port_tail_goes k z words word rest nets b (inl a) =
      let r = at_rest line t k (back_to rows.PortTail z) rest a.1 in
      port_keeps k (back_to rows.PortTail z) words word rest nets b (λ cell. (cell, At (of_key line word keys.Coordinates a.0, r.0) refl)) r.1
  port_tail_goes k z words word rest nets b (inr (inl a)) =
      let r = load_rest line t k (back_to rows.PortTail z) rest a.1 in
      port_keeps k (back_to rows.PortTail z) words word rest nets b (λ cell. (cell, Loaded (of_key line word keys.Load a.0, r.0) refl)) r.1
  port_tail_goes k z words word rest nets b (inr (inr (inl a))) =
      let r = cell_rest line t k (back_to rows.PortTail z) rest a.1 in
      port_keeps k (back_to rows.PortTail z) words word rest nets b (λ cell. (first_of cell r.0, Driven r.0 (of_key line word keys.DrivingCell a.0, r.1) refl)) r.2
  port_tail_goes k z words word rest nets b (inr (inr (inr p))) = port_goes k z words word rest nets (closed_ports k words b) p
