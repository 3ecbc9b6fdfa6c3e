-- Each statement of a net that the rows take leads on by the grammar.
use Rattle.std.proofs.Common.{◌≡◌, ◌∙◌, ℕ, true, List, [], ◌∷◌, ◌++◌, refl, ap, sym, inl, inr, Option, Some, None, append_assoc}
use Rattle.std.specs.Prelude.{◌⊎◌}
use Rattle.rc_keys.specs.Lexemes.{Lexeme}
use Rattle.rc_keys.specs.Statements.{at_line}
use Rattle.rc_spef.specs.declared.value.SpefConn.{SpefConn}
use Rattle.rc_spef.specs.declared.state.State.{State}
use Rattle.rc_spef.specs.declared.state.ConnKind.TheVariants as conn_kinds
use Rattle.rc_spef.specs.declared.state.Row.TheVariants as rows
use Rattle.rc_spef.specs.declared.key.Key.TheVariants as keys
use Rattle.rc_spef.specs.Keys.{key_of}
use Rattle.rc_spef.specs.HeaderRows.{is_complete}
use Rattle.rc_spef.specs.NameRows.{with_cell}
use Rattle.rc_spef.specs.Parts.{Says, Word, Plain, EndOf, Direction, Are}
use Rattle.rc_spef.specs.NetLines.{Attribute, WithAttributes, ConnLine, CapLine, ResLine, Section, Confidence, NetBlock, NetLine, first_of, conn_word}
use Rattle.rc_spef.specs.NetLines.Attribute.{At, Loaded, Driven}
use Rattle.rc_spef.specs.NetLines.CapLine.{Grounded, Coupled}
use Rattle.rc_spef.proofs.Walks.{Known, Left, at}
use Rattle.rc_spef.proofs.NetTokens.{kind_of, with_conns, with_caps, with_resistors, ended}
use Rattle.rc_spef.proofs.TailTokens.{back_to}
use Rattle.rc_spef.proofs.Turned.{of_key, ResistorsBehind, CapsBehind, ConnsBehind, SectionsFrom, ConnFrom, AttributeFrom}
use Rattle.rc_spef.proofs.Backward.{More, Last, CapRest, confidence_rest, conn_rest, node_rest, at_rest, load_rest, cell_rest, cap_rest, resistor_rest}
use Rattle.rc_spef.proofs.Parsed.{turn_more, section_more, section_begins, Behind, add, none_behind, on, so, cap_scale, res_scale, Netted, NetHead, NetTold, InConns, NetConns, OpenConn, OpenNode, InCaps, NetCaps, InResistors, NetResistors, told_cap, told_res}
use Rattle.rc_spef.proofs.Parsed.Upto.{AtNets, AtSections, AtConns, AtConnTail, AtNodeTail, AtCaps, AtResistors}
use Rattle.rc_spef.proofs.Stepping.{complete_of, close_conn, close_node, with_more, without_attributes, cell_joined, Ending, alone}

regroup : (a b c d e l : List Lexeme) → ((((a ++ b) ++ c) ++ d) ++ e) ++ l ≡ a ++ (b ++ (c ++ (d ++ (e ++ l))))
regroup a b c d e l = append_assoc (((a ++ b) ++ c) ++ d) e l ∙ append_assoc ((a ++ b) ++ c) d (e ++ l) ∙ append_assoc (a ++ b) c (d ++ (e ++ l)) ∙ append_assoc a b (c ++ (d ++ (e ++ l)))

-- the block of a net that ends
block_of : (k : Known) (words : List Lexeme) (word : Lexeme) → NetResistors k words → key_of word ≡ keys.End → NetBlock (cap_scale k) (res_scale k) k.map k.net (words ++ word ∷ [])
block_of k words word r is =
    let c = r.before in
    let n = c.before in
    let t = n.before in
    let parts : words ≡ (((t.front ++ t.rest) ++ n.rest) ++ c.rest) ++ r.rest =
    r.parts ∙ ap (λ (ws : List Lexeme). ws ++ r.rest) (c.parts ∙ ap (λ (ws : List Lexeme). ws ++ c.rest) (n.parts ∙ ap (λ (ws : List Lexeme). ws ++ n.rest) t.parts)) in
    record {
      head = t.front;
      confidence = t.rest;
      conns = n.rest;
      caps = c.rest;
      resistors = r.rest;
      last = word ∷ [];
      parts = ap (λ (ws : List Lexeme). ws ++ word ∷ []) parts ∙ regroup t.front t.rest n.rest c.rest r.rest (word ∷ []);
      begins = t.before;
      told = t.here;
      connects = n.here;
      couples = c.here;
      resists = r.here;
      ends = (is, tt);
    }

netted_more : (k : Known) (words : List Lexeme) (word : Lexeme) → Behind (Netted k) (NetResistors k) words → key_of word ≡ keys.End → Netted (ended k) (words ++ word ∷ [])
netted_more k words word b is =
    let n = b.before in
    record {
      front = n.front;
      rest = n.rest ++ (b.rest ++ word ∷ []);
      parts = ap (λ (ws : List Lexeme). ws ++ word ∷ []) (b.parts ∙ ap (λ (ws : List Lexeme). ws ++ b.rest) n.parts)
          ∙ (append_assoc (n.front ++ n.rest) b.rest (word ∷ []) ∙ append_assoc n.front n.rest (b.rest ++ word ∷ []));
      before = n.before;
      here = turn_more (NetLine (cap_scale k) (res_scale k) k.map) [] k.nets (k.nets ++ k.net ∷ []) n.rest (b.rest ++ word ∷ []) n.here (record { net = k.net; block = block_of k b.rest word b.here is; then = refl });
    }

without_resistors : (k : Known) (words : List Lexeme) → k.net.res ≡ [] → Behind (Netted k) (NetCaps k) words → Behind (Netted k) (NetResistors k) words
without_resistors k words res b = so (Netted k) (NetCaps k) (NetResistors k) words b (λ ws c. none_behind (NetCaps k) (λ ws. Section keys.Res (ResLine (res_scale k) k.map) [] ws k.net.res) ws c (inl (refl, res)))

without_caps : (k : Known) (words : List Lexeme) → k.net.caps ≡ [] → Behind (Netted k) (NetConns k) words → Behind (Netted k) (NetCaps k) words
without_caps k words caps b = so (Netted k) (NetConns k) (NetCaps k) words b (λ ws c. none_behind (NetConns k) (λ ws. Section keys.Cap (CapLine (cap_scale k) k.map) [] ws k.net.caps) ws c (inl (refl, caps)))

without_conns : (k : Known) (words : List Lexeme) → k.net.conns ≡ [] → Behind (Netted k) (NetTold k) words → Behind (Netted k) (NetConns k) words
without_conns k words conns b = so (Netted k) (NetTold k) (NetConns k) words b (λ ws c. none_behind (NetTold k) (λ ws. Section keys.Conn (ConnLine k.map) [] ws k.net.conns) ws c (inl (refl, conns)))

whole_conns : (k : Known) (words : List Lexeme) → Behind (Netted k) (Behind (NetTold k) (InConns k k.net.conns)) words → Behind (Netted k) (NetConns k) words
whole_conns k words b = so (Netted k) (Behind (NetTold k) (InConns k k.net.conns)) (NetConns k) words b (λ ws c. so (NetTold k) (InConns k k.net.conns) (λ ws. Section keys.Conn (ConnLine k.map) [] ws k.net.conns) ws c (λ last inside. inr inside))

whole_caps : (k : Known) (words : List Lexeme) → Behind (Netted k) (Behind (NetConns k) (InCaps k)) words → Behind (Netted k) (NetCaps k) words
whole_caps k words b = so (Netted k) (Behind (NetConns k) (InCaps k)) (NetCaps k) words b (λ ws c. so (NetConns k) (InCaps k) (λ ws. Section keys.Cap (CapLine (cap_scale k) k.map) [] ws k.net.caps) ws c (λ last inside. inr inside))

whole_resistors : (k : Known) (words : List Lexeme) → Behind (Netted k) (Behind (NetCaps k) (InResistors k)) words → Behind (Netted k) (NetResistors k) words
whole_resistors k words b = so (Netted k) (Behind (NetCaps k) (InResistors k)) (NetResistors k) words b (λ ws c. so (NetCaps k) (InResistors k) (λ ws. Section keys.Res (ResLine (res_scale k) k.map) [] ws k.net.res) ws c (λ last inside. inr inside))

closed_conns : (k : Known) (words : List Lexeme) → Behind (Netted k) (Behind (NetTold k) (OpenConn k)) words → Behind (Netted k) (Behind (NetTold k) (InConns k k.net.conns)) words
closed_conns k words b = so (Netted k) (Behind (NetTold k) (OpenConn k)) (Behind (NetTold k) (InConns k k.net.conns)) words b (λ ws c. so (NetTold k) (OpenConn k) (InConns k k.net.conns) ws c (close_conn k))

closed_nodes : (k : Known) (words : List Lexeme) → Behind (Netted k) (Behind (NetTold k) (OpenNode k)) words → Behind (Netted k) (Behind (NetTold k) (InConns k k.net.conns)) words
closed_nodes k words b = so (Netted k) (Behind (NetTold k) (OpenNode k)) (Behind (NetTold k) (InConns k k.net.conns)) words b (λ ws c. so (NetTold k) (OpenNode k) (InConns k k.net.conns) ws c (close_node k))

whole_header : (k : Known) (words : List Lexeme) (Q : List Lexeme → Type 0) → Behind (Netted k) Q words → is_complete k.header ≡ true
whole_header k words Q b = complete_of k b.before.front b.before.before

module _ (line : ℕ) (t : State) (k : Known) (z : Left) (words : List Lexeme) (word : Lexeme) (rest : List Lexeme) where
  pub net_ends : Behind (Netted k) (NetResistors k) words → ResistorsBehind (Last line t rest) (key_of (at_line line word)) k z → Ending line t words word rest
  net_ends b e = alone line t words word rest e.1.0 (AtNets (ended k) z (netted_more k words word b (of_key line word keys.End e.0)) (sym e.1.1))

  pub caps_end : Behind (Netted k) (NetCaps k) words → k.net.res ≡ [] → CapsBehind (Last line t rest) (key_of (at_line line word)) k z → Ending line t words word rest
  caps_end b res (inr e) = net_ends (without_resistors k words res b) e
  caps_end b res (inl d) =
      alone line t words word rest d.1.0 (AtResistors k z (on (Netted k) (NetCaps k) (Behind (NetCaps k) (InResistors k)) words (word ∷ []) b
      (λ ws c. add (NetCaps k) (InResistors k) ws (word ∷ []) c (section_begins keys.Res (ResLine (res_scale k) k.map) [] k.net.res word (of_key line word keys.Res d.0) res))) (sym d.1.1))

  pub conns_end : Behind (Netted k) (NetConns k) words → k.net.caps ≡ [] → k.net.res ≡ [] → ConnsBehind (Last line t rest) (key_of (at_line line word)) k z → Ending line t words word rest
  conns_end b caps res (inr e) = caps_end (without_caps k words caps b) res e
  conns_end b caps res (inl d) =
      alone line t words word rest d.1.0 (AtCaps k z res (on (Netted k) (NetConns k) (Behind (NetConns k) (InCaps k)) words (word ∷ []) b
      (λ ws c. add (NetConns k) (InCaps k) ws (word ∷ []) c (section_begins keys.Cap (CapLine (cap_scale k) k.map) [] k.net.caps word (of_key line word keys.Cap d.0) caps))) (sym d.1.1))

  pub sections_go : k.net.conns ≡ [] → k.net.caps ≡ [] → k.net.res ≡ [] → Behind (Netted k) (NetTold k) words → SectionsFrom (Last line t rest) (key_of (at_line line word)) k z → Ending line t words word rest
  sections_go conns caps res b (inr e) = conns_end (without_conns k words conns b) caps res e
  sections_go conns caps res b (inl d) =
      alone line t words word rest d.1.0 (AtConns k z caps res (on (Netted k) (NetTold k) (Behind (NetTold k) (InConns k k.net.conns)) words (word ∷ []) b
      (λ ws c. add (NetTold k) (InConns k k.net.conns) ws (word ∷ []) c (section_begins keys.Conn (ConnLine k.map) [] k.net.conns word (of_key line word keys.Conn d.0) conns))) (sym d.1.1))

  pub net_tail_goes : k.net.conns ≡ [] → k.net.caps ≡ [] → k.net.res ≡ [] → Behind (Netted k) (NetHead k) words →
      ((key_of (at_line line word) ≡ keys.Confidence) × More line t rest (at rows.Confidence k (record z { back = rows.Sections }))) ⊎ SectionsFrom (Last line t rest) (key_of (at_line line word)) k z → Ending line t words word rest
  net_tail_goes conns caps res b (inr e) = sections_go conns caps res (so (Netted k) (NetHead k) (NetTold k) words b (λ ws h. none_behind (NetHead k) Confidence ws h (inl refl))) e
  net_tail_goes conns caps res b (inl m) =
      let left : Left = record z { back = rows.Sections } in
      let r = confidence_rest line t k left rest m.1 in
      AtSections k left conns caps res (on (Netted k) (NetHead k) (NetTold k) words (word ∷ rest) b (λ ws h. add (NetHead k) Confidence ws (word ∷ rest) h (inr (of_key line word keys.Confidence m.0, r.0)))) r.1

  -- ---- connections

  pub conns_go : k.net.caps ≡ [] → k.net.res ≡ [] → Behind (Netted k) (Behind (NetTold k) (InConns k k.net.conns)) words → ConnFrom (More line t rest) (Last line t rest) line (key_of (at_line line word)) k z → Ending line t words word rest
  conns_go caps res b (inr (inr e)) = conns_end (whole_conns k words b) caps res e
  conns_go caps res b (inl m) =
      let left : Left = record z { line = line } in
      let r = conn_rest line t k left m.0 rest m.2 in
      let joins : SpefConn = record { port = m.0; end = r.0; dir = r.1; cell = None } in
      let now : Known = with_conns k (k.net.conns ++ joins ∷ []) in
      AtConnTail now (record left { kind = kind_of m.0 }) caps res (on (Netted k) (Behind (NetTold k) (InConns k k.net.conns)) (Behind (NetTold now) (OpenConn now)) words (word ∷ rest) b
      (λ ws c. on (NetTold k) (InConns k k.net.conns) (OpenConn now) ws (word ∷ rest) c (λ last inside. record {
        earlier = k.net.conns;
        joins = joins;
        conns = refl;
        lines = add (InConns k k.net.conns) (WithAttributes (Are (Word (conn_word m.0) ∷ EndOf k.map r.0 ∷ Direction r.1 ∷ [])) None) last (word ∷ rest) inside (without_attributes _ (word ∷ rest) (of_key line word (conn_word m.0) m.1, r.2));
      }))) r.3
  conns_go caps res b (inr (inl m)) =
      let left : Left = record z { line = line } in
      let r = node_rest line t k left rest m.1 in
      AtNodeTail k (record left { kind = conn_kinds.Node }) caps res (on (Netted k) (Behind (NetTold k) (InConns k k.net.conns)) (Behind (NetTold k) (OpenNode k)) words (word ∷ rest) b
      (λ ws c. on (NetTold k) (InConns k k.net.conns) (OpenNode k) ws (word ∷ rest) c
      (λ last inside. (r.0, None, add (InConns k k.net.conns) (WithAttributes (Are (Word keys.InternalNode ∷ EndOf k.map r.0 ∷ [])) None) last (word ∷ rest) inside (without_attributes _ (word ∷ rest) (of_key line word keys.InternalNode m.0, r.1)))))) r.2

  -- an attribute that leaves the cell
  conn_keeps : (left : Left) → k.net.caps ≡ [] → k.net.res ≡ [] → Behind (Netted k) (Behind (NetTold k) (OpenConn k)) words → ((cell : Option (List ℕ)) → Attribute cell (word ∷ rest) cell) → t ≡ at rows.ConnTail k left → Ending line t words word rest
  conn_keeps left caps res b says is =
      AtConnTail k left caps res (on (Netted k) (Behind (NetTold k) (OpenConn k)) (Behind (NetTold k) (OpenConn k)) words (word ∷ rest) b
      (λ ws c. on (NetTold k) (OpenConn k) (OpenConn k) ws (word ∷ rest) c (λ last o. record {
        earlier = o.earlier;
        joins = o.joins;
        conns = o.conns;
        lines = on (InConns k o.earlier) _ _ last (word ∷ rest) o.lines (λ l w. with_more _ o.joins.cell o.joins.cell l (word ∷ rest) w (says o.joins.cell));
      }))) is

  conn_driven : (left : Left) (name : List ℕ) → k.net.caps ≡ [] → k.net.res ≡ [] → Behind (Netted k) (Behind (NetTold k) (OpenConn k)) words → ((cell : Option (List ℕ)) → Attribute cell (word ∷ rest) (first_of cell name)) →
      t ≡ at rows.ConnTail (with_conns k (with_cell k.net.conns name)) left → Ending line t words word rest
  conn_driven left name caps res b says is =
      let now : Known = with_conns k (with_cell k.net.conns name) in
      AtConnTail now left caps res (on (Netted k) (Behind (NetTold k) (OpenConn k)) (Behind (NetTold now) (OpenConn now)) words (word ∷ rest) b
      (λ ws c. on (NetTold k) (OpenConn k) (OpenConn now) ws (word ∷ rest) c (λ last o. record {
        earlier = o.earlier;
        joins = record o.joins { cell = first_of o.joins.cell name };
        conns = cell_joined o.earlier k.net.conns o.joins name o.conns;
        lines = on (InConns k o.earlier) _ _ last (word ∷ rest) o.lines (λ l w. with_more _ o.joins.cell (first_of o.joins.cell name) l (word ∷ rest) w (says o.joins.cell));
      }))) is

  pub conn_tail_goes : k.net.caps ≡ [] → k.net.res ≡ [] → Behind (Netted k) (Behind (NetTold k) (OpenConn k)) words →
      AttributeFrom (More line t rest) rows.ConnTail (key_of (at_line line word)) k z (ConnFrom (More line t rest) (Last line t rest) line (key_of (at_line line word)) k z) → Ending line t words word rest
  conn_tail_goes caps res b (inl a) =
      let r = at_rest line t k (back_to rows.ConnTail z) rest a.1 in
      conn_keeps (back_to rows.ConnTail z) caps res b (λ cell. At (of_key line word keys.Coordinates a.0, r.0) refl) r.1
  conn_tail_goes caps res b (inr (inl a)) =
      let r = load_rest line t k (back_to rows.ConnTail z) rest a.1 in
      conn_keeps (back_to rows.ConnTail z) caps res b (λ cell. Loaded (of_key line word keys.Load a.0, r.0) refl) r.1
  conn_tail_goes caps res b (inr (inr (inl a))) =
      let r = cell_rest line t k (back_to rows.ConnTail z) rest a.1 in
      conn_driven (back_to rows.ConnTail z) r.0 caps res b (λ cell. Driven r.0 (of_key line word keys.DrivingCell a.0, r.1) refl) r.2
  conn_tail_goes caps res b (inr (inr (inr c))) = conns_go caps res (closed_conns k words b) c

  node_keeps : (left : Left) → k.net.caps ≡ [] → k.net.res ≡ [] → Behind (Netted k) (Behind (NetTold k) (OpenNode k)) words → ((cell : Option (List ℕ)) → (now : Option (List ℕ)) × Attribute cell (word ∷ rest) now) → t ≡ at rows.NodeTail k left → Ending line t words word rest
  node_keeps left caps res b says is =
      AtNodeTail k left caps res (on (Netted k) (Behind (NetTold k) (OpenNode k)) (Behind (NetTold k) (OpenNode k)) words (word ∷ rest) b
      (λ ws c. on (NetTold k) (OpenNode k) (OpenNode k) ws (word ∷ rest) c
      (λ last o. (o.0, (says o.1).0, on (InConns k k.net.conns) _ _ last (word ∷ rest) o.2 (λ l w. with_more _ o.1 (says o.1).0 l (word ∷ rest) w (says o.1).1))))) is

  pub node_tail_goes : k.net.caps ≡ [] → k.net.res ≡ [] → Behind (Netted k) (Behind (NetTold k) (OpenNode k)) words →
      AttributeFrom (More line t rest) rows.NodeTail (key_of (at_line line word)) k z (ConnFrom (More line t rest) (Last line t rest) line (key_of (at_line line word)) k z) → Ending line t words word rest
  node_tail_goes caps res b (inl a) =
      let r = at_rest line t k (back_to rows.NodeTail z) rest a.1 in
      node_keeps (back_to rows.NodeTail z) caps res b (λ cell. (cell, At (of_key line word keys.Coordinates a.0, r.0) refl)) r.1
  node_tail_goes caps res b (inr (inl a)) =
      let r = load_rest line t k (back_to rows.NodeTail z) rest a.1 in
      node_keeps (back_to rows.NodeTail z) caps res b (λ cell. (cell, Loaded (of_key line word keys.Load a.0, r.0) refl)) r.1
  node_tail_goes caps res b (inr (inr (inl a))) =
      let r = cell_rest line t k (back_to rows.NodeTail z) rest a.1 in
      node_keeps (back_to rows.NodeTail z) caps res b (λ cell. (first_of cell r.0, Driven r.0 (of_key line word keys.DrivingCell a.0, r.1) refl)) r.2
  node_tail_goes caps res b (inr (inr (inr c))) = conns_go caps res (closed_nodes k words b) c

  -- ---- capacitances and resistors

  caps_said : k.net.res ≡ [] → Behind (Netted k) (Behind (NetConns k) (InCaps k)) words → Says Plain word → CapRest line t k z (cap_scale k) rest → Ending line t words word rest
  caps_said res b plain (inl r) =
      let now : Known = with_caps k (k.net.caps ++ record { a = r.0; b = None; value = r.1 } ∷ []) in
      AtCaps now z res (on (Netted k) (Behind (NetConns k) (InCaps k)) (Behind (NetConns now) (InCaps now)) words (word ∷ rest) b
      (λ ws c. on (NetConns k) (InCaps k) (InCaps now) ws (word ∷ rest) c (λ last inside. section_more keys.Cap (CapLine (cap_scale k) k.map) [] k.net.caps now.net.caps last (word ∷ rest) inside (Grounded r.0 r.1 (plain, r.2) refl)))) r.3
  caps_said res b plain (inr r) =
      let now : Known = with_caps k (k.net.caps ++ record { a = r.0; b = Some r.1; value = r.2 } ∷ []) in
      AtCaps now z res (on (Netted k) (Behind (NetConns k) (InCaps k)) (Behind (NetConns now) (InCaps now)) words (word ∷ rest) b
      (λ ws c. on (NetConns k) (InCaps k) (InCaps now) ws (word ∷ rest) c (λ last inside. section_more keys.Cap (CapLine (cap_scale k) k.map) [] k.net.caps now.net.caps last (word ∷ rest) inside (Coupled r.0 r.1 r.2 (plain, r.3) refl)))) r.4

  pub caps_go : k.net.res ≡ [] → Behind (Netted k) (Behind (NetConns k) (InCaps k)) words → (Says Plain word × More line t rest (at rows.CapFirst k z)) ⊎ CapsBehind (Last line t rest) (key_of (at_line line word)) k z → Ending line t words word rest
  caps_go res b (inr e) = caps_end (whole_caps k words b) res e
  caps_go res b (inl m) = caps_said res b m.0 (cap_rest line t k z (cap_scale k) (told_cap k.header (whole_header k words _ b)) rest m.1)

  pub resistors_go : Behind (Netted k) (Behind (NetCaps k) (InResistors k)) words → (Says Plain word × More line t rest (at rows.ResFirst k z)) ⊎ ResistorsBehind (Last line t rest) (key_of (at_line line word)) k z → Ending line t words word rest
  resistors_go b (inr e) = net_ends (whole_resistors k words b) e
  resistors_go b (inl m) =
      let r = resistor_rest line t k z (res_scale k) (told_res k.header (whole_header k words _ b)) rest m.1 in
      let now : Known = with_resistors k (k.net.res ++ record { a = r.0; b = r.1; value = r.2 } ∷ []) in
      AtResistors now z (on (Netted k) (Behind (NetCaps k) (InResistors k)) (Behind (NetCaps now) (InResistors now)) words (word ∷ rest) b
      (λ ws c. on (NetCaps k) (InResistors k) (InResistors now) ws (word ∷ rest) c
      (λ last inside. section_more keys.Res (ResLine (res_scale k) k.map) [] k.net.res now.net.res last (word ∷ rest) inside (record { a = r.0; b = r.1; value = r.2; are = (m.0, r.3); then = refl })))) r.4
