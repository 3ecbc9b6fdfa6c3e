-- A text that is read says its value.
use Rattle.std.proofs.Common.{◌≡◌, ◌∙◌, ℕ, Bool, true, false, List, [], ◌∷◌, ◌++◌, refl, ap, sym, subst, inl, inr, Option, Some, None, Ok, append_assoc, append-nil}
use Rattle.std.specs.Prelude.{◌↔◌, ◌&&◌, is_some}
use Rattle.std.specs.List.{FoldsTo}
use Rattle.rc_keys.specs.declared.token.Mode.TheVariants as mode
use Rattle.rc_keys.specs.Lexemes.{Lexeme, Remaining, words_of}
use Rattle.rc_keys.specs.Course.{Reading, Read, Refuses, Unfinished, reading}
use Rattle.rc_keys.specs.Statements.{first_line, IsEnd}
use Rattle.rc_keys.specs.Phrases.{joined}
use Rattle.rc_keys.proofs.Phrasing.{Step, reads_split, taken}
use Rattle.rc_keys.proofs.Readings.{accepts_statements}
use Rattle.rc_spef.specs.declared.value.Spef.{Spef}
use Rattle.rc_spef.specs.declared.state.State.{State}
use Rattle.rc_spef.specs.declared.state.ConnKind.TheVariants as conn_kinds
use Rattle.rc_spef.specs.declared.state.Row.{Row}
use Rattle.rc_spef.specs.declared.state.Row.TheVariants as rows
use Rattle.rc_spef.specs.Moves.{no_header, spef_begin, spef_made, or_nothing}
use Rattle.rc_spef.specs.HeaderRows.{is_complete}
use Rattle.rc_spef.specs.Rows.{spef_turn, spef_may_end, spef_outcome, outcome_of}
use Rattle.rc_spef.specs.Grammar.{IsSpef}
use Rattle.rc_spef.proofs.Walks.{Known, Left, at}
use Rattle.rc_spef.proofs.Files.{says_value}
use Rattle.rc_spef.proofs.NeverClosing.{never_closes}
use Rattle.rc_spef.proofs.Turned.{header_from, flows_from, names_from, ports_from, port_tail_from, nets_from, net_tail_from, sections_from, conns_from, conn_tail_from, node_tail_from, caps_from, resistors_from}
use Rattle.rc_spef.proofs.Backward.{More, Last, Shut, some, front_rest}
use Rattle.rc_spef.proofs.Parsed.{no_turn, flowed, only, Netted, cap_scale, res_scale, told_cap, told_res, Upto}
use Rattle.rc_spef.proofs.Parsed.Upto.{AtBegin, AtHeader, AtFlows, AtNames, AtPorts, AtPortTail, AtNets, AtNetTail, AtSections, AtConns, AtConnTail, AtNodeTail, AtCaps, AtResistors}
use Rattle.rc_spef.proofs.Stepping.{moved, net_starts, header_goes, flows_go, names_go, port_goes, port_tail_goes, whole_names, whole_ports, closed_ports, without_names, without_ports, without_nets}
use Rattle.rc_spef.proofs.NetSteps.{sections_go, net_tail_goes, conns_go, conn_tail_goes, node_tail_goes, caps_go, resistors_go}

-- ---- a statement further

begun : (line : ℕ) (t : State) (k : Known) (z : Left) (words all : List Lexeme) → k ≡ only no_header → words ≡ [] → More line t all (at rows.Begin k z) → Upto t (words ++ all)
begun line t k z words all fresh none h =
    let r = front_rest line t k z all h in
    subst (λ (ws : List Lexeme). Upto t (ws ++ all)) (sym none)
    (AtHeader no_header z (record { version = all; head = []; parts = sym (append-nil all); begins = r.0; tells = no_turn _ no_header no_header refl }) (r.1 ∙ ap (λ (k : Known). at rows.Header k z) fresh))

module _ (line : ℕ) (t : State) (words all : List Lexeme) where
  on_state : (s u : State) → s ≡ u → More line t all s → More line t all u
  on_state s u is h = subst (λ (state : State). More line t all state) is h

  pub step : (s : State) → Upto s words → More line t all s → Upto t (words ++ all)
  step s (AtBegin k z fresh none is) h = begun line t k z words all fresh none (on_state s (at rows.Begin k z) is h)
  step s (AtHeader header z hd is) h =
      let p = some line t (at rows.Header (only header) z) all (on_state s (at rows.Header (only header) z) is h) in
      moved line t words all p.0 p.1 p.2 (header_goes line t header z words p.0 p.1 hd (header_from (More line t p.1) (Last line t p.1) (Shut line t p.1) (only header) z line p.0 p.3))
  step s (AtFlows header z f is) h =
      let p = some line t (at rows.Flows (only header) z) all (on_state s (at rows.Flows (only header) z) is h) in
      moved line t words all p.0 p.1 p.2 (flows_go line t header z words p.0 p.1 f (flows_from (More line t p.1) (Last line t p.1) (Shut line t p.1) (only header) z line p.0 p.3))
  step s (AtNames k z ports nets b is) h =
      let p = some line t (at rows.Names k z) all (on_state s (at rows.Names k z) is h) in
      moved line t words all p.0 p.1 p.2 (names_go line t k z words p.0 p.1 ports nets b (names_from (More line t p.1) (Last line t p.1) (Shut line t p.1) k z line p.0 p.3))
  step s (AtPorts k z nets b is) h =
      let p = some line t (at rows.Ports k z) all (on_state s (at rows.Ports k z) is h) in
      moved line t words all p.0 p.1 p.2 (port_goes line t k z words p.0 p.1 nets b (ports_from (More line t p.1) (Last line t p.1) (Shut line t p.1) k z line p.0 p.3))
  step s (AtPortTail k z nets b is) h =
      let p = some line t (at rows.PortTail k z) all (on_state s (at rows.PortTail k z) is h) in
      moved line t words all p.0 p.1 p.2 (port_tail_goes line t k z words p.0 p.1 nets b (port_tail_from (More line t p.1) (Last line t p.1) (Shut line t p.1) k z line p.0 p.3))
  step s (AtNets k z n is) h =
      let p = some line t (at rows.Nets k z) all (on_state s (at rows.Nets k z) is h) in
      let r = nets_from (More line t p.1) (Last line t p.1) (Shut line t p.1) k z line p.0 p.3 in
      moved line t words all p.0 p.1 p.2 (net_starts line t k z words p.0 p.1 n r.0 r.1)
  step s (AtNetTail k z conns caps res b is) h =
      let p = some line t (at rows.NetTail k z) all (on_state s (at rows.NetTail k z) is h) in
      moved line t words all p.0 p.1 p.2 (net_tail_goes line t k z words p.0 p.1 conns caps res b (net_tail_from (More line t p.1) (Last line t p.1) (Shut line t p.1) k z line p.0 p.3))
  step s (AtSections k z conns caps res b is) h =
      let p = some line t (at rows.Sections k z) all (on_state s (at rows.Sections k z) is h) in
      moved line t words all p.0 p.1 p.2 (sections_go line t k z words p.0 p.1 conns caps res b (sections_from (More line t p.1) (Last line t p.1) (Shut line t p.1) k z line p.0 p.3))
  step s (AtConns k z caps res b is) h =
      let p = some line t (at rows.Conns k z) all (on_state s (at rows.Conns k z) is h) in
      moved line t words all p.0 p.1 p.2 (conns_go line t k z words p.0 p.1 caps res b (conns_from (More line t p.1) (Last line t p.1) (Shut line t p.1) k z line p.0 p.3))
  step s (AtConnTail k z caps res b is) h =
      let p = some line t (at rows.ConnTail k z) all (on_state s (at rows.ConnTail k z) is h) in
      moved line t words all p.0 p.1 p.2 (conn_tail_goes line t k z words p.0 p.1 caps res b (conn_tail_from (More line t p.1) (Last line t p.1) (Shut line t p.1) k z line p.0 p.3))
  step s (AtNodeTail k z caps res b is) h =
      let p = some line t (at rows.NodeTail k z) all (on_state s (at rows.NodeTail k z) is h) in
      moved line t words all p.0 p.1 p.2 (node_tail_goes line t k z words p.0 p.1 caps res b (node_tail_from (More line t p.1) (Last line t p.1) (Shut line t p.1) k z line p.0 p.3))
  step s (AtCaps k z res b is) h =
      let p = some line t (at rows.Caps k z) all (on_state s (at rows.Caps k z) is h) in
      moved line t words all p.0 p.1 p.2 (caps_go line t k z words p.0 p.1 res b (caps_from (More line t p.1) (Last line t p.1) (Shut line t p.1) k z line p.0 p.3))
  step s (AtResistors k z b is) h =
      let p = some line t (at rows.Resistors k z) all (on_state s (at rows.Resistors k z) is h) in
      moved line t words all p.0 p.1 p.2 (resistors_go line t k z words p.0 p.1 b (resistors_from (More line t p.1) (Last line t p.1) (Shut line t p.1) k z line p.0 p.3))

steps : (parts : List (List Lexeme)) (s t : State) (words : List Lexeme) → Upto s words → FoldsTo (Step spef_turn) s parts t → Upto t (words ++ joined parts)
steps [] s t words up same = subst (λ (state : State). Upto state (words ++ [])) same (subst (Upto s) (sym (append-nil words)) up)
steps (part ∷ parts) s t words up all =
    subst (Upto t) (append_assoc words part (joined parts))
    (steps parts all.0 t (words ++ part) (step (first_line part) all.0 words part s up (taken spef_turn (first_line part) s all.0 part all.1)) all.2)

-- ---- the end of a text

or_told : (design : Option (List ℕ)) (c r : Bool) → (is_some design && (c && r)) ≡ true → design ≡ Some (or_nothing design)
or_told (Some name) c r is = refl
or_told None c r is = absurd cc

says : (text : Remaining) (k : Known) (z : Left) (row : Row) → text.fault ≡ None → Netted k text.words → IsSpef text (spef_made (at row k z))
says text k z row whole n =
    let p = n.before in
    let m = p.before in
    let c = m.before in
    let h = c.0 in
    record {
      version = h.version;
      head = h.head;
      map = m.rest;
      ports = p.rest;
      blocks = n.rest;
      parts = n.parts ∙ ap (λ (ws : List Lexeme). ws ++ n.rest) (p.parts ∙ ap (λ (ws : List Lexeme). ws ++ p.rest) (m.parts ∙ ap (λ (ws : List Lexeme). ws ++ m.rest) h.parts))
          ∙ (append_assoc ((h.version ++ h.head) ++ m.rest) p.rest n.rest ∙ (append_assoc (h.version ++ h.head) m.rest (p.rest ++ n.rest) ∙ append_assoc h.version h.head (m.rest ++ (p.rest ++ n.rest))));
      whole = whole;
      begins = h.begins;
      header = k.header;
      cap_scale = cap_scale k;
      res_scale = res_scale k;
      tells = h.tells;
      design = or_told k.header.design (is_some k.header.cap_scale) (is_some k.header.res_scale) c.1;
      farads = told_cap k.header c.1;
      ohms = told_res k.header c.1;
      divider = refl;
      bus_left = refl;
      bus_right = refl;
      numbers = k.map;
      names = m.here;
      pins = p.here;
      nets = n.here;
    }

module _ (text : Remaining) (whole : text.fault ≡ None) where
  made_same : (s : State) (k : Known) (z : Left) (row : Row) → s ≡ at row k z → Netted k text.words → IsSpef text (spef_made s)
  made_same s k z row is n = subst (λ (state : State). IsSpef text (spef_made state)) (sym is) (says text k z row whole n)

  never : (s : State) (row : Row) (k : Known) (z : Left) → s ≡ at row k z → spef_may_end (at row k z) ≡ false → spef_may_end s ≡ true → ⊥
  never s row k z is no_end may = let e : true ≡ false = sym may ∙ ap spef_may_end is ∙ no_end in absurd cc

  ended : (s : State) → Upto s text.words → spef_may_end s ≡ true → IsSpef text (spef_made s)
  unfolding spef_may_end
  ended s (AtBegin k z fresh none is) may = absurd (never s rows.Begin k z is refl may)
  ended s (AtHeader header z hd is) may =
      let complete : is_complete header ≡ true = sym (ap spef_may_end is) ∙ may in
      made_same s (only header) z rows.Header is (without_nets (only header) text.words (without_ports (only header) text.words (without_names (only header) text.words (hd, complete) refl refl) refl) refl)
  ended s (AtFlows header z f is) may =
      let complete : is_complete header ≡ true = sym (ap spef_may_end is) ∙ may in
      made_same s (only header) z rows.Flows is (without_nets (only header) text.words (without_ports (only header) text.words (without_names (only header) text.words (flowed header text.words f, complete) refl refl) refl) refl)
  ended s (AtNames k z ports nets b is) may = made_same s k z rows.Names is (without_nets k text.words (without_ports k text.words (whole_names k text.words b) ports) nets)
  ended s (AtPorts k z nets b is) may = made_same s k z rows.Ports is (without_nets k text.words (whole_ports k text.words b) nets)
  ended s (AtPortTail k z nets b is) may = made_same s k z rows.PortTail is (without_nets k text.words (whole_ports k text.words (closed_ports k text.words b)) nets)
  ended s (AtNets k z n is) may = made_same s k z rows.Nets is n
  ended s (AtNetTail k z conns caps res b is) may = absurd (never s rows.NetTail k z is refl may)
  ended s (AtSections k z conns caps res b is) may = absurd (never s rows.Sections k z is refl may)
  ended s (AtConns k z caps res b is) may = absurd (never s rows.Conns k z is refl may)
  ended s (AtConnTail k z caps res b is) may = absurd (never s rows.ConnTail k z is refl may)
  ended s (AtNodeTail k z caps res b is) may = absurd (never s rows.NodeTail k z is refl may)
  ended s (AtCaps k z res b is) may = absurd (never s rows.Caps k z is refl may)
  ended s (AtResistors k z b is) may = absurd (never s rows.Resistors k z is refl may)

-- nothing is known of a text at its front
abbrev fresh_left : Left
fresh_left = record { back = rows.Begin; line = 1; name = 0; kind = conn_kinds.Node }

end_says : (text : Remaining) (mid after : State) (parts : List (List Lexeme)) (others : List Lexeme) → text.words ≡ joined parts ++ others → Upto mid (joined parts) → IsEnd spef_turn spef_may_end mid (record text { words = others }) after → IsSpef text (spef_made after)
end_says text mid after parts others split up (inr closes) = absurd (never_closes _ mid after others closes)
end_says text mid after parts others split up (inl end) =
    let all : text.words ≡ joined parts = split ∙ ap (λ (ws : List Lexeme). joined parts ++ ws) end.0 ∙ append-nil (joined parts) in
    subst (λ (state : State). IsSpef text (spef_made state)) (sym end.3) (ended text end.1 mid (subst (Upto mid) (sym all) up) end.2)

pub read_says : (text : Remaining) (after : State) → reading spef_turn spef_may_end spef_begin text ≡ Read after → IsSpef text (spef_made after)
read_says text after is =
    let read = (accepts_statements spef_turn spef_may_end spef_begin after text).0 is in
    let split = reads_split spef_turn spef_may_end read.0 spef_begin after text read.1 in
    let up : Upto split.0 (joined read.0) = steps read.0 spef_begin split.0 [] (AtBegin (only no_header) fresh_left refl refl refl) split.3 in
    end_says text split.0 after read.0 split.1 split.2 up split.4

outcome_says : (text : Remaining) (spef : Spef) (r : Reading State) → reading spef_turn spef_may_end spef_begin text ≡ r → outcome_of r ≡ Ok spef → IsSpef text spef
outcome_says text spef (Read after) is same = let e : spef_made after ≡ spef = cc in subst (IsSpef text) e (read_says text after is)
outcome_says text spef (Refuses refusal) is same = absurd cc
outcome_says text spef (Unfinished begun last) is same = absurd cc

said_by : (text : List ℕ) (spef : Spef) → spef_outcome text ≡ Ok spef → IsSpef (words_of mode.Spef text) spef
unfolding spef_outcome
said_by text spef is = outcome_says (words_of mode.Spef text) spef (reading spef_turn spef_may_end spef_begin (words_of mode.Spef text)) refl is

-- a text is read as a value exactly where it says it
pub accepts : (text : List ℕ) (spef : Spef) → (spef_outcome text ≡ Ok spef) ↔ IsSpef (words_of mode.Spef text) spef
accepts text spef = (said_by text spef, says_value text spef)
