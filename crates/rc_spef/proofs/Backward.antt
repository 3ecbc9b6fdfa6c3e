-- What the rows take is statements of the grammar.
use Rattle.std.proofs.Common.{◌≡◌, ◌∙◌, ℕ, Bool, true, List, [], ◌∷◌, ◌++◌, refl, ap, sym, subst, inl, inr, Some, None}
use Rattle.std.specs.Prelude.{◌⊎◌, slice_index}
use Rattle.rc_fixed.specs.declared.decimal.Fixed.{Fixed}
use Rattle.rc_keys.specs.Lexemes.{Lexeme}
use Rattle.rc_keys.specs.Statements.{at_line}
use Rattle.rc_keys.proofs.Phrasing.{On, Takes, Ends, Never}
use Rattle.rc_spef.specs.declared.value.End.{End}
use Rattle.rc_spef.specs.declared.value.Dir3.{Dir3}
use Rattle.rc_spef.specs.declared.state.Header.{Header}
use Rattle.rc_spef.specs.declared.state.State.{State}
use Rattle.rc_spef.specs.declared.state.ConnKind.TheVariants as conn_kinds
use Rattle.rc_spef.specs.declared.state.Scale.{Scale}
use Rattle.rc_spef.specs.declared.state.Row.TheVariants as rows
use Rattle.rc_spef.specs.declared.key.Key.{Key}
use Rattle.rc_spef.specs.declared.key.Key.TheVariants as keys
use Rattle.rc_spef.specs.Moves.{no_net}
use Rattle.rc_spef.specs.HeaderRows.{first_byte}
use Rattle.rc_spef.specs.Rows.{spef_turn}
use Rattle.rc_spef.specs.Parts.{Part, Says, Word, AnyWord, Quoted, AnyQuoted, Byte, TwoBytes, One, Value, Name, Reference, EndOf, Direction, Are}
use Rattle.rc_spef.specs.HeaderLines.{HeaderSays, is_remark, is_other_unit, cap_word, res_word}
use Rattle.rc_spef.specs.HeaderLines.HeaderSays.{Design, Remark, Divider, Delimiter, BusJoined, BusApart, OtherUnit, CapUnit, ResUnit}
use Rattle.rc_spef.specs.NameRows.{cell_kept}
use Rattle.rc_spef.proofs.Walks.{Known, Left, at}
use Rattle.rc_spef.proofs.NetTokens.{kind_of, with_conns, with_caps, with_resistors}
use Rattle.rc_spef.proofs.HeadTokens.{HeaderKey, value_row, with_header}
use Rattle.rc_spef.proofs.HeadTokens.HeaderKey.{design, date, vendor, program, version, flow, divider, delimiter, bus, time, induct, farad, ohm}
use Rattle.rc_spef.proofs.Turned.{begin_from, version_from, design_from, remark_from, flow_from, divider_from, delimiter_from, bus_from, bus_right_from, other_number_from, cap_number_from, res_number_from, other_unit_from, cap_unit_from, res_unit_from, name_word_from, port_direction_from, coordinate_from, second_from, load_from, confidence_from, cell_from, net_name_from, total_from, conn_end_from, node_end_from, conn_direction_from, cap_first_from, cap_second_from, cap_value_from, res_first_from, res_second_from, res_value_from}

module _ (line : ℕ) (t : State) where
  abbrev pub More : List Lexeme → State → Type 0
  More words s = Takes spef_turn line (Ends t) Never s words

  abbrev pub Last : List Lexeme → State → Type 0
  Last words s = Ends t s words

  abbrev pub Shut : List Lexeme → State → Type 0
  Shut words s = Never s words

  -- there is a token more
  abbrev pub Token : State → List Lexeme → Type 0
  Token s words = (word : Lexeme) × (rest : List Lexeme) × (words ≡ word ∷ rest) × On (More rest) (Last rest) (Shut rest) (spef_turn s (at_line line word))

  pub some : (s : State) (words : List Lexeme) → More words s → Token s words
  some s [] h = absurd h
  some s (word ∷ rest) h = (word, rest, refl, h)

  spell : (part : Part) (parts : List Part) (s : State) (words : List Lexeme) (p : Token s words) → Says part p.0 → Are parts p.1 → Are (part ∷ parts) words
  spell part parts s words p says more = subst (λ (ws : List Lexeme). Are (part ∷ parts) ws) (sym p.2) (says, more)

  no_more : (words : List Lexeme) → words ≡ [] → Are [] words
  no_more words is = subst (λ (ws : List Lexeme). Are [] ws) (sym is) tt

  module _ (k : Known) (z : Left) where
    -- ---- resistors and capacitances, behind their numbers

    pub resistor_rest : (scale : Scale) → k.header.res_scale ≡ Some scale → (words : List Lexeme) → More words (at rows.ResFirst k z) →
        (a b : End) × (value : Fixed) × Are (EndOf k.map a ∷ EndOf k.map b ∷ Value scale value ∷ []) words × (t ≡ at rows.Resistors (with_resistors k (k.net.res ++ record { a = a; b = b; value = value } ∷ [])) z)
    resistor_rest scale scaled words h =
        let p = some (at rows.ResFirst k z) words h in
        let a = res_first_from (More p.1) (Last p.1) (Shut p.1) k z line p.0 p.3 in
        let q = some (record (at rows.ResSecond k z) { first = a.0 }) p.1 a.2 in
        let b = res_second_from (More q.1) (Last q.1) (Shut q.1) k z a.0 line q.0 q.3 in
        let r = some (record (at rows.ResValue k z) { first = a.0; second = Some b.0 }) q.1 b.2 in
        let v = res_value_from (More r.1) (Last r.1) (Shut r.1) k z scale scaled a.0 b.0 line r.0 r.3 in
        (a.0, b.0, v.0, (spell (EndOf k.map a.0) (EndOf k.map b.0 ∷ Value scale v.0 ∷ []) _ _ p a.1 (spell (EndOf k.map b.0) (Value scale v.0 ∷ []) _ _ q b.1 (spell (Value scale v.0) ([]) _ _ r v.1 (no_more _ v.2.0)))), sym v.2.1)

    abbrev pub CapRest : Scale → List Lexeme → Type 0
    CapRest scale words =
        ((a : End) × (value : Fixed) × Are (EndOf k.map a ∷ Value scale value ∷ []) words × (t ≡ at rows.Caps (with_caps k (k.net.caps ++ record { a = a; b = None; value = value } ∷ [])) z))
        ⊎ ((a b : End) × (value : Fixed) × Are (EndOf k.map a ∷ EndOf k.map b ∷ Value scale value ∷ []) words × (t ≡ at rows.Caps (with_caps k (k.net.caps ++ record { a = a; b = Some b; value = value } ∷ [])) z))

    cap_by : (scale : Scale) → k.header.cap_scale ≡ Some scale → (words : List Lexeme) (p : Token (at rows.CapFirst k z) words) (a : End) → Says (EndOf k.map a) p.0 → (q : Token (record (at rows.CapSecond k z) { first = a }) p.1) →
        ((b : End) × Says (EndOf k.map b) q.0 × More q.1 (record (at rows.CapValue k z) { first = a; second = Some b }))
        ⊎ ((value : Fixed) × Says (Value scale value) q.0 × Last q.1 (at rows.Caps (with_caps k (k.net.caps ++ record { a = a; b = None; value = value } ∷ [])) z)) → CapRest scale words
    cap_by scale scaled words p a says q (inr v) = inl (a, v.0, (spell (EndOf k.map a) (Value scale v.0 ∷ []) _ _ p says (spell (Value scale v.0) ([]) _ _ q v.1 (no_more _ v.2.0))), sym v.2.1)
    cap_by scale scaled words p a says q (inl b) =
        let r = some (record (at rows.CapValue k z) { first = a; second = Some b.0 }) q.1 b.2 in
        let v = cap_value_from (More r.1) (Last r.1) (Shut r.1) k z scale scaled a b.0 line r.0 r.3 in
        inr (a, b.0, v.0, (spell (EndOf k.map a) (EndOf k.map b.0 ∷ Value scale v.0 ∷ []) _ _ p says (spell (EndOf k.map b.0) (Value scale v.0 ∷ []) _ _ q b.1 (spell (Value scale v.0) ([]) _ _ r v.1 (no_more _ v.2.0)))), sym v.2.1)

    pub cap_rest : (scale : Scale) → k.header.cap_scale ≡ Some scale → (words : List Lexeme) → More words (at rows.CapFirst k z) → CapRest scale words
    cap_rest scale scaled words h =
        let p = some (at rows.CapFirst k z) words h in
        let a = cap_first_from (More p.1) (Last p.1) (Shut p.1) k z line p.0 p.3 in
        let q = some (record (at rows.CapSecond k z) { first = a.0 }) p.1 a.2 in
        cap_by scale scaled words p a.0 a.1 q (cap_second_from (More q.1) (Last q.1) (Shut q.1) k z scale scaled a.0 line q.0 q.3)

    -- ---- connections, behind their keywords

    pub conn_rest : (port : Bool) (words : List Lexeme) → More words (at rows.ConnEnd k (record z { kind = kind_of port })) →
        (end : End) × (dir : Dir3) × Are (EndOf k.map end ∷ Direction dir ∷ []) words × (t ≡ at rows.ConnTail (with_conns k (k.net.conns ++ record { port = port; end = end; dir = dir; cell = None } ∷ [])) (record z { kind = kind_of port }))
    conn_rest port words h =
        let p = some (at rows.ConnEnd k (record z { kind = kind_of port })) words h in
        let a = conn_end_from (More p.1) (Last p.1) (Shut p.1) k z port line p.0 p.3 in
        let q = some (record (at rows.ConnDirection k (record z { kind = kind_of port })) { first = a.0 }) p.1 a.2 in
        let d = conn_direction_from (More q.1) (Last q.1) (Shut q.1) k z port a.0 line q.0 q.3 in
        (a.0, d.0, (spell (EndOf k.map a.0) (Direction d.0 ∷ []) _ _ p a.1 (spell (Direction d.0) ([]) _ _ q d.1 (no_more _ d.2.0))), sym d.2.1)

    pub node_rest : (words : List Lexeme) → More words (at rows.ConnEnd k (record z { kind = conn_kinds.Node })) → (end : End) × Are (EndOf k.map end ∷ []) words × (t ≡ at rows.NodeTail k (record z { kind = conn_kinds.Node }))
    node_rest words h =
        let p = some (at rows.ConnEnd k (record z { kind = conn_kinds.Node })) words h in
        let a = node_end_from (More p.1) (Last p.1) (Shut p.1) k z line p.0 p.3 in
        (a.0, (spell (EndOf k.map a.0) ([]) _ _ p a.1 (no_more _ a.2.0)), sym a.2.1)

    -- ---- attributes, behind their keywords

    pub at_rest : (words : List Lexeme) → More words (at rows.FirstCoordinate k z) → Are (AnyWord ∷ AnyWord ∷ []) words × (t ≡ at z.back k z)
    at_rest words h =
        let p = some (at rows.FirstCoordinate k z) words h in
        let x = coordinate_from (More p.1) (Last p.1) (Shut p.1) k z line p.0 p.3 in
        let q = some (at rows.SecondCoordinate k z) p.1 x.1 in
        let y = second_from (More q.1) (Last q.1) (Shut q.1) k z line q.0 q.3 in
        ((spell (AnyWord) (AnyWord ∷ []) _ _ p x.0 (spell (AnyWord) ([]) _ _ q y.0 (no_more _ y.1.0))), sym y.1.1)

    pub load_rest : (words : List Lexeme) → More words (at rows.Load k z) → Are (AnyWord ∷ []) words × (t ≡ at z.back k z)
    load_rest words h =
        let p = some (at rows.Load k z) words h in
        let x = load_from (More p.1) (Last p.1) (Shut p.1) k z line p.0 p.3 in
        ((spell (AnyWord) ([]) _ _ p x.0 (no_more _ x.1.0)), sym x.1.1)

    pub cell_rest : (words : List Lexeme) → More words (at rows.Cell k z) → (name : List ℕ) × Are (Name name ∷ []) words × (t ≡ record (cell_kept (at rows.Cell k z) name) { row = z.back })
    cell_rest words h =
        let p = some (at rows.Cell k z) words h in
        let x = cell_from (More p.1) (Last p.1) (Shut p.1) k z line p.0 p.3 in
        (x.0, (spell (Name x.0) ([]) _ _ p x.1 (no_more _ x.2.0)), sym x.2.1)

    -- ---- ports, entries of the map, and a net's first line

    pub port_rest : (words : List Lexeme) → More words (at rows.PortDirection k z) → (dir : Dir3) × Are (Direction dir ∷ []) words × (t ≡ at rows.PortTail (record k { ports = k.ports ++ record { name = z.name; dir = dir } ∷ [] }) z)
    port_rest words h =
        let p = some (at rows.PortDirection k z) words h in
        let d = port_direction_from (More p.1) (Last p.1) (Shut p.1) k z line p.0 p.3 in
        (d.0, (spell (Direction d.0) ([]) _ _ p d.1 (no_more _ d.2.0)), sym d.2.1)

    pub name_rest : (words : List Lexeme) → More words (at rows.Name k z) → (name : List ℕ) × Are (Name name ∷ []) words × (t ≡ at rows.Names (record k { names = k.names ++ name ∷ [] }) z)
    name_rest words h =
        let p = some (at rows.Name k z) words h in
        let n = name_word_from (More p.1) (Last p.1) (Shut p.1) k z line p.0 p.3 in
        (n.0, (spell (Name n.0) ([]) _ _ p n.1 (no_more _ n.2.0)), sym n.2.1)

    pub net_rest : (scale : Scale) → k.header.cap_scale ≡ Some scale → (words : List Lexeme) → More words (at rows.NetName k z) →
        (name : ℕ) × (total : Fixed) × Are (Reference k.map name ∷ Value scale total ∷ []) words × (t ≡ at rows.NetTail (record k { net = record no_net { name = name; total = total } }) z)
    net_rest scale scaled words h =
        let p = some (at rows.NetName k z) words h in
        let n = net_name_from (More p.1) (Last p.1) (Shut p.1) k z line p.0 p.3 in
        let named : Known = record k { net = record no_net { name = n.0 } } in
        let q = some (at rows.NetTotal named z) p.1 n.2 in
        let v = total_from (More q.1) (Last q.1) (Shut q.1) named z scale scaled line q.0 q.3 in
        (n.0, v.0, (spell (Reference k.map n.0) (Value scale v.0 ∷ []) _ _ p n.1 (spell (Value scale v.0) ([]) _ _ q v.1 (no_more _ v.2.0))), sym v.2.1)

    pub confidence_rest : (words : List Lexeme) → More words (at rows.Confidence k z) → Are (AnyWord ∷ []) words × (t ≡ at z.back k z)
    confidence_rest words h =
        let p = some (at rows.Confidence k z) words h in
        let x = confidence_from (More p.1) (Last p.1) (Shut p.1) k z line p.0 p.3 in
        ((spell (AnyWord) ([]) _ _ p x.0 (no_more _ x.1.0)), sym x.1.1)

  -- ---- the header

  -- what stands behind a word of the header, and what is left: the header, or a design flow that may go on
  abbrev pub HeaderRest : Key → Known → Left → List Lexeme → Type 0
  HeaderRest key k z words =
      ((after : Header) × HeaderSays key k.header words after × (t ≡ at rows.Header (with_header k after) z))
      ⊎ ((word : Lexeme) × (key ≡ keys.DesignFlow) × (words ≡ word ∷ []) × Says AnyQuoted word × (t ≡ at rows.Flows k z))

  module _ (k : Known) (z : Left) where
    remark_rest : (key : Key) → is_remark key ≡ true → (words : List Lexeme) → More words (at rows.Quoted k z) → HeaderRest key k z words
    remark_rest key is words h =
        let p = some (at rows.Quoted k z) words h in
        let q = remark_from (More p.1) (Last p.1) (Shut p.1) k z line p.0 p.3 in
        inl (k.header, Remark is (spell (AnyQuoted) ([]) _ _ p q.0 (no_more _ q.1.0)) refl, sym q.1.1)

    other_rest : (key : Key) → is_other_unit key ≡ true → (words : List Lexeme) → More words (at rows.OtherNumber k z) → HeaderRest key k z words
    other_rest key is words h =
        let p = some (at rows.OtherNumber k z) words h in
        let n = other_number_from (More p.1) (Last p.1) (Shut p.1) k z line p.0 p.3 in
        let q = some (at rows.OtherUnit k z) p.1 n.1 in
        let u = other_unit_from (More q.1) (Last q.1) (Shut q.1) k z line q.0 q.3 in
        inl (k.header, OtherUnit is (spell (One) (AnyWord ∷ []) _ _ p n.0 (spell (AnyWord) ([]) _ _ q u.0 (no_more _ u.1.0))) refl, sym u.1.1)

    bus_by : (words : List Lexeme) (p : Token (at rows.BusLeft k z) words) →
        (Says (TwoBytes (first_byte p.0) (slice_index p.0.bytes 1)) p.0 × Last p.1 (at rows.Header (with_header k (record k.header { bus_left = first_byte p.0; bus_right = slice_index p.0.bytes 1 })) z))
        ⊎ (Says (Byte (first_byte p.0)) p.0 × More p.1 (at rows.BusRight (with_header k (record k.header { bus_left = first_byte p.0 })) z)) → HeaderRest keys.BusDelimiter k z words
    bus_by words p (inl both) = inl (record k.header { bus_left = first_byte p.0; bus_right = slice_index p.0.bytes 1 }, BusJoined (first_byte p.0) (slice_index p.0.bytes 1) refl (spell (TwoBytes (first_byte p.0) (slice_index p.0.bytes 1)) ([]) _ _ p both.0 (no_more _ both.1.0)) refl, sym both.1.1)
    bus_by words p (inr one) =
        let mid : Known = with_header k (record k.header { bus_left = first_byte p.0 }) in
        let q = some (at rows.BusRight mid z) p.1 one.1 in
        let r = bus_right_from (More q.1) (Last q.1) (Shut q.1) mid z line q.0 q.3 in
        inl (record k.header { bus_left = first_byte p.0; bus_right = first_byte q.0 }, BusApart (first_byte p.0) (first_byte q.0) refl (spell (Byte (first_byte p.0)) (Byte (first_byte q.0) ∷ []) _ _ p one.0 (spell (Byte (first_byte q.0)) ([]) _ _ q r.0 (no_more _ r.1.0))) refl, sym r.1.1)

    pub header_rest : (key : Key) → HeaderKey key → (words : List Lexeme) → More words (at (value_row key) k z) → HeaderRest key k z words
    header_rest key design words h =
        let p = some (at rows.Design k z) words h in
        let q = design_from (More p.1) (Last p.1) (Shut p.1) k z line p.0 p.3 in
        inl (record k.header { design = Some p.0.bytes }, Design p.0.bytes refl (spell (Quoted p.0.bytes) ([]) _ _ p q.0 (no_more _ q.1.0)) refl, sym q.1.1)
    header_rest key date words h = remark_rest keys.Date refl words h
    header_rest key vendor words h = remark_rest keys.Vendor refl words h
    header_rest key program words h = remark_rest keys.Program refl words h
    header_rest key version words h = remark_rest keys.Version refl words h
    header_rest key flow words h =
        let p = some (at rows.Flow k z) words h in
        let q = flow_from (More p.1) (Last p.1) (Shut p.1) k z line p.0 p.3 in
        inr (p.0, refl, p.2 ∙ ap (λ (ws : List Lexeme). p.0 ∷ ws) q.1.0, q.0, sym q.1.1)
    header_rest key divider words h =
        let p = some (at rows.Divider k z) words h in
        let q = divider_from (More p.1) (Last p.1) (Shut p.1) k z line p.0 p.3 in
        inl (record k.header { divider = first_byte p.0 }, Divider (first_byte p.0) refl (spell (Byte (first_byte p.0)) ([]) _ _ p q.0 (no_more _ q.1.0)) refl, sym q.1.1)
    header_rest key delimiter words h =
        let p = some (at rows.Delimiter k z) words h in
        let q = delimiter_from (More p.1) (Last p.1) (Shut p.1) k z line p.0 p.3 in
        inl (k.header, Delimiter refl (spell (Word keys.Colon) ([]) _ _ p q.0 (no_more _ q.1.0)) refl, sym q.1.1)
    header_rest key bus words h =
        let p = some (at rows.BusLeft k z) words h in
        bus_by words p (bus_from (More p.1) (Last p.1) (Shut p.1) k z line p.0 p.3)
    header_rest key time words h = other_rest keys.TimeUnit refl words h
    header_rest key induct words h = other_rest keys.InductUnit refl words h
    header_rest key farad words h =
        let p = some (at rows.CapNumber k z) words h in
        let n = cap_number_from (More p.1) (Last p.1) (Shut p.1) k z line p.0 p.3 in
        let q = some (at rows.CapUnit k z) p.1 n.1 in
        let u = cap_unit_from (More q.1) (Last q.1) (Shut q.1) k z line q.0 q.3 in
        inl (record k.header { cap_scale = Some u.0 }, CapUnit u.0 refl (spell (One) (Word (cap_word u.0) ∷ []) _ _ p n.0 (spell (Word (cap_word u.0)) ([]) _ _ q u.1 (no_more _ u.2.0))) refl, sym u.2.1)
    header_rest key ohm words h =
        let p = some (at rows.ResNumber k z) words h in
        let n = res_number_from (More p.1) (Last p.1) (Shut p.1) k z line p.0 p.3 in
        let q = some (at rows.ResUnit k z) p.1 n.1 in
        let u = res_unit_from (More q.1) (Last q.1) (Shut q.1) k z line q.0 q.3 in
        inl (record k.header { res_scale = Some u.0 }, ResUnit u.0 refl (spell (One) (Word (res_word u.0) ∷ []) _ _ p n.0 (spell (Word (res_word u.0)) ([]) _ _ q u.1 (no_more _ u.2.0))) refl, sym u.2.1)

  pub front_rest : (k : Known) (z : Left) (words : List Lexeme) → More words (at rows.Begin k z) → Are (Word keys.Spef ∷ AnyQuoted ∷ []) words × (t ≡ at rows.Header k z)
  front_rest k z words h =
      let p = some (at rows.Begin k z) words h in
      let b = begin_from (More p.1) (Last p.1) (Shut p.1) k z line p.0 p.3 in
      let q = some (at rows.Version k z) p.1 b.1 in
      let v = version_from (More q.1) (Last q.1) (Shut q.1) k z line q.0 q.3 in
      ((spell (Word keys.Spef) (AnyQuoted ∷ []) _ _ p b.0 (spell (AnyQuoted) ([]) _ _ q v.0 (no_more _ v.1.0))), sym v.1.1)
