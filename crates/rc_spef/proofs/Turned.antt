-- What a token says where a row takes it.
use Rattle.std.proofs.Common.{◌≡◌, ◌∙◌, ℕ, Bool, true, false, cond, List, [], ◌∷◌, ◌++◌, length, refl, ap, sym, inl, inr, arith, Option, Some, None, Result, Ok, Err}
use Rattle.std.specs.Prelude.{◌⊎◌, ◌==◌, ◌&&◌, ◌^◌, not, slice_index}
use Rattle.std.specs.List.{list_any}
use Rattle.std.specs.Str.{bytes_eq}
use Rattle.std.proofs.lemmas.Bool.{eqb-true}
use Rattle.rc_fixed.specs.declared.decimal.Fixed.{Fixed}
use Rattle.rc_fixed.specs.declared.fault.NumFault.{NumFault}
use Rattle.rc_fixed.specs.Numeral.{fixed_of}
use Rattle.rc_keys.specs.declared.code.Code.{Code}
use Rattle.rc_keys.specs.declared.code.Code.TheVariants.{E03, E04, E07, E16}
use Rattle.rc_keys.specs.declared.token.Kind.{Kind}
use Rattle.rc_keys.specs.declared.token.Kind.TheVariants as kinds
use Rattle.rc_keys.specs.Lexemes.{Lexeme}
use Rattle.rc_keys.specs.Course.{Turn, refuse}
use Rattle.rc_keys.specs.Statements.{at_line}
use Rattle.rc_keys.proofs.Phrasing.{On}
use Rattle.rc_spef.specs.declared.value.End.{End}
use Rattle.rc_spef.specs.declared.value.Dir3.{Dir3}
use Rattle.rc_spef.specs.declared.state.State.{State}
use Rattle.rc_spef.specs.declared.state.ConnKind.TheVariants as conn_kinds
use Rattle.rc_spef.specs.declared.state.Scale.{Scale}
use Rattle.rc_spef.specs.declared.state.Scale.TheVariants as scales
use Rattle.rc_spef.specs.declared.state.Row.{Row}
use Rattle.rc_spef.specs.declared.state.Row.TheVariants as rows
use Rattle.rc_spef.specs.declared.key.Key.{Key}
use Rattle.rc_spef.specs.declared.key.Key.TheVariants as keys
use Rattle.rc_spef.specs.Keys.{key_of, is_quoted, unexpected}
use Rattle.rc_spef.specs.References.{is_plain, is_entry, is_in_map, begins_star, end_of, name_of}
use Rattle.rc_spef.specs.Moves.{goes, done, told, end_read, name_read, value_read, shift_of, if_ok, direction_of, is_quoted_kind, no_net}
use Rattle.rc_spef.specs.HeaderRows.{begin_row, version_row, is_complete, is_part, nets_row, behind_names, behind_header, header_ends, header_word, header_row, design_row, quoted_row, flow_row, flows_row, has_bytes, first_byte, divider_row, delimiter_row, bus_left_row, bus_right_row, is_one, number_row, other_unit_row, cap_unit_row, res_unit_row}
use Rattle.rc_spef.specs.NameRows.{entry_number, entry_row, names_row, name_of_word, takes_name, name_row, takes_port, ports_row, takes_port_direction, port_direction_row, or_attribute, port_tail_row, first_coordinate_row, passed_row, cell_kept, takes_cell, cell_row}
use Rattle.rc_spef.specs.NetRows.{takes_net_name, net_name_row, takes_total, net_total_row, behind_resistors, behind_caps, behind_conns, sections_row, net_tail_row, conns_row, takes_conn_end, conn_end_row, takes_conn_direction, conn_direction_row, conn_tail_row, is_number, caps_row, takes_cap_first, cap_first_row, takes_cap_value, cap_value_row, takes_cap_second, is_reference, cap_second_row, resistors_row, takes_res_first, res_first_row, takes_res_second, res_second_row, takes_res_value, res_value_row}
use Rattle.rc_spef.specs.Rows.{spef_turn}
use Rattle.rc_spef.specs.Parts.{Says, AnyWord, Quoted, AnyQuoted, Byte, TwoBytes, One, Plain, Value, Entry, Name, Reference, EndOf, Direction}
use Rattle.rc_spef.specs.HeaderLines.{cap_word, res_word}
use Rattle.rc_spef.specs.NetLines.{conn_word}
use Rattle.rc_spef.proofs.Digits.{and_both, not_true}
use Rattle.rc_spef.proofs.Starts.{keyword_word, word_key}
use Rattle.rc_spef.proofs.Walks.{Known, Left, at}
use Rattle.rc_spef.proofs.NetTokens.{keyed, kind_of, with_conns, with_caps, with_resistors, ended}
use Rattle.rc_spef.proofs.HeadTokens.{HeaderKey, value_row, with_header, noted}
use Rattle.rc_spef.proofs.HeadTokens.HeaderKey.{design, date, vendor, program, version, flow, divider, delimiter, bus, time, induct, farad, ohm}
use Rattle.rc_spef.proofs.TailTokens.{back_to}

-- ---- what is read of a token

pub quoted_from : (word : Lexeme) → key_of word ≡ keys.Quoted → word.kind ≡ kinds.Quoted
quoted_from word is = by word.kind refl
  where
    by : (kind : Kind) → word.kind ≡ kind → kind ≡ kinds.Quoted
    by kinds.Quoted k = refl
    by kinds.Word k = absurd (let e : true ≡ false = sym (ap is_quoted is) ∙ word_key word k in cc)

pub word_from : (word : Lexeme) → is_quoted (key_of word) ≡ false → word.kind ≡ kinds.Word
word_from word is = keyword_word word (key_of word) refl is

pub end_from : (numbers : List ℕ) (line : ℕ) (word : Lexeme) (end : End) → end_read numbers (at_line line word) ≡ Ok end → Says (EndOf numbers end) word
unfolding end_read
end_from numbers line word end is = by word.kind refl (end_of numbers word.bytes) refl is
  where
    by : (kind : Kind) → word.kind ≡ kind → (r : Result End Code) → end_of numbers word.bytes ≡ r → cond (is_quoted_kind kind) (Err E03) (told (at_line line word) r) ≡ Ok end → (word.kind ≡ kinds.Word) × (end_of numbers word.bytes ≡ Ok end)
    by kinds.Quoted k r e h = absurd cc
    by kinds.Word k (Ok x) e h = (k, e ∙ h)
    by kinds.Word k (Err c) e h = absurd cc

pub name_from : (numbers : List ℕ) (line : ℕ) (word : Lexeme) (name : ℕ) → name_read numbers (at_line line word) ≡ Ok name → Says (Reference numbers name) word
unfolding name_read
name_from numbers line word name is = by word.kind refl (name_of numbers word.bytes) refl is
  where
    by : (kind : Kind) → word.kind ≡ kind → (r : Result ℕ Code) → name_of numbers word.bytes ≡ r → cond (is_quoted_kind kind) (Err E03) (told (at_line line word) r) ≡ Ok name → (word.kind ≡ kinds.Word) × (name_of numbers word.bytes ≡ Ok name)
    by kinds.Quoted k r e h = absurd cc
    by kinds.Word k (Ok x) e h = (k, e ∙ h)
    by kinds.Word k (Err c) e h = absurd cc

value_in : (scale : Scale) (line : ℕ) (word : Lexeme) (value : Fixed) → value_read (Some scale) (at_line line word) ≡ Some value → Says (Value scale value) word
unfolding value_read
value_in scale line word value is = by word.kind refl (fixed_of (shift_of scale) word.bytes) refl is
  where
    by : (kind : Kind) → word.kind ≡ kind → (r : Result Fixed NumFault) → fixed_of (shift_of scale) word.bytes ≡ r → cond (is_quoted_kind kind) None (if_ok r) ≡ Some value → (word.kind ≡ kinds.Word) × (fixed_of (shift_of scale) word.bytes ≡ Ok value)
    by kinds.Quoted k r e h = absurd cc
    by kinds.Word k (Ok x) e h = (k, e ∙ cc)
    by kinds.Word k (Err c) e h = absurd cc

pub value_from : (scale : Scale) (told_scale : Option Scale) (line : ℕ) (word : Lexeme) (value : Fixed) → told_scale ≡ Some scale → value_read told_scale (at_line line word) ≡ Some value → Says (Value scale value) word
value_from scale told_scale line word value scaled is = value_in scale line word value (ap (λ (o : Option Scale). value_read o (at_line line word)) (sym scaled) ∙ is)

pub direction_from : (line : ℕ) (word : Lexeme) (dir : Dir3) → direction_of (key_of (at_line line word)) ≡ Some dir → Says (Direction dir) word
direction_from line word dir is = ap direction_of (sym (keyed line word)) ∙ is

pub number_from : (line : ℕ) (word : Lexeme) → is_number (at_line line word) ≡ true → Says Plain word
number_from line word is = by word.kind refl is
  where
    by : (kind : Kind) → word.kind ≡ kind → (not (is_quoted_kind kind) && is_plain word.bytes) ≡ true → (word.kind ≡ kinds.Word) × (is_plain word.bytes ≡ true)
    by kinds.Word k h = (k, h)
    by kinds.Quoted k h = absurd cc

-- a name or a cell
pub named_from : (line : ℕ) (word : Lexeme) (name : List ℕ) → name_of_word (key_of (at_line line word)) (at_line line word) ≡ Ok name → Says (Name name) word
named_from line word name is = by (is_quoted (key_of word)) refl (begins_star word.bytes) refl (ap (λ (key : Key). name_of_word key (at_line line word)) (sym (keyed line word)) ∙ is)
  where
    by : (q : Bool) → is_quoted (key_of word) ≡ q → (s : Bool) → begins_star word.bytes ≡ s → cond q (Err E03) (cond s (Err (unexpected (key_of word) (at_line line word))) (Ok word.bytes)) ≡ Ok name →
        (word.kind ≡ kinds.Word) × (begins_star word.bytes ≡ false) × (word.bytes ≡ name)
    by true a s b h = absurd cc
    by false a true b h = absurd cc
    by false a false b h = (word_from word a, b, cc)

pub entry_from : (line : ℕ) (word : Lexeme) → (not (is_quoted (key_of (at_line line word))) && is_entry word.bytes) ≡ true → Says (Entry (entry_number (at_line line word))) word
entry_from line word is =
    let both = and_both (not (is_quoted (key_of (at_line line word)))) (is_entry word.bytes) is in
    (word_from word (ap is_quoted (sym (keyed line word)) ∙ not_true (is_quoted (key_of (at_line line word))) both.0), both.1, refl)

-- what a key tells of its token
pub of_key : (line : ℕ) (word : Lexeme) (key : Key) → key_of (at_line line word) ≡ key → key_of word ≡ key
of_key line word key is = sym (keyed line word) ∙ is

pub quoted_key_from : (line : ℕ) (word : Lexeme) → key_of (at_line line word) ≡ keys.Quoted → Says AnyQuoted word
quoted_key_from line word is = quoted_from word (of_key line word keys.Quoted is)

pub any_word_from : (line : ℕ) (word : Lexeme) → is_quoted (key_of (at_line line word)) ≡ false → Says AnyWord word
any_word_from line word is = word_from word (ap is_quoted (sym (keyed line word)) ∙ is)

bytes_one : (bytes : List ℕ) → (length bytes == 1) ≡ true → bytes ≡ slice_index bytes 0 ∷ []
bytes_one [] is = absurd cc
bytes_one (b ∷ []) is = refl
bytes_one (b ∷ c ∷ bs) is = let n : ℕ = length bs in let e : length (b ∷ c ∷ bs) ≡ 1 = eqb-true (length (b ∷ c ∷ bs)) 1 is in absurd (omega (arith, e))

bytes_two : (bytes : List ℕ) → (length bytes == 2) ≡ true → bytes ≡ slice_index bytes 0 ∷ slice_index bytes 1 ∷ []
bytes_two [] is = absurd cc
bytes_two (b ∷ []) is = absurd cc
bytes_two (b ∷ c ∷ []) is = refl
bytes_two (b ∷ c ∷ d ∷ bs) is = let e : length (b ∷ c ∷ d ∷ bs) ≡ 2 = eqb-true (length (b ∷ c ∷ d ∷ bs)) 2 is in absurd (omega (arith, e))

pub byte_from : (line : ℕ) (word : Lexeme) → has_bytes 1 (key_of (at_line line word)) (at_line line word) ≡ true → Says (Byte (first_byte word)) word
byte_from line word is =
    let both = and_both (not (is_quoted (key_of (at_line line word)))) (length word.bytes == 1) is in
    (any_word_from line word (not_true (is_quoted (key_of (at_line line word))) both.0), bytes_one word.bytes both.1)

pub bytes_from : (line : ℕ) (word : Lexeme) → has_bytes 2 (key_of (at_line line word)) (at_line line word) ≡ true → Says (TwoBytes (first_byte word) (slice_index word.bytes 1)) word
bytes_from line word is =
    let both = and_both (not (is_quoted (key_of (at_line line word)))) (length word.bytes == 2) is in
    (any_word_from line word (not_true (is_quoted (key_of (at_line line word))) both.0), bytes_two word.bytes both.1)

one_in : (line : ℕ) (word : Lexeme) → is_one (value_read None (at_line line word)) ≡ true → Says One word
unfolding value_read
one_in line word is = by word.kind refl (fixed_of 0 word.bytes) refl is
  where
    by : (kind : Kind) → word.kind ≡ kind → (r : Result Fixed NumFault) → fixed_of 0 word.bytes ≡ r → is_one (cond (is_quoted_kind kind) None (if_ok r)) ≡ true → (word.kind ≡ kinds.Word) × (fixed_of 0 word.bytes ≡ Ok (record { 0 = 1000000000000000 }))
    by kinds.Quoted k r e h = absurd cc
    by kinds.Word k (Err c) e h = absurd cc
    by kinds.Word k (Ok x) e h = let v : x.0 ≡ 10 ^ 15 = eqb-true x.0 (10 ^ 15) h in (k, e ∙ (λ i. Ok (record { 0 = v i })))

-- ---- rows

-- what may follow in a net
abbrev pub ResistorsBehind : (State → Type 0) → Key → Known → Left → Type 0
ResistorsBehind D key k z = (key ≡ keys.End) × D (at rows.Nets (ended k) z)

abbrev pub CapsBehind : (State → Type 0) → Key → Known → Left → Type 0
CapsBehind D key k z = ((key ≡ keys.Res) × D (at rows.Resistors k z)) ⊎ ResistorsBehind D key k z

abbrev pub ConnsBehind : (State → Type 0) → Key → Known → Left → Type 0
ConnsBehind D key k z = ((key ≡ keys.Cap) × D (at rows.Caps k z)) ⊎ CapsBehind D key k z

abbrev pub SectionsFrom : (State → Type 0) → Key → Known → Left → Type 0
SectionsFrom D key k z = ((key ≡ keys.Conn) × D (at rows.Conns k z)) ⊎ ConnsBehind D key k z

abbrev pub ConnFrom : (State → Type 0) → (State → Type 0) → ℕ → Key → Known → Left → Type 0
ConnFrom M D line key k z =
    ((port : Bool) × (key ≡ conn_word port) × M (at rows.ConnEnd k (record z { kind = kind_of port; line = line })))
    ⊎ (((key ≡ keys.InternalNode) × M (at rows.ConnEnd k (record z { kind = conn_kinds.Node; line = line }))) ⊎ ConnsBehind D key k z)

-- an attribute begins, or something else
abbrev pub AttributeFrom : (State → Type 0) → Row → Key → Known → Left → Type 0 → Type 0
AttributeFrom M row key k z Other =
    ((key ≡ keys.Coordinates) × M (at rows.FirstCoordinate k (back_to row z)))
    ⊎ (((key ≡ keys.Load) × M (at rows.Load k (back_to row z))) ⊎ (((key ≡ keys.DrivingCell) × M (at rows.Cell k (back_to row z))) ⊎ Other))

abbrev pub PortFrom : (State → Type 0) → ℕ → Lexeme → Known → Left → Type 0
PortFrom M line word k z =
    ((key_of word ≡ keys.DNet) × M (at rows.NetName k (record z { line = line }))) ⊎ ((name : ℕ) × Says (Reference k.map name) word × M (at rows.PortDirection k (record z { name = name; line = line })))

abbrev pub NamesBehind : (State → Type 0) → (State → Type 0) → ℕ → Key → Known → Left → Type 0
NamesBehind M D line key k z = ((key ≡ keys.Ports) × D (at rows.Ports k z)) ⊎ ((key ≡ keys.DNet) × M (at rows.NetName k (record z { line = line })))

abbrev pub HeaderBehind : (State → Type 0) → (State → Type 0) → ℕ → Key → Known → Left → Type 0
HeaderBehind M D line key k z = (is_complete k.header ≡ true) × (((key ≡ keys.NameMap) × D (at rows.Names k z)) ⊎ NamesBehind M D line key k z)

abbrev pub HeaderFrom : (State → Type 0) → (State → Type 0) → ℕ → Lexeme → Key → Known → Left → Type 0
HeaderFrom M D line word key k z =
    (HeaderKey key × (list_any (bytes_eq word.bytes) k.header.seen ≡ false) × M (at (value_row key) (with_header k (noted k.header word.bytes)) z)) ⊎ HeaderBehind M D line key k z

module _ (M D C : State → Type 0) (k : Known) (z : Left) where
  begin_by : (word : Lexeme) (key : Key) → On M D C (begin_row (at rows.Begin k z) key word) → (key ≡ keys.Spef) × M (at rows.Version k z)
  unfolding begin_row
  begin_by word keys.Spef h = (refl, h)
  begin_by word _ h = absurd h

  pub begin_from : (line : ℕ) (word : Lexeme) → On M D C (spef_turn (at rows.Begin k z) (at_line line word)) → (key_of word ≡ keys.Spef) × M (at rows.Version k z)
  unfolding spef_turn
  begin_from line word h = let r = begin_by (at_line line word) (key_of (at_line line word)) h in (of_key line word keys.Spef r.0, r.1)

  version_by : (word : Lexeme) (key : Key) → On M D C (version_row (at rows.Version k z) key word) → (key ≡ keys.Quoted) × D (at rows.Header k z)
  unfolding version_row
  version_by word keys.Quoted h = (refl, h)
  version_by word _ h = absurd h

  pub version_from : (line : ℕ) (word : Lexeme) → On M D C (spef_turn (at rows.Version k z) (at_line line word)) → Says AnyQuoted word × D (at rows.Header k z)
  unfolding spef_turn
  version_from line word h = let r = version_by (at_line line word) (key_of (at_line line word)) h in (quoted_key_from line word r.0, r.1)

  -- ---- the header

  word_by : (row next : Row) (word : Lexeme) (b : Bool) → list_any (bytes_eq word.bytes) k.header.seen ≡ b → On M D C (cond b (refuse E07 word) (goes next (at row (with_header k (noted k.header word.bytes)) z))) →
      (list_any (bytes_eq word.bytes) k.header.seen ≡ false) × M (at next (with_header k (noted k.header word.bytes)) z)
  word_by row next word true is h = absurd h
  word_by row next word false is h = (is, h)

  header_word_from : (row next : Row) (word : Lexeme) → On M D C (header_word next (at row k z) word) → (list_any (bytes_eq word.bytes) k.header.seen ≡ false) × M (at next (with_header k (noted k.header word.bytes)) z)
  unfolding header_word
  header_word_from row next word h = word_by row next word (list_any (bytes_eq word.bytes) k.header.seen) refl h

  behind_by : (row : Row) (word : Lexeme) (key : Key) → On M D C (behind_header (at row k z) key word) → (is_part key ≡ true) × (((key ≡ keys.NameMap) × D (at rows.Names k z)) ⊎ NamesBehind M D word.line key k z)
  unfolding behind_header behind_names nets_row
  behind_by row word keys.NameMap h = (refl, inl (refl, h))
  behind_by row word keys.Ports h = (refl, inr (inl (refl, h)))
  behind_by row word keys.DNet h = (refl, inr (inr (refl, h)))
  behind_by row word _ h = absurd h

  ends_by : (row : Row) (word : Lexeme) (key : Key) (part complete : Bool) → is_part key ≡ part → is_complete k.header ≡ complete → On M D C (cond (part && not complete) (refuse E16 word) (behind_header (at row k z) key word)) → HeaderBehind M D word.line key k z
  ends_by row word key true true p c h = (c, (behind_by row word key h).1)
  ends_by row word key true false p c h = absurd h
  ends_by row word key false complete p c h = absurd (let e : true ≡ false = sym (behind_by row word key h).0 ∙ p in cc)

  header_ends_from : (row : Row) (word : Lexeme) (key : Key) → On M D C (header_ends (at row k z) key word) → HeaderBehind M D word.line key k z
  unfolding header_ends
  header_ends_from row word key h = ends_by row word key (is_part key) (is_complete k.header) refl refl h

  header_by : (row : Row) (word : Lexeme) (key : Key) → On M D C (header_row (at row k z) key word) → HeaderFrom M D word.line word key k z
  unfolding header_row
  header_by row word keys.Design h = let r = header_word_from row rows.Design word h in inl (design, r.0, r.1)
  header_by row word keys.Date h = let r = header_word_from row rows.Quoted word h in inl (date, r.0, r.1)
  header_by row word keys.Vendor h = let r = header_word_from row rows.Quoted word h in inl (vendor, r.0, r.1)
  header_by row word keys.Program h = let r = header_word_from row rows.Quoted word h in inl (program, r.0, r.1)
  header_by row word keys.Version h = let r = header_word_from row rows.Quoted word h in inl (version, r.0, r.1)
  header_by row word keys.DesignFlow h = let r = header_word_from row rows.Flow word h in inl (flow, r.0, r.1)
  header_by row word keys.Divider h = let r = header_word_from row rows.Divider word h in inl (divider, r.0, r.1)
  header_by row word keys.Delimiter h = let r = header_word_from row rows.Delimiter word h in inl (delimiter, r.0, r.1)
  header_by row word keys.BusDelimiter h = let r = header_word_from row rows.BusLeft word h in inl (bus, r.0, r.1)
  header_by row word keys.TimeUnit h = let r = header_word_from row rows.OtherNumber word h in inl (time, r.0, r.1)
  header_by row word keys.InductUnit h = let r = header_word_from row rows.OtherNumber word h in inl (induct, r.0, r.1)
  header_by row word keys.CapUnit h = let r = header_word_from row rows.CapNumber word h in inl (farad, r.0, r.1)
  header_by row word keys.ResUnit h = let r = header_word_from row rows.ResNumber word h in inl (ohm, r.0, r.1)
  header_by row word key h = inr (header_ends_from row word key h)

  pub header_from : (line : ℕ) (word : Lexeme) → On M D C (spef_turn (at rows.Header k z) (at_line line word)) → HeaderFrom M D line word (key_of (at_line line word)) k z
  unfolding spef_turn
  header_from line word h = header_by rows.Header (at_line line word) (key_of (at_line line word)) h

  flows_by : (word : Lexeme) (key : Key) → On M D C (flows_row (at rows.Flows k z) key word) → ((key ≡ keys.Quoted) × D (at rows.Flows k z)) ⊎ HeaderFrom M D word.line word key k z
  unfolding flows_row
  flows_by word keys.Quoted h = inl (refl, h)
  flows_by word key h = inr (header_by rows.Flows word key h)

  pub flows_from : (line : ℕ) (word : Lexeme) → On M D C (spef_turn (at rows.Flows k z) (at_line line word)) → ((key_of (at_line line word) ≡ keys.Quoted) × D (at rows.Flows k z)) ⊎ HeaderFrom M D line word (key_of (at_line line word)) k z
  unfolding spef_turn
  flows_from line word h = flows_by (at_line line word) (key_of (at_line line word)) h

  -- ---- values of the header

  design_by : (word : Lexeme) (key : Key) → On M D C (design_row (at rows.Design k z) key word) → (key ≡ keys.Quoted) × D (at rows.Header (with_header k (record k.header { design = Some word.bytes })) z)
  unfolding design_row
  design_by word keys.Quoted h = (refl, h)
  design_by word _ h = absurd h

  pub design_from : (line : ℕ) (word : Lexeme) → On M D C (spef_turn (at rows.Design k z) (at_line line word)) → Says (Quoted word.bytes) word × D (at rows.Header (with_header k (record k.header { design = Some word.bytes })) z)
  unfolding spef_turn
  design_from line word h = let r = design_by (at_line line word) (key_of (at_line line word)) h in ((quoted_key_from line word r.0, refl), r.1)

  remark_by : (word : Lexeme) (key : Key) → On M D C (quoted_row (at rows.Quoted k z) key word) → (key ≡ keys.Quoted) × D (at rows.Header k z)
  unfolding quoted_row
  remark_by word keys.Quoted h = (refl, h)
  remark_by word _ h = absurd h

  pub remark_from : (line : ℕ) (word : Lexeme) → On M D C (spef_turn (at rows.Quoted k z) (at_line line word)) → Says AnyQuoted word × D (at rows.Header k z)
  unfolding spef_turn
  remark_from line word h = let r = remark_by (at_line line word) (key_of (at_line line word)) h in (quoted_key_from line word r.0, r.1)

  flow_by : (word : Lexeme) (key : Key) → On M D C (flow_row (at rows.Flow k z) key word) → (key ≡ keys.Quoted) × D (at rows.Flows k z)
  unfolding flow_row
  flow_by word keys.Quoted h = (refl, h)
  flow_by word _ h = absurd h

  pub flow_from : (line : ℕ) (word : Lexeme) → On M D C (spef_turn (at rows.Flow k z) (at_line line word)) → Says AnyQuoted word × D (at rows.Flows k z)
  unfolding spef_turn
  flow_from line word h = let r = flow_by (at_line line word) (key_of (at_line line word)) h in (quoted_key_from line word r.0, r.1)

  if_only : (t : Turn State) (word : Lexeme) (code : Code) (b : Bool) → On M D C (cond b t (refuse code word)) → (b ≡ true) × On M D C t
  if_only t word code true h = (refl, h)
  if_only t word code false h = absurd h

  pub divider_from : (line : ℕ) (word : Lexeme) → On M D C (spef_turn (at rows.Divider k z) (at_line line word)) → Says (Byte (first_byte word)) word × D (at rows.Header (with_header k (record k.header { divider = first_byte word })) z)
  unfolding spef_turn divider_row
  divider_from line word h = let r = if_only (done rows.Header (at rows.Divider (with_header k (record k.header { divider = first_byte word })) z)) (at_line line word) E03 (has_bytes 1 (key_of (at_line line word)) (at_line line word)) h in (byte_from line word r.0, r.1)

  delimiter_by : (word : Lexeme) (key : Key) → On M D C (delimiter_row (at rows.Delimiter k z) key word) → (key ≡ keys.Colon) × D (at rows.Header k z)
  unfolding delimiter_row
  delimiter_by word keys.Colon h = (refl, h)
  delimiter_by word _ h = absurd h

  pub delimiter_from : (line : ℕ) (word : Lexeme) → On M D C (spef_turn (at rows.Delimiter k z) (at_line line word)) → (key_of word ≡ keys.Colon) × D (at rows.Header k z)
  unfolding spef_turn
  delimiter_from line word h = let r = delimiter_by (at_line line word) (key_of (at_line line word)) h in (of_key line word keys.Colon r.0, r.1)

  abbrev pub BusFrom : Lexeme → Type 0
  BusFrom word =
      (Says (TwoBytes (first_byte word) (slice_index word.bytes 1)) word × D (at rows.Header (with_header k (record k.header { bus_left = first_byte word; bus_right = slice_index word.bytes 1 })) z))
      ⊎ (Says (Byte (first_byte word)) word × M (at rows.BusRight (with_header k (record k.header { bus_left = first_byte word })) z))

  bus_by : (line : ℕ) (word : Lexeme) (a b : Bool) → has_bytes 2 (key_of (at_line line word)) (at_line line word) ≡ a → has_bytes 1 (key_of (at_line line word)) (at_line line word) ≡ b →
      On M D C (cond a (done rows.Header (at rows.BusLeft (with_header k (record k.header { bus_left = first_byte word; bus_right = slice_index word.bytes 1 })) z)) (cond b (goes rows.BusRight (at rows.BusLeft (with_header k (record k.header { bus_left = first_byte word })) z)) (refuse E03 (at_line line word)))) → BusFrom word
  bus_by line word true b two one h = inl (bytes_from line word two, h)
  bus_by line word false true two one h = inr (byte_from line word one, h)
  bus_by line word false false two one h = absurd h

  pub bus_from : (line : ℕ) (word : Lexeme) → On M D C (spef_turn (at rows.BusLeft k z) (at_line line word)) → BusFrom word
  unfolding spef_turn bus_left_row
  bus_from line word h = bus_by line word (has_bytes 2 (key_of (at_line line word)) (at_line line word)) (has_bytes 1 (key_of (at_line line word)) (at_line line word)) refl refl h

  pub bus_right_from : (line : ℕ) (word : Lexeme) → On M D C (spef_turn (at rows.BusRight k z) (at_line line word)) → Says (Byte (first_byte word)) word × D (at rows.Header (with_header k (record k.header { bus_right = first_byte word })) z)
  unfolding spef_turn bus_right_row
  bus_right_from line word h = let r = if_only (done rows.Header (at rows.BusRight (with_header k (record k.header { bus_right = first_byte word })) z)) (at_line line word) E03 (has_bytes 1 (key_of (at_line line word)) (at_line line word)) h in (byte_from line word r.0, r.1)

  number_by : (row next : Row) (line : ℕ) (word : Lexeme) → On M D C (number_row next (at row k z) (at_line line word)) → Says One word × M (at next k z)
  unfolding number_row
  number_by row next line word h = let r = if_only (goes next (at row k z)) (at_line line word) E04 (is_one (value_read None (at_line line word))) h in (one_in line word r.0, r.1)

  pub other_number_from : (line : ℕ) (word : Lexeme) → On M D C (spef_turn (at rows.OtherNumber k z) (at_line line word)) → Says One word × M (at rows.OtherUnit k z)
  unfolding spef_turn
  other_number_from line word h = number_by rows.OtherNumber rows.OtherUnit line word h

  pub cap_number_from : (line : ℕ) (word : Lexeme) → On M D C (spef_turn (at rows.CapNumber k z) (at_line line word)) → Says One word × M (at rows.CapUnit k z)
  unfolding spef_turn
  cap_number_from line word h = number_by rows.CapNumber rows.CapUnit line word h

  pub res_number_from : (line : ℕ) (word : Lexeme) → On M D C (spef_turn (at rows.ResNumber k z) (at_line line word)) → Says One word × M (at rows.ResUnit k z)
  unfolding spef_turn
  res_number_from line word h = number_by rows.ResNumber rows.ResUnit line word h

  other_unit_by : (word : Lexeme) (key : Key) → On M D C (other_unit_row (at rows.OtherUnit k z) key word) → (is_quoted key ≡ false) × D (at rows.Header k z)
  unfolding other_unit_row
  other_unit_by word keys.Quoted h = absurd h
  other_unit_by word _ h = (refl, h)

  pub other_unit_from : (line : ℕ) (word : Lexeme) → On M D C (spef_turn (at rows.OtherUnit k z) (at_line line word)) → Says AnyWord word × D (at rows.Header k z)
  unfolding spef_turn
  other_unit_from line word h = let r = other_unit_by (at_line line word) (key_of (at_line line word)) h in (any_word_from line word r.0, r.1)

  cap_unit_by : (word : Lexeme) (key : Key) → On M D C (cap_unit_row (at rows.CapUnit k z) key word) → (scale : Scale) × (key ≡ cap_word scale) × D (at rows.Header (with_header k (record k.header { cap_scale = Some scale })) z)
  unfolding cap_unit_row
  cap_unit_by word keys.FemtoFarad h = (scales.One, refl, h)
  cap_unit_by word keys.PicoFarad h = (scales.Thousand, refl, h)
  cap_unit_by word _ h = absurd h

  pub cap_unit_from : (line : ℕ) (word : Lexeme) → On M D C (spef_turn (at rows.CapUnit k z) (at_line line word)) → (scale : Scale) × (key_of word ≡ cap_word scale) × D (at rows.Header (with_header k (record k.header { cap_scale = Some scale })) z)
  unfolding spef_turn
  cap_unit_from line word h = let r = cap_unit_by (at_line line word) (key_of (at_line line word)) h in (r.0, of_key line word (cap_word r.0) r.1, r.2)

  res_unit_by : (word : Lexeme) (key : Key) → On M D C (res_unit_row (at rows.ResUnit k z) key word) → (scale : Scale) × (key ≡ res_word scale) × D (at rows.Header (with_header k (record k.header { res_scale = Some scale })) z)
  unfolding res_unit_row
  res_unit_by word keys.Ohm h = (scales.One, refl, h)
  res_unit_by word keys.KiloOhm h = (scales.Thousand, refl, h)
  res_unit_by word _ h = absurd h

  pub res_unit_from : (line : ℕ) (word : Lexeme) → On M D C (spef_turn (at rows.ResUnit k z) (at_line line word)) → (scale : Scale) × (key_of word ≡ res_word scale) × D (at rows.Header (with_header k (record k.header { res_scale = Some scale })) z)
  unfolding spef_turn
  res_unit_from line word h = let r = res_unit_by (at_line line word) (key_of (at_line line word)) h in (r.0, of_key line word (res_word r.0) r.1, r.2)

  -- ---- the map of names

  abbrev pub EntryFrom : ℕ → Lexeme → Type 0
  EntryFrom line word =
      ((number : ℕ) × Says (Entry number) word × (is_in_map k.map number ≡ false) × M (at rows.Name (record k { map = k.map ++ number ∷ [] }) z)) ⊎ NamesBehind M D line (key_of (at_line line word)) k z

  names_behind_by : (word : Lexeme) (key : Key) → On M D C (behind_names (at rows.Names k z) key word) → NamesBehind M D word.line key k z
  unfolding behind_names nets_row
  names_behind_by word keys.Ports h = inl (refl, h)
  names_behind_by word keys.DNet h = inr (refl, h)
  names_behind_by word _ h = absurd h

  new_by : (word : Lexeme) (b : Bool) → is_in_map k.map (entry_number word) ≡ b → On M D C (cond b (refuse E07 word) (goes rows.Name (record (at rows.Names k z) { map = k.map ++ entry_number word ∷ [] }))) →
      (is_in_map k.map (entry_number word) ≡ false) × M (at rows.Name (record k { map = k.map ++ entry_number word ∷ [] }) z)
  new_by word true is h = absurd h
  new_by word false is h = (is, h)

  new_entry : (word : Lexeme) → On M D C (entry_row (at rows.Names k z) word) → (is_in_map k.map (entry_number word) ≡ false) × M (at rows.Name (record k { map = k.map ++ entry_number word ∷ [] }) z)
  unfolding entry_row
  new_entry word h = new_by word (is_in_map k.map (entry_number word)) refl h

  names_by : (line : ℕ) (word : Lexeme) (b : Bool) → (not (is_quoted (key_of (at_line line word))) && is_entry word.bytes) ≡ b → On M D C (cond b (entry_row (at rows.Names k z) (at_line line word)) (behind_names (at rows.Names k z) (key_of (at_line line word)) (at_line line word))) → EntryFrom line word
  names_by line word true is h = let r = new_entry (at_line line word) h in inl (entry_number (at_line line word), entry_from line word is, r.0, r.1)
  names_by line word false is h = inr (names_behind_by (at_line line word) (key_of (at_line line word)) h)

  pub names_from : (line : ℕ) (word : Lexeme) → On M D C (spef_turn (at rows.Names k z) (at_line line word)) → EntryFrom line word
  unfolding spef_turn names_row
  names_from line word h = names_by line word (not (is_quoted (key_of (at_line line word))) && is_entry word.bytes) refl h

  abbrev pub NameFrom : Lexeme → Type 0
  NameFrom word = (name : List ℕ) × Says (Name name) word × D (at rows.Names (record k { names = k.names ++ name ∷ [] }) z)

  name_by : (line : ℕ) (word : Lexeme) (r : Result (List ℕ) Code) → name_of_word (key_of (at_line line word)) (at_line line word) ≡ r → On M D C (takes_name (at rows.Name k z) (at_line line word) r) → NameFrom word
  name_by line word (Ok name) is h = (name, named_from line word name is, h)
  name_by line word (Err code) is h = absurd h

  pub name_word_from : (line : ℕ) (word : Lexeme) → On M D C (spef_turn (at rows.Name k z) (at_line line word)) → NameFrom word
  unfolding spef_turn name_row
  name_word_from line word h = name_by line word (name_of_word (key_of (at_line line word)) (at_line line word)) refl h

  -- ---- ports

  port_by : (row : Row) (line : ℕ) (word : Lexeme) (r : Result ℕ Code) → name_read k.map (at_line line word) ≡ r → On M D C (takes_port (at row k z) (at_line line word) r) → (name : ℕ) × Says (Reference k.map name) word × M (at rows.PortDirection k (record z { name = name; line = line }))
  port_by row line word (Ok name) is h = (name, name_from k.map line word name is, h)
  port_by row line word (Err code) is h = absurd h

  net_or_port : (row : Row) (line : ℕ) (word : Lexeme) (key : Key) → key_of (at_line line word) ≡ key → On M D C (ports_row (at row k z) key (at_line line word)) → PortFrom M line word k z
  unfolding ports_row
  net_or_port row line word keys.DNet is h = inl (of_key line word keys.DNet is, h)
  net_or_port row line word _ is h = inr (port_by row line word (name_read k.map (at_line line word)) refl h)

  pub ports_from : (line : ℕ) (word : Lexeme) → On M D C (spef_turn (at rows.Ports k z) (at_line line word)) → PortFrom M line word k z
  unfolding spef_turn
  ports_from line word h = net_or_port rows.Ports line word (key_of (at_line line word)) refl h

  pub attribute_by : (row : Row) (key : Key) (other : Turn State) → On M D C (or_attribute (at row k z) key other) → AttributeFrom M row key k z (On M D C other)
  attribute_by row keys.Coordinates other h = inl (refl, h)
  attribute_by row keys.Load other h = inr (inl (refl, h))
  attribute_by row keys.DrivingCell other h = inr (inr (inl (refl, h)))
  attribute_by row keys.Slews other h = absurd h
  attribute_by row _ other h = inr (inr (inr h))

  port_tail_by : (line : ℕ) (word : Lexeme) → AttributeFrom M rows.PortTail (key_of (at_line line word)) k z (On M D C (ports_row (at rows.PortTail k z) (key_of (at_line line word)) (at_line line word))) → AttributeFrom M rows.PortTail (key_of (at_line line word)) k z (PortFrom M line word k z)
  port_tail_by line word (inl h) = inl h
  port_tail_by line word (inr (inl h)) = inr (inl h)
  port_tail_by line word (inr (inr (inl h))) = inr (inr (inl h))
  port_tail_by line word (inr (inr (inr h))) = inr (inr (inr (net_or_port rows.PortTail line word (key_of (at_line line word)) refl h)))

  pub port_tail_from : (line : ℕ) (word : Lexeme) → On M D C (spef_turn (at rows.PortTail k z) (at_line line word)) → AttributeFrom M rows.PortTail (key_of (at_line line word)) k z (PortFrom M line word k z)
  unfolding spef_turn port_tail_row
  port_tail_from line word h = port_tail_by line word (attribute_by rows.PortTail (key_of (at_line line word)) (ports_row (at rows.PortTail k z) (key_of (at_line line word)) (at_line line word)) h)

  port_direction_by : (line : ℕ) (word : Lexeme) (r : Option Dir3) → direction_of (key_of (at_line line word)) ≡ r → On M D C (takes_port_direction (at rows.PortDirection k z) (key_of (at_line line word)) (at_line line word) r) →
      (dir : Dir3) × Says (Direction dir) word × D (at rows.PortTail (record k { ports = k.ports ++ record { name = z.name; dir = dir } ∷ [] }) z)
  port_direction_by line word (Some dir) is h = (dir, direction_from line word dir is, h)
  port_direction_by line word None is h = absurd h

  pub port_direction_from : (line : ℕ) (word : Lexeme) → On M D C (spef_turn (at rows.PortDirection k z) (at_line line word)) →
      (dir : Dir3) × Says (Direction dir) word × D (at rows.PortTail (record k { ports = k.ports ++ record { name = z.name; dir = dir } ∷ [] }) z)
  unfolding spef_turn port_direction_row
  port_direction_from line word h = port_direction_by line word (direction_of (key_of (at_line line word))) refl h

  -- ---- attributes

  coordinate_by : (key : Key) → On M D C (first_coordinate_row (at rows.FirstCoordinate k z) key) → (is_quoted key ≡ false) × M (at rows.SecondCoordinate k z)
  unfolding first_coordinate_row
  coordinate_by keys.Quoted h = absurd h
  coordinate_by _ h = (refl, h)

  pub coordinate_from : (line : ℕ) (word : Lexeme) → On M D C (spef_turn (at rows.FirstCoordinate k z) (at_line line word)) → Says AnyWord word × M (at rows.SecondCoordinate k z)
  unfolding spef_turn
  coordinate_from line word h = let r = coordinate_by (key_of (at_line line word)) h in (any_word_from line word r.0, r.1)

  passed_by : (row : Row) (key : Key) → On M D C (passed_row (at row k z) key) → (is_quoted key ≡ false) × D (at z.back k z)
  unfolding passed_row
  passed_by row keys.Quoted h = absurd h
  passed_by row _ h = (refl, h)

  pub second_from : (line : ℕ) (word : Lexeme) → On M D C (spef_turn (at rows.SecondCoordinate k z) (at_line line word)) → Says AnyWord word × D (at z.back k z)
  unfolding spef_turn
  second_from line word h = let r = passed_by rows.SecondCoordinate (key_of (at_line line word)) h in (any_word_from line word r.0, r.1)

  pub load_from : (line : ℕ) (word : Lexeme) → On M D C (spef_turn (at rows.Load k z) (at_line line word)) → Says AnyWord word × D (at z.back k z)
  unfolding spef_turn
  load_from line word h = let r = passed_by rows.Load (key_of (at_line line word)) h in (any_word_from line word r.0, r.1)

  pub confidence_from : (line : ℕ) (word : Lexeme) → On M D C (spef_turn (at rows.Confidence k z) (at_line line word)) → Says AnyWord word × D (at z.back k z)
  unfolding spef_turn
  confidence_from line word h = let r = passed_by rows.Confidence (key_of (at_line line word)) h in (any_word_from line word r.0, r.1)

  cell_by : (line : ℕ) (word : Lexeme) (r : Result (List ℕ) Code) → name_of_word (key_of (at_line line word)) (at_line line word) ≡ r → On M D C (takes_cell (at rows.Cell k z) r) → (name : List ℕ) × Says (Name name) word × D (record (cell_kept (at rows.Cell k z) name) { row = z.back })
  cell_by line word (Ok name) is h = (name, named_from line word name is, h)
  cell_by line word (Err code) is h = absurd h

  pub cell_from : (line : ℕ) (word : Lexeme) → On M D C (spef_turn (at rows.Cell k z) (at_line line word)) → (name : List ℕ) × Says (Name name) word × D (record (cell_kept (at rows.Cell k z) name) { row = z.back })
  unfolding spef_turn cell_row
  cell_from line word h = cell_by line word (name_of_word (key_of (at_line line word)) (at_line line word)) refl h

  -- ---- nets

  nets_by : (word : Lexeme) (key : Key) → On M D C (nets_row (at rows.Nets k z) key word) → (key ≡ keys.DNet) × M (at rows.NetName k (record z { line = word.line }))
  unfolding nets_row
  nets_by word keys.DNet h = (refl, h)
  nets_by word _ h = absurd h

  pub nets_from : (line : ℕ) (word : Lexeme) → On M D C (spef_turn (at rows.Nets k z) (at_line line word)) → (key_of word ≡ keys.DNet) × M (at rows.NetName k (record z { line = line }))
  unfolding spef_turn
  nets_from line word h = let r = nets_by (at_line line word) (key_of (at_line line word)) h in (of_key line word keys.DNet r.0, r.1)

  net_name_by : (line : ℕ) (word : Lexeme) (r : Result ℕ Code) → name_read k.map (at_line line word) ≡ r → On M D C (takes_net_name (at rows.NetName k z) (at_line line word) r) →
      (name : ℕ) × Says (Reference k.map name) word × M (at rows.NetTotal (record k { net = record no_net { name = name } }) z)
  net_name_by line word (Ok name) is h = (name, name_from k.map line word name is, h)
  net_name_by line word (Err code) is h = absurd h

  pub net_name_from : (line : ℕ) (word : Lexeme) → On M D C (spef_turn (at rows.NetName k z) (at_line line word)) → (name : ℕ) × Says (Reference k.map name) word × M (at rows.NetTotal (record k { net = record no_net { name = name } }) z)
  unfolding spef_turn net_name_row
  net_name_from line word h = net_name_by line word (name_read k.map (at_line line word)) refl h

  total_by : (scale : Scale) → k.header.cap_scale ≡ Some scale → (line : ℕ) (word : Lexeme) (r : Option Fixed) → value_read k.header.cap_scale (at_line line word) ≡ r → On M D C (takes_total (at rows.NetTotal k z) (at_line line word) r) →
      (total : Fixed) × Says (Value scale total) word × D (at rows.NetTail (record k { net = record k.net { total = total } }) z)
  total_by scale scaled line word (Some total) is h = (total, value_from scale k.header.cap_scale line word total scaled is, h)
  total_by scale scaled line word None is h = absurd h

  pub total_from : (scale : Scale) → k.header.cap_scale ≡ Some scale → (line : ℕ) (word : Lexeme) → On M D C (spef_turn (at rows.NetTotal k z) (at_line line word)) →
      (total : Fixed) × Says (Value scale total) word × D (at rows.NetTail (record k { net = record k.net { total = total } }) z)
  unfolding spef_turn net_total_row
  total_from scale scaled line word h = total_by scale scaled line word (value_read k.header.cap_scale (at_line line word)) refl h

  resistors_behind_by : (row : Row) (word : Lexeme) (key : Key) → On M D C (behind_resistors (at row k z) key word) → ResistorsBehind D key k z
  unfolding behind_resistors
  resistors_behind_by row word keys.End h = (refl, h)
  resistors_behind_by row word _ h = absurd h

  caps_behind_by : (row : Row) (word : Lexeme) (key : Key) → On M D C (behind_caps (at row k z) key word) → CapsBehind D key k z
  unfolding behind_caps
  caps_behind_by row word keys.Res h = inl (refl, h)
  caps_behind_by row word key h = inr (resistors_behind_by row word key h)

  conns_behind_by : (row : Row) (word : Lexeme) (key : Key) → On M D C (behind_conns (at row k z) key word) → ConnsBehind D key k z
  unfolding behind_conns
  conns_behind_by row word keys.Cap h = inl (refl, h)
  conns_behind_by row word key h = inr (caps_behind_by row word key h)

  sections_by : (row : Row) (word : Lexeme) (key : Key) → On M D C (sections_row (at row k z) key word) → SectionsFrom D key k z
  unfolding sections_row
  sections_by row word keys.Conn h = inl (refl, h)
  sections_by row word key h = inr (conns_behind_by row word key h)

  pub sections_from : (line : ℕ) (word : Lexeme) → On M D C (spef_turn (at rows.Sections k z) (at_line line word)) → SectionsFrom D (key_of (at_line line word)) k z
  unfolding spef_turn
  sections_from line word h = sections_by rows.Sections (at_line line word) (key_of (at_line line word)) h

  net_tail_by : (word : Lexeme) (key : Key) → On M D C (net_tail_row (at rows.NetTail k z) key word) → ((key ≡ keys.Confidence) × M (at rows.Confidence k (record z { back = rows.Sections }))) ⊎ SectionsFrom D key k z
  unfolding net_tail_row
  net_tail_by word keys.Confidence h = inl (refl, h)
  net_tail_by word key h = inr (sections_by rows.NetTail word key h)

  pub net_tail_from : (line : ℕ) (word : Lexeme) → On M D C (spef_turn (at rows.NetTail k z) (at_line line word)) → ((key_of (at_line line word) ≡ keys.Confidence) × M (at rows.Confidence k (record z { back = rows.Sections }))) ⊎ SectionsFrom D (key_of (at_line line word)) k z
  unfolding spef_turn
  net_tail_from line word h = net_tail_by (at_line line word) (key_of (at_line line word)) h

  -- ---- connections

  conns_by : (row : Row) (word : Lexeme) (key : Key) → On M D C (conns_row (at row k z) key word) → ConnFrom M D word.line key k z
  unfolding conns_row
  conns_by row word keys.ExternalConn h = inl (true, refl, h)
  conns_by row word keys.InternalConn h = inl (false, refl, h)
  conns_by row word keys.InternalNode h = inr (inl (refl, h))
  conns_by row word key h = inr (inr (conns_behind_by row word key h))

  pub conns_from : (line : ℕ) (word : Lexeme) → On M D C (spef_turn (at rows.Conns k z) (at_line line word)) → ConnFrom M D line (key_of (at_line line word)) k z
  unfolding spef_turn
  conns_from line word h = conns_by rows.Conns (at_line line word) (key_of (at_line line word)) h

  conn_tail_by : (row : Row) (line : ℕ) (word : Lexeme) → AttributeFrom M row (key_of (at_line line word)) k z (On M D C (conns_row (at row k z) (key_of (at_line line word)) (at_line line word))) → AttributeFrom M row (key_of (at_line line word)) k z (ConnFrom M D line (key_of (at_line line word)) k z)
  conn_tail_by row line word (inl h) = inl h
  conn_tail_by row line word (inr (inl h)) = inr (inl h)
  conn_tail_by row line word (inr (inr (inl h))) = inr (inr (inl h))
  conn_tail_by row line word (inr (inr (inr h))) = inr (inr (inr (conns_by row (at_line line word) (key_of (at_line line word)) h)))

  pub conn_tail_from : (line : ℕ) (word : Lexeme) → On M D C (spef_turn (at rows.ConnTail k z) (at_line line word)) → AttributeFrom M rows.ConnTail (key_of (at_line line word)) k z (ConnFrom M D line (key_of (at_line line word)) k z)
  unfolding spef_turn conn_tail_row
  conn_tail_from line word h = conn_tail_by rows.ConnTail line word (attribute_by rows.ConnTail (key_of (at_line line word)) (conns_row (at rows.ConnTail k z) (key_of (at_line line word)) (at_line line word)) h)

  pub node_tail_from : (line : ℕ) (word : Lexeme) → On M D C (spef_turn (at rows.NodeTail k z) (at_line line word)) → AttributeFrom M rows.NodeTail (key_of (at_line line word)) k z (ConnFrom M D line (key_of (at_line line word)) k z)
  unfolding spef_turn conn_tail_row
  node_tail_from line word h = conn_tail_by rows.NodeTail line word (attribute_by rows.NodeTail (key_of (at_line line word)) (conns_row (at rows.NodeTail k z) (key_of (at_line line word)) (at_line line word)) h)

  conn_end_by : (port : Bool) (line : ℕ) (word : Lexeme) (r : Result End Code) → end_read k.map (at_line line word) ≡ r → On M D C (takes_conn_end (at rows.ConnEnd k (record z { kind = kind_of port })) (at_line line word) r) →
      (end : End) × Says (EndOf k.map end) word × M (record (at rows.ConnDirection k (record z { kind = kind_of port })) { first = end })
  conn_end_by true line word (Ok end) is h = (end, end_from k.map line word end is, h)
  conn_end_by false line word (Ok end) is h = (end, end_from k.map line word end is, h)
  conn_end_by port line word (Err code) is h = absurd h

  pub conn_end_from : (port : Bool) (line : ℕ) (word : Lexeme) → On M D C (spef_turn (at rows.ConnEnd k (record z { kind = kind_of port })) (at_line line word)) →
      (end : End) × Says (EndOf k.map end) word × M (record (at rows.ConnDirection k (record z { kind = kind_of port })) { first = end })
  unfolding spef_turn conn_end_row
  conn_end_from port line word h = conn_end_by port line word (end_read k.map (at_line line word)) refl h

  node_end_by : (line : ℕ) (word : Lexeme) (r : Result End Code) → end_read k.map (at_line line word) ≡ r → On M D C (takes_conn_end (at rows.ConnEnd k (record z { kind = conn_kinds.Node })) (at_line line word) r) →
      (end : End) × Says (EndOf k.map end) word × D (at rows.NodeTail k (record z { kind = conn_kinds.Node }))
  node_end_by line word (Ok end) is h = (end, end_from k.map line word end is, h)
  node_end_by line word (Err code) is h = absurd h

  pub node_end_from : (line : ℕ) (word : Lexeme) → On M D C (spef_turn (at rows.ConnEnd k (record z { kind = conn_kinds.Node })) (at_line line word)) → (end : End) × Says (EndOf k.map end) word × D (at rows.NodeTail k (record z { kind = conn_kinds.Node }))
  unfolding spef_turn conn_end_row
  node_end_from line word h = node_end_by line word (end_read k.map (at_line line word)) refl h

  abbrev pub Joined : Bool → End → Lexeme → Type 0
  Joined port end word =
      (dir : Dir3) × Says (Direction dir) word × D (at rows.ConnTail (with_conns k (k.net.conns ++ record { port = port; end = end; dir = dir; cell = None } ∷ [])) (record z { kind = kind_of port }))

  conn_direction_by : (port : Bool) (end : End) (line : ℕ) (word : Lexeme) (r : Option Dir3) → direction_of (key_of (at_line line word)) ≡ r →
      On M D C (takes_conn_direction (record (at rows.ConnDirection k (record z { kind = kind_of port })) { first = end }) (key_of (at_line line word)) (at_line line word) r) → Joined port end word
  conn_direction_by true end line word (Some dir) is h = (dir, direction_from line word dir is, h)
  conn_direction_by false end line word (Some dir) is h = (dir, direction_from line word dir is, h)
  conn_direction_by port end line word None is h = absurd h

  pub conn_direction_from : (port : Bool) (end : End) (line : ℕ) (word : Lexeme) → On M D C (spef_turn (record (at rows.ConnDirection k (record z { kind = kind_of port })) { first = end }) (at_line line word)) → Joined port end word
  unfolding spef_turn conn_direction_row
  conn_direction_from port end line word h = conn_direction_by port end line word (direction_of (key_of (at_line line word))) refl h

  -- ---- capacitances

  caps_by : (line : ℕ) (word : Lexeme) (b : Bool) → is_number (at_line line word) ≡ b → On M D C (cond b (goes rows.CapFirst (at rows.Caps k z)) (behind_caps (at rows.Caps k z) (key_of (at_line line word)) (at_line line word))) →
      (Says Plain word × M (at rows.CapFirst k z)) ⊎ CapsBehind D (key_of (at_line line word)) k z
  caps_by line word true is h = inl (number_from line word is, h)
  caps_by line word false is h = inr (caps_behind_by rows.Caps (at_line line word) (key_of (at_line line word)) h)

  pub caps_from : (line : ℕ) (word : Lexeme) → On M D C (spef_turn (at rows.Caps k z) (at_line line word)) → (Says Plain word × M (at rows.CapFirst k z)) ⊎ CapsBehind D (key_of (at_line line word)) k z
  unfolding spef_turn caps_row
  caps_from line word h = caps_by line word (is_number (at_line line word)) refl h

  cap_first_by : (line : ℕ) (word : Lexeme) (r : Result End Code) → end_read k.map (at_line line word) ≡ r → On M D C (takes_cap_first (at rows.CapFirst k z) (at_line line word) r) → (a : End) × Says (EndOf k.map a) word × M (record (at rows.CapSecond k z) { first = a })
  cap_first_by line word (Ok a) is h = (a, end_from k.map line word a is, h)
  cap_first_by line word (Err code) is h = absurd h

  pub cap_first_from : (line : ℕ) (word : Lexeme) → On M D C (spef_turn (at rows.CapFirst k z) (at_line line word)) → (a : End) × Says (EndOf k.map a) word × M (record (at rows.CapSecond k z) { first = a })
  unfolding spef_turn cap_first_row
  cap_first_from line word h = cap_first_by line word (end_read k.map (at_line line word)) refl h

  abbrev pub Capped : Scale → End → Option End → Lexeme → Type 0
  Capped scale a b word = (value : Fixed) × Says (Value scale value) word × D (at rows.Caps (with_caps k (k.net.caps ++ record { a = a; b = b; value = value } ∷ [])) z)

  cap_value_by : (row : Row) (scale : Scale) → k.header.cap_scale ≡ Some scale → (a : End) (b : Option End) (line : ℕ) (word : Lexeme) (r : Option Fixed) → value_read k.header.cap_scale (at_line line word) ≡ r →
      On M D C (takes_cap_value (record (at row k z) { first = a; second = b }) (at_line line word) r) → Capped scale a b word
  cap_value_by row scale scaled a b line word (Some value) is h = (value, value_from scale k.header.cap_scale line word value scaled is, h)
  cap_value_by row scale scaled a b line word None is h = absurd h

  cap_value_in : (row : Row) (scale : Scale) → k.header.cap_scale ≡ Some scale → (a : End) (b : Option End) (line : ℕ) (word : Lexeme) → On M D C (cap_value_row (record (at row k z) { first = a; second = b }) (at_line line word)) → Capped scale a b word
  unfolding cap_value_row
  cap_value_in row scale scaled a b line word h = cap_value_by row scale scaled a b line word (value_read k.header.cap_scale (at_line line word)) refl h

  cap_second_by : (a : End) (line : ℕ) (word : Lexeme) (r : Result End Code) → end_read k.map (at_line line word) ≡ r → On M D C (takes_cap_second (record (at rows.CapSecond k z) { first = a }) (at_line line word) r) →
      (b : End) × Says (EndOf k.map b) word × M (record (at rows.CapValue k z) { first = a; second = Some b })
  cap_second_by a line word (Ok b) is h = (b, end_from k.map line word b is, h)
  cap_second_by a line word (Err code) is h = absurd h

  abbrev pub SecondFrom : Scale → End → Lexeme → Type 0
  SecondFrom scale a word = ((b : End) × Says (EndOf k.map b) word × M (record (at rows.CapValue k z) { first = a; second = Some b })) ⊎ Capped scale a None word

  cap_second_or : (scale : Scale) → k.header.cap_scale ≡ Some scale → (a : End) (line : ℕ) (word : Lexeme) (b : Bool) →
      On M D C (cond b (takes_cap_second (record (at rows.CapSecond k z) { first = a }) (at_line line word) (end_read k.map (at_line line word))) (cap_value_row (record (at rows.CapSecond k z) { first = a }) (at_line line word))) → SecondFrom scale a word
  cap_second_or scale scaled a line word true h = inl (cap_second_by a line word (end_read k.map (at_line line word)) refl h)
  cap_second_or scale scaled a line word false h = inr (cap_value_in rows.CapSecond scale scaled a None line word h)

  pub cap_second_from : (scale : Scale) → k.header.cap_scale ≡ Some scale → (a : End) (line : ℕ) (word : Lexeme) → On M D C (spef_turn (record (at rows.CapSecond k z) { first = a }) (at_line line word)) → SecondFrom scale a word
  unfolding spef_turn cap_second_row
  cap_second_from scale scaled a line word h = cap_second_or scale scaled a line word (is_reference (at_line line word)) h

  pub cap_value_from : (scale : Scale) → k.header.cap_scale ≡ Some scale → (a b : End) (line : ℕ) (word : Lexeme) → On M D C (spef_turn (record (at rows.CapValue k z) { first = a; second = Some b }) (at_line line word)) → Capped scale a (Some b) word
  unfolding spef_turn
  cap_value_from scale scaled a b line word h = cap_value_in rows.CapValue scale scaled a (Some b) line word h

  -- ---- resistors

  resistors_by : (line : ℕ) (word : Lexeme) (b : Bool) → is_number (at_line line word) ≡ b → On M D C (cond b (goes rows.ResFirst (at rows.Resistors k z)) (behind_resistors (at rows.Resistors k z) (key_of (at_line line word)) (at_line line word))) →
      (Says Plain word × M (at rows.ResFirst k z)) ⊎ ResistorsBehind D (key_of (at_line line word)) k z
  resistors_by line word true is h = inl (number_from line word is, h)
  resistors_by line word false is h = inr (resistors_behind_by rows.Resistors (at_line line word) (key_of (at_line line word)) h)

  pub resistors_from : (line : ℕ) (word : Lexeme) → On M D C (spef_turn (at rows.Resistors k z) (at_line line word)) → (Says Plain word × M (at rows.ResFirst k z)) ⊎ ResistorsBehind D (key_of (at_line line word)) k z
  unfolding spef_turn resistors_row
  resistors_from line word h = resistors_by line word (is_number (at_line line word)) refl h

  res_first_by : (line : ℕ) (word : Lexeme) (r : Result End Code) → end_read k.map (at_line line word) ≡ r → On M D C (takes_res_first (at rows.ResFirst k z) (at_line line word) r) → (a : End) × Says (EndOf k.map a) word × M (record (at rows.ResSecond k z) { first = a })
  res_first_by line word (Ok a) is h = (a, end_from k.map line word a is, h)
  res_first_by line word (Err code) is h = absurd h

  pub res_first_from : (line : ℕ) (word : Lexeme) → On M D C (spef_turn (at rows.ResFirst k z) (at_line line word)) → (a : End) × Says (EndOf k.map a) word × M (record (at rows.ResSecond k z) { first = a })
  unfolding spef_turn res_first_row
  res_first_from line word h = res_first_by line word (end_read k.map (at_line line word)) refl h

  res_second_by : (a : End) (line : ℕ) (word : Lexeme) (r : Result End Code) → end_read k.map (at_line line word) ≡ r → On M D C (takes_res_second (record (at rows.ResSecond k z) { first = a }) (at_line line word) r) →
      (b : End) × Says (EndOf k.map b) word × M (record (at rows.ResValue k z) { first = a; second = Some b })
  res_second_by a line word (Ok b) is h = (b, end_from k.map line word b is, h)
  res_second_by a line word (Err code) is h = absurd h

  pub res_second_from : (a : End) (line : ℕ) (word : Lexeme) → On M D C (spef_turn (record (at rows.ResSecond k z) { first = a }) (at_line line word)) → (b : End) × Says (EndOf k.map b) word × M (record (at rows.ResValue k z) { first = a; second = Some b })
  unfolding spef_turn res_second_row
  res_second_from a line word h = res_second_by a line word (end_read k.map (at_line line word)) refl h

  abbrev pub Resisted : Scale → End → End → Lexeme → Type 0
  Resisted scale a b word = (value : Fixed) × Says (Value scale value) word × D (at rows.Resistors (with_resistors k (k.net.res ++ record { a = a; b = b; value = value } ∷ [])) z)

  res_value_by : (scale : Scale) → k.header.res_scale ≡ Some scale → (a b : End) (line : ℕ) (word : Lexeme) (r : Option Fixed) → value_read k.header.res_scale (at_line line word) ≡ r →
      On M D C (takes_res_value (record (at rows.ResValue k z) { first = a; second = Some b }) (at_line line word) r) → Resisted scale a b word
  res_value_by scale scaled a b line word (Some value) is h = (value, value_from scale k.header.res_scale line word value scaled is, h)
  res_value_by scale scaled a b line word None is h = absurd h

  pub res_value_from : (scale : Scale) → k.header.res_scale ≡ Some scale → (a b : End) (line : ℕ) (word : Lexeme) → On M D C (spef_turn (record (at rows.ResValue k z) { first = a; second = Some b }) (at_line line word)) → Resisted scale a b word
  unfolding spef_turn res_value_row
  res_value_from scale scaled a b line word h = res_value_by scale scaled a b line word (value_read k.header.res_scale (at_line line word)) refl h
