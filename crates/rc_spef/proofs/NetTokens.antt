-- What each row does with a token that says what is due.
use Rattle.std.proofs.Common.{◌≡◌, ◌∙◌, ℕ, suc, Bool, true, false, cond, take, drop, List, [], ◌∷◌, ◌++◌, refl, ap, sym, arith, Some, None, Ok, Err}
use Rattle.std.specs.Prelude.{◌==◌}
use Rattle.std.specs.List.{list_all, before_first, position_or_len}
use Rattle.std.proofs.lemmas.Bool.{eqb-true}
use Rattle.rc_fixed.specs.declared.decimal.Fixed.{Fixed}
use Rattle.rc_fixed.specs.Numeral.{fixed_of, scaled_value, is_digit, is_e, whole_digits}
use Rattle.rc_fixed.specs.Decimal.{is_point}
use Rattle.rc_fixed.specs.declared.fault.NumFault.TheVariants.{Form}
use Rattle.rc_keys.specs.declared.code.Code.TheVariants.{E04}
use Rattle.rc_keys.specs.Lexemes.{Lexeme}
use Rattle.rc_keys.specs.Course.{More, Done}
use Rattle.rc_keys.specs.Statements.{at_line}
use Rattle.rc_spef.specs.declared.value.End.{End}
use Rattle.rc_spef.specs.declared.value.Cap.{Cap}
use Rattle.rc_spef.specs.declared.value.SpefConn.{SpefConn}
use Rattle.rc_spef.specs.declared.value.SpefRes.{SpefRes}
use Rattle.rc_spef.specs.declared.value.Dir3.{Dir3}
use Rattle.rc_spef.specs.declared.state.ConnKind.{ConnKind}
use Rattle.rc_spef.specs.declared.state.ConnKind.TheVariants as conn_kinds
use Rattle.rc_spef.specs.declared.state.Scale.{Scale}
use Rattle.rc_spef.specs.declared.state.Row.{Row}
use Rattle.rc_spef.specs.declared.state.Row.TheVariants as rows
use Rattle.rc_spef.specs.declared.key.Key.TheVariants as keys
use Rattle.rc_spef.specs.Keys.{key_of}
use Rattle.rc_spef.specs.References.{begins_star, end_of, reference}
use Rattle.rc_spef.specs.Moves.{end_read, name_read, value_read, shift_of, no_net}
use Rattle.rc_spef.specs.NetRows.{net_name_row, net_total_row, behind_resistors, behind_caps, behind_conns, sections_row, net_tail_row, conns_row, conn_end_row, conn_direction_row, conn_tail_row, caps_row, cap_first_row, cap_second_row, cap_value_row, resistors_row, res_first_row, res_second_row, res_value_row}
use Rattle.rc_spef.specs.Rows.{spef_turn}
use Rattle.rc_spef.specs.NetLines.{conn_word as word_of_conn}
use Rattle.rc_spef.specs.Parts.{Says, Plain, Value, EndOf, Reference, Direction}
use Rattle.rc_spef.proofs.Walks.{Known, Left, at, BeforeConns, ConnRow, BeforeCaps, BeforeResistors, BeforeEnd}
use Rattle.rc_spef.proofs.Walks.BeforeConns.{at_total, at_sections}
use Rattle.rc_spef.proofs.Walks.ConnRow.{first_conn, behind_conn, behind_node}
use Rattle.rc_spef.proofs.Walks.BeforeCaps.{no_conns, some_conns}
use Rattle.rc_spef.proofs.Walks.BeforeResistors.{no_caps, at_caps}
use Rattle.rc_spef.proofs.Walks.BeforeEnd.{no_resistors, at_resistors}
use Rattle.rc_spef.proofs.Starts.{no_number}

-- a token's line has no part in its key
pub keyed : (line : ℕ) (word : Lexeme) → key_of (at_line line word) ≡ key_of word
unfolding key_of
keyed line word = refl

-- ---- capacitances

pub cap_number : (k : Known) (z : Left) (line : ℕ) (word : Lexeme) → Says Plain word → spef_turn (at rows.Caps k z) (at_line line word) ≡ More (at rows.CapFirst k z)
unfolding spef_turn caps_row
cap_number k z line word is = rw (is.0, is.1) refl

pub cap_first : (k : Known) (z : Left) (line : ℕ) (word : Lexeme) (a : End) → Says (EndOf k.map a) word → spef_turn (at rows.CapFirst k z) (at_line line word) ≡ More (record (at rows.CapSecond k z) { first = a })
unfolding spef_turn cap_first_row end_read
cap_first k z line word a is = rw (is.0, is.1) refl

-- an end begins with `*`
starred : (numbers bytes : List ℕ) (end : End) → end_of numbers bytes ≡ Ok end → begins_star bytes ≡ true
unfolding end_of
starred numbers bytes end is = by (begins_star bytes) refl is
  where
    by : (b : Bool) → begins_star bytes ≡ b → cond b (reference numbers (drop 1 bytes)) (Err E04) ≡ Ok end → b ≡ true
    by true same read = refl
    by false same read = absurd cc

-- no value begins with `*`
before_more : (p : ℕ → Bool) (x : ℕ) (xs : List ℕ) → p x ≡ false → before_first p (x ∷ xs) ≡ x ∷ before_first p xs
before_more p x xs other = let next : position_or_len p (x ∷ xs) ≡ suc (position_or_len p xs) = rw other (omega arith) in ap (λ n. take n (x ∷ xs)) next

star_digits : (bytes : List ℕ) → list_all is_digit (whole_digits (42 ∷ bytes)) ≡ false
star_digits bytes =
    let first : before_first is_e (42 ∷ bytes) ≡ 42 ∷ before_first is_e bytes = before_more is_e 42 bytes refl in
    let second : before_first is_point (42 ∷ before_first is_e bytes) ≡ 42 ∷ before_first is_point (before_first is_e bytes) = before_more is_point 42 (before_first is_e bytes) refl in
    ap (λ (ds : List ℕ). list_all is_digit (before_first is_point ds)) first ∙ ap (list_all is_digit) second

star_is_none : (shift : ℕ) (bytes : List ℕ) → fixed_of shift (42 ∷ bytes) ≡ Err Form
unfolding fixed_of scaled_value
star_is_none shift bytes = rw (star_digits bytes) refl

pub unstarred : (shift : ℕ) (bytes : List ℕ) (value : Fixed) → fixed_of shift bytes ≡ Ok value → begins_star bytes ≡ false
unstarred shift [] value is = refl
unstarred shift (byte ∷ bytes) value is = by (byte == 42) refl
  where
    by : (b : Bool) → (byte == 42) ≡ b → b ≡ false
    by false is_star = refl
    by true is_star = let star : byte ≡ 42 = eqb-true byte 42 is_star in let e : Err Form ≡ Ok value = sym (star_is_none shift bytes) ∙ ap (λ b. fixed_of shift (b ∷ bytes)) (sym star) ∙ is in absurd cc

abbrev pub with_caps : Known → List Cap → Known
with_caps k caps = record k { net = record k.net { caps = caps } }

pub cap_ground : (k : Known) (z : Left) (line : ℕ) (word : Lexeme) (a : End) (scale : Scale) (value : Fixed) → k.header.cap_scale ≡ Some scale → Says (Value scale value) word →
    spef_turn (record (at rows.CapSecond k z) { first = a }) (at_line line word) ≡ Done (at rows.Caps (with_caps k (k.net.caps ++ record { a = a; b = None; value = value } ∷ [])) z)
unfolding spef_turn cap_second_row cap_value_row value_read
cap_ground k z line word a scale value scaled is = rw (is.0, unstarred (shift_of scale) word.bytes value is.1, scaled, is.1) refl

pub cap_second : (k : Known) (z : Left) (line : ℕ) (word : Lexeme) (a b : End) → Says (EndOf k.map b) word →
    spef_turn (record (at rows.CapSecond k z) { first = a }) (at_line line word) ≡ More (record (at rows.CapValue k z) { first = a; second = Some b })
unfolding spef_turn cap_second_row end_read
cap_second k z line word a b is = rw (is.0, starred k.map word.bytes b is.1, is.1) refl

pub cap_value : (k : Known) (z : Left) (line : ℕ) (word : Lexeme) (a b : End) (scale : Scale) (value : Fixed) → k.header.cap_scale ≡ Some scale → Says (Value scale value) word →
    spef_turn (record (at rows.CapValue k z) { first = a; second = Some b }) (at_line line word) ≡ Done (at rows.Caps (with_caps k (k.net.caps ++ record { a = a; b = Some b; value = value } ∷ [])) z)
unfolding spef_turn cap_value_row value_read
cap_value k z line word a b scale value scaled is = rw (is.0, scaled, is.1) refl

-- ---- resistors

pub res_number : (k : Known) (z : Left) (line : ℕ) (word : Lexeme) → Says Plain word → spef_turn (at rows.Resistors k z) (at_line line word) ≡ More (at rows.ResFirst k z)
unfolding spef_turn resistors_row
res_number k z line word is = rw (is.0, is.1) refl

pub res_first : (k : Known) (z : Left) (line : ℕ) (word : Lexeme) (a : End) → Says (EndOf k.map a) word → spef_turn (at rows.ResFirst k z) (at_line line word) ≡ More (record (at rows.ResSecond k z) { first = a })
unfolding spef_turn res_first_row end_read
res_first k z line word a is = rw (is.0, is.1) refl

pub res_second : (k : Known) (z : Left) (line : ℕ) (word : Lexeme) (a b : End) → Says (EndOf k.map b) word →
    spef_turn (record (at rows.ResSecond k z) { first = a }) (at_line line word) ≡ More (record (at rows.ResValue k z) { first = a; second = Some b })
unfolding spef_turn res_second_row end_read
res_second k z line word a b is = rw (is.0, is.1) refl

abbrev pub with_resistors : Known → List SpefRes → Known
with_resistors k res = record k { net = record k.net { res = res } }

pub res_value : (k : Known) (z : Left) (line : ℕ) (word : Lexeme) (a b : End) (scale : Scale) (value : Fixed) → k.header.res_scale ≡ Some scale → Says (Value scale value) word →
    spef_turn (record (at rows.ResValue k z) { first = a; second = Some b }) (at_line line word) ≡ Done (at rows.Resistors (with_resistors k (k.net.res ++ record { a = a; b = b; value = value } ∷ [])) z)
unfolding spef_turn res_value_row value_read
res_value k z line word a b scale value scaled is = rw (is.0, scaled, is.1) refl

-- ---- connections

abbrev pub with_conns : Known → List SpefConn → Known
with_conns k conns = record k { net = record k.net { conns = conns } }

abbrev pub kind_of : Bool → ConnKind
kind_of true = conn_kinds.External
kind_of false = conn_kinds.Internal

-- a connection begins
pub conn_word : (row : Row) → ConnRow row → (k : Known) (z : Left) (line : ℕ) (word : Lexeme) (port : Bool) → key_of word ≡ word_of_conn port →
    spef_turn (at row k z) (at_line line word) ≡ More (at rows.ConnEnd k (record z { kind = kind_of port; line = line }))
unfolding spef_turn conns_row conn_tail_row
conn_word row first_conn k z line word true is = rw (keyed line word, is) refl
conn_word row first_conn k z line word false is = rw (keyed line word, is) refl
conn_word row behind_conn k z line word true is = rw (keyed line word, is) refl
conn_word row behind_conn k z line word false is = rw (keyed line word, is) refl
conn_word row behind_node k z line word true is = rw (keyed line word, is) refl
conn_word row behind_node k z line word false is = rw (keyed line word, is) refl

pub node_word : (row : Row) → ConnRow row → (k : Known) (z : Left) (line : ℕ) (word : Lexeme) → key_of word ≡ keys.InternalNode →
    spef_turn (at row k z) (at_line line word) ≡ More (at rows.ConnEnd k (record z { kind = conn_kinds.Node; line = line }))
unfolding spef_turn conns_row conn_tail_row
node_word row first_conn k z line word is = rw (keyed line word, is) refl
node_word row behind_conn k z line word is = rw (keyed line word, is) refl
node_word row behind_node k z line word is = rw (keyed line word, is) refl

pub conn_end : (k : Known) (z : Left) (line : ℕ) (word : Lexeme) (end : End) (port : Bool) → Says (EndOf k.map end) word →
    spef_turn (at rows.ConnEnd k (record z { kind = kind_of port })) (at_line line word) ≡ More (record (at rows.ConnDirection k (record z { kind = kind_of port })) { first = end })
unfolding spef_turn conn_end_row end_read
conn_end k z line word end true is = rw (is.0, is.1) refl
conn_end k z line word end false is = rw (is.0, is.1) refl

pub node_end : (k : Known) (z : Left) (line : ℕ) (word : Lexeme) (end : End) → Says (EndOf k.map end) word →
    spef_turn (at rows.ConnEnd k (record z { kind = conn_kinds.Node })) (at_line line word) ≡ Done (at rows.NodeTail k (record z { kind = conn_kinds.Node }))
unfolding spef_turn conn_end_row end_read
node_end k z line word end is = rw (is.0, is.1) refl

pub conn_direction : (k : Known) (z : Left) (line : ℕ) (word : Lexeme) (end : End) (port : Bool) (dir : Dir3) → Says (Direction dir) word →
    spef_turn (record (at rows.ConnDirection k (record z { kind = kind_of port })) { first = end }) (at_line line word)
    ≡ Done (at rows.ConnTail (with_conns k (k.net.conns ++ record { port = port; end = end; dir = dir; cell = None } ∷ [])) (record z { kind = kind_of port }))
unfolding spef_turn conn_direction_row
conn_direction k z line word end true dir is = rw (keyed line word, is) refl
conn_direction k z line word end false dir is = rw (keyed line word, is) refl

-- ---- the sections of a net

pub conns_keyword : (row : Row) → BeforeConns row → (k : Known) (z : Left) (line : ℕ) (word : Lexeme) → key_of word ≡ keys.Conn → spef_turn (at row k z) (at_line line word) ≡ Done (at rows.Conns k z)
unfolding spef_turn net_tail_row sections_row
conns_keyword row at_total k z line word is = rw (keyed line word, is) refl
conns_keyword row at_sections k z line word is = rw (keyed line word, is) refl

pub caps_keyword : (row : Row) → BeforeCaps row → (k : Known) (z : Left) (line : ℕ) (word : Lexeme) → key_of word ≡ keys.Cap → spef_turn (at row k z) (at_line line word) ≡ Done (at rows.Caps k z)
unfolding spef_turn net_tail_row sections_row conns_row conn_tail_row behind_conns
caps_keyword row (no_conns r at_total) k z line word is = rw (keyed line word, is) refl
caps_keyword row (no_conns r at_sections) k z line word is = rw (keyed line word, is) refl
caps_keyword row (some_conns r first_conn) k z line word is = rw (keyed line word, is) refl
caps_keyword row (some_conns r behind_conn) k z line word is = rw (keyed line word, is) refl
caps_keyword row (some_conns r behind_node) k z line word is = rw (keyed line word, is) refl

pub res_keyword : (row : Row) → BeforeResistors row → (k : Known) (z : Left) (line : ℕ) (word : Lexeme) → key_of word ≡ keys.Res → spef_turn (at row k z) (at_line line word) ≡ Done (at rows.Resistors k z)
unfolding spef_turn net_tail_row sections_row conns_row conn_tail_row behind_conns behind_caps caps_row
res_keyword row (no_caps r (no_conns q at_total)) k z line word is = rw (keyed line word, is) refl
res_keyword row (no_caps r (no_conns q at_sections)) k z line word is = rw (keyed line word, is) refl
res_keyword row (no_caps r (some_conns q first_conn)) k z line word is = rw (keyed line word, is) refl
res_keyword row (no_caps r (some_conns q behind_conn)) k z line word is = rw (keyed line word, is) refl
res_keyword row (no_caps r (some_conns q behind_node)) k z line word is = rw (keyed line word, is) refl
res_keyword row at_caps k z line word is = rw (no_number word (λ e. absurd (let no : keys.Res ≡ keys.Other = sym is ∙ e in cc)), keyed line word, is) refl

abbrev pub ended : Known → Known
ended k = record k { nets = k.nets ++ k.net ∷ []; net = no_net }

pub end_keyword : (row : Row) → BeforeEnd row → (k : Known) (z : Left) (line : ℕ) (word : Lexeme) → key_of word ≡ keys.End → spef_turn (at row k z) (at_line line word) ≡ Done (at rows.Nets (ended k) z)
unfolding spef_turn net_tail_row sections_row conns_row conn_tail_row behind_conns behind_caps behind_resistors caps_row resistors_row
end_keyword row (no_resistors p (no_caps r (no_conns q at_total))) k z line word is = rw (keyed line word, is) refl
end_keyword row (no_resistors p (no_caps r (no_conns q at_sections))) k z line word is = rw (keyed line word, is) refl
end_keyword row (no_resistors p (no_caps r (some_conns q first_conn))) k z line word is = rw (keyed line word, is) refl
end_keyword row (no_resistors p (no_caps r (some_conns q behind_conn))) k z line word is = rw (keyed line word, is) refl
end_keyword row (no_resistors p (no_caps r (some_conns q behind_node))) k z line word is = rw (keyed line word, is) refl
end_keyword row (no_resistors p at_caps) k z line word is = rw (no_number word (λ e. absurd (let no : keys.End ≡ keys.Other = sym is ∙ e in cc)), keyed line word, is) refl
end_keyword row at_resistors k z line word is = rw (no_number word (λ e. absurd (let no : keys.End ≡ keys.Other = sym is ∙ e in cc)), keyed line word, is) refl

-- ---- a net's first line

pub net_name : (k : Known) (z : Left) (line : ℕ) (word : Lexeme) (name : ℕ) → Says (Reference k.map name) word →
    spef_turn (at rows.NetName k z) (at_line line word) ≡ More (at rows.NetTotal (record k { net = record no_net { name = name } }) z)
unfolding spef_turn net_name_row name_read
net_name k z line word name is = rw (is.0, is.1) refl

pub net_total : (k : Known) (z : Left) (line : ℕ) (word : Lexeme) (scale : Scale) (total : Fixed) → k.header.cap_scale ≡ Some scale → Says (Value scale total) word →
    spef_turn (at rows.NetTotal k z) (at_line line word) ≡ Done (at rows.NetTail (record k { net = record k.net { total = total } }) z)
unfolding spef_turn net_total_row value_read
net_total k z line word scale total scaled is = rw (is.0, scaled, is.1) refl

pub confidence_word : (k : Known) (z : Left) (line : ℕ) (word : Lexeme) → key_of word ≡ keys.Confidence → spef_turn (at rows.NetTail k z) (at_line line word) ≡ More (at rows.Confidence k (record z { back = rows.Sections }))
unfolding spef_turn net_tail_row
confidence_word k z line word is = rw (keyed line word, is) refl
