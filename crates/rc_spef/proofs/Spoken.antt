-- What written tokens say.
use Rattle.std.proofs.Common.{◌≡◌, ◌∙◌, ℕ, ◌+◌, ◌-◌, ◌^◌, ◌<◌, ◌≤◌, Bool, true, false, drop, List, [], ◌∷◌, ◌++◌, length, refl, ap, sym, arith, append-nil, inl, inr, Some, Ok}
use Rattle.std.specs.Prelude.{◌⊎◌, ◌==◌, ◌||◌, not, nat_lt, position, slice_index, codes}
use Rattle.std.specs.Fmt.{decimal}
use Rattle.std.specs.List.{position_or_len}
use Rattle.std.specs.Str.Parse.{digits_value}
use Rattle.std.proofs.lemmas.Bool.{cases_eq, ne_eqb, eq-eqb}
use Rattle.std.proofs.lemmas.Bool.Decides.{nat_tests}
use Rattle.std.proofs.lemmas.Fmt.{decimal_nonempty, first_decimal, decimal_digit}
use Rattle.std.proofs.lemmas.List.FromFn.{length-range_with_len, get_or-range_with_len}
use Rattle.std.proofs.lemmas.List.Sums.{position_or_len_is}
use Rattle.rc_fixed.specs.declared.decimal.Fixed.{Fixed}
use Rattle.rc_fixed.specs.Decimal.{decimal_text}
use Rattle.rc_fixed.specs.Numeral.{fixed_of}
use Rattle.rc_fixed.proofs.Exact.{gives_back}
use Rattle.rc_keys.specs.declared.token.Kind.TheVariants as kinds
use Rattle.rc_keys.specs.Lexemes.{Lexeme}
use Rattle.rc_spef.specs.declared.value.End.{End}
use Rattle.rc_spef.specs.declared.value.Sub.{Sub}
use Rattle.rc_spef.specs.declared.value.Sub.TheVariants as sub
use Rattle.rc_spef.specs.declared.value.Dir3.{Dir3}
use Rattle.rc_spef.specs.declared.value.Dir3.TheVariants.{I, O, B}
use Rattle.rc_spef.specs.declared.state.Scale.TheVariants as scales
use Rattle.rc_spef.specs.declared.key.Key.{Key}
use Rattle.rc_spef.specs.declared.key.Key.TheVariants as keys
use Rattle.rc_spef.specs.Keys.{spef_keywords, key_in, key_of}
use Rattle.rc_spef.specs.Text.{Word, sub_text, end_token, name_token, amount, direction, conn_kind}
use Rattle.rc_spef.specs.References.{is_colon, is_num, sub_of, name_at, behind_of, reference, begins_star, end_of, name_of}
use Rattle.rc_spef.specs.Parts.{Says, Plain, Value, Entry, Name, Reference, EndOf, Direction, One}
use Rattle.rc_spef.specs.Parts as parts
use Rattle.rc_spef.specs.Writable.{IsPlace, IsSub, IsEnd, IsValue, is_word, is_name, begins_quote, begins_comment}
use Rattle.rc_spef.specs.NetLines.{conn_word}
use Rattle.rc_spef.proofs.Digits.{and_both, not_true, IsDigits, plain_is, decimal_digits, decimal_reads, digits_free, not_colon, before_whole, before_marked, after_marked, any_whole, any_marked, numbers_to, position_at}
use Rattle.rc_spef.proofs.Lexing.{IsToken}

-- ---- keywords

pub spelled : (word : Lexeme) (bytes : List ℕ) (key : Key) → key_in kinds.Word bytes ≡ key → IsToken (Word bytes) word → key_of word ≡ key
unfolding key_of
spelled word bytes key same is = rw (is.0, is.1) same

pub k_spef : key_in kinds.Word (codes "*SPEF") ≡ keys.Spef
unfolding spef_keywords
k_spef = refl

pub k_design : key_in kinds.Word (codes "*DESIGN") ≡ keys.Design
unfolding spef_keywords
k_design = refl

pub k_date : key_in kinds.Word (codes "*DATE") ≡ keys.Date
unfolding spef_keywords
k_date = refl

pub k_vendor : key_in kinds.Word (codes "*VENDOR") ≡ keys.Vendor
unfolding spef_keywords
k_vendor = refl

pub k_program : key_in kinds.Word (codes "*PROGRAM") ≡ keys.Program
unfolding spef_keywords
k_program = refl

pub k_version : key_in kinds.Word (codes "*VERSION") ≡ keys.Version
unfolding spef_keywords
k_version = refl

pub k_flow : key_in kinds.Word (codes "*DESIGN_FLOW") ≡ keys.DesignFlow
unfolding spef_keywords
k_flow = refl

pub k_divider : key_in kinds.Word (codes "*DIVIDER") ≡ keys.Divider
unfolding spef_keywords
k_divider = refl

pub k_delimiter : key_in kinds.Word (codes "*DELIMITER") ≡ keys.Delimiter
unfolding spef_keywords
k_delimiter = refl

pub k_bus : key_in kinds.Word (codes "*BUS_DELIMITER") ≡ keys.BusDelimiter
unfolding spef_keywords
k_bus = refl

pub k_time : key_in kinds.Word (codes "*T_UNIT") ≡ keys.TimeUnit
unfolding spef_keywords
k_time = refl

pub k_farad : key_in kinds.Word (codes "*C_UNIT") ≡ keys.CapUnit
unfolding spef_keywords
k_farad = refl

pub k_ohm : key_in kinds.Word (codes "*R_UNIT") ≡ keys.ResUnit
unfolding spef_keywords
k_ohm = refl

pub k_induct : key_in kinds.Word (codes "*L_UNIT") ≡ keys.InductUnit
unfolding spef_keywords
k_induct = refl

pub k_names : key_in kinds.Word (codes "*NAME_MAP") ≡ keys.NameMap
unfolding spef_keywords
k_names = refl

pub k_ports : key_in kinds.Word (codes "*PORTS") ≡ keys.Ports
unfolding spef_keywords
k_ports = refl

pub k_net : key_in kinds.Word (codes "*D_NET") ≡ keys.DNet
unfolding spef_keywords
k_net = refl

pub k_conn : key_in kinds.Word (codes "*CONN") ≡ keys.Conn
unfolding spef_keywords
k_conn = refl

pub k_cap : key_in kinds.Word (codes "*CAP") ≡ keys.Cap
unfolding spef_keywords
k_cap = refl

pub k_res : key_in kinds.Word (codes "*RES") ≡ keys.Res
unfolding spef_keywords
k_res = refl

pub k_end : key_in kinds.Word (codes "*END") ≡ keys.End
unfolding spef_keywords
k_end = refl

pub k_external : key_in kinds.Word (codes "*P") ≡ keys.ExternalConn
unfolding spef_keywords
k_external = refl

pub k_internal : key_in kinds.Word (codes "*I") ≡ keys.InternalConn
unfolding spef_keywords
k_internal = refl

pub k_cell : key_in kinds.Word (codes "*D") ≡ keys.DrivingCell
unfolding spef_keywords
k_cell = refl

pub k_ff : key_in kinds.Word (codes "FF") ≡ keys.FemtoFarad
unfolding spef_keywords
k_ff = refl

pub k_ohms : key_in kinds.Word (codes "OHM") ≡ keys.Ohm
unfolding spef_keywords
k_ohms = refl

pub k_colon : key_in kinds.Word (codes ":") ≡ keys.Colon
unfolding spef_keywords
k_colon = refl

pub k_in : key_in kinds.Word (codes "I") ≡ keys.In
unfolding spef_keywords
k_in = refl

pub k_out : key_in kinds.Word (codes "O") ≡ keys.Out
unfolding spef_keywords
k_out = refl

pub k_both : key_in kinds.Word (codes "B") ≡ keys.Both
unfolding spef_keywords
k_both = refl

-- ---- references

name_found : (count name : ℕ) → 1 ≤ name → name ≤ count → count < 2 ^ 64 → name_at (numbers_to count) (decimal name) ≡ Ok name
unfolding name_at
name_found count name some within small =
    let value : digits_value 10 (decimal name) ≡ name = decimal_reads name (omega arith) in
    let len : length (numbers_to count) ≡ count = length-range_with_len 1 count in
    let place : position_or_len (λ number. number == name) (numbers_to count) ≡ name - 1 =
    position_or_len_is (λ number. number == name) (numbers_to count) (name - 1) 0 (omega arith)
    (λ k below. ne_eqb _ name (λ e. omega (arith, get_or-range_with_len 1 count k 0 (omega arith))))
    (λ _. eq-eqb _ name (get_or-range_with_len 1 count (name - 1) 0 (omega arith) ∙ omega arith)) in
    let found : position (λ number. number == name) (numbers_to count) ≡ Some (name - 1) = position_at (λ number. number == name) (numbers_to count) (name - 1) place (omega arith) in
    let back : name - 1 + 1 ≡ name = omega arith in
    rw (value, found, back) refl

decimal_num : (number : ℕ) → number < 2 ^ 32 → is_num (decimal number) ≡ true
decimal_num number small =
    let digits = decimal_digits number (omega arith) in
    let value : digits_value 10 (decimal number) ≡ number = decimal_reads number (omega arith) in
    let fits : nat_lt number (2 ^ 32) ≡ true = grind (arith, nat_tests) in
    let front : (not (slice_index (decimal number) 0 == 48) || (length (decimal number) == 1)) ≡ true = elim (cases_eq number 0) [
      | inl none ↦ rw (none, decimal_digit 0 (omega arith)) refl
      | inr more ↦ let other : (slice_index (decimal number) 0 == 48) ≡ false = ne_eqb (slice_index (decimal number) 0) 48 (λ e. omega (arith, first_decimal number (omega arith) (omega arith))) in rw other refl
    ] in
    rw (plain_is (decimal number) digits, front, value, fits) refl

sub_again : (behind : Sub) → IsSub behind → (behind ≡ sub.Bare) ⊎ ((word : List ℕ) × (sub_text behind ≡ 58 ∷ word) × (0 < length word) × (sub_of word ≡ behind))
unfolding sub_of
sub_again sub.Bare fits = inl refl
sub_again (sub.Num number) fits =
    inr (decimal number, refl, decimal_nonempty number (omega arith), rw (decimal_num number fits, decimal_reads number (omega arith)) refl)
sub_again (sub.Word word) fits =
    inr (word, refl, word_some word fits.0, rw (not_true (is_num word) fits.1) refl)
  where
    word_some : (word : List ℕ) → is_word word ≡ true → 0 < length word
    word_some [] is = absurd (let none : false ≡ true = is in cc)
    word_some (b ∷ bs) is = omega arith

reference_bare : (numbers ds : List ℕ) (name : ℕ) → IsDigits ds → name_at numbers ds ≡ Ok name → reference numbers (ds ++ []) ≡ Ok (record { name = name; sub = sub.Bare })
unfolding reference behind_of
reference_bare numbers ds name is found =
    let free = digits_free is_colon ds is.all not_colon in
    rw (append-nil ds, before_whole is_colon ds free, plain_is ds is, any_whole is_colon ds free, found) refl

reference_behind : (numbers ds word : List ℕ) (name : ℕ) (behind : Sub) → IsDigits ds → name_at numbers ds ≡ Ok name → 0 < length word → sub_of word ≡ behind →
    reference numbers (ds ++ 58 ∷ word) ≡ Ok (record { name = name; sub = behind })
unfolding reference behind_of
reference_behind numbers ds word name behind is found some means =
    let free = digits_free is_colon ds is.all not_colon in
    let more : (length word == 0) ≡ false = let n : ℕ = length word in let lt : 0 < n = some in grind (arith, nat_tests) in
    rw (before_marked is_colon ds 58 word free refl, plain_is ds is, any_marked is_colon ds 58 word free refl, after_marked is_colon ds 58 word free refl, more, found, means) refl

pub end_says : (names : List (List ℕ)) (end : End) (word : Lexeme) → length names < 2 ^ 64 → IsEnd names end → IsToken (end_token end) word → Says (EndOf (numbers_to (length names)) end) word
unfolding end_of
end_says names end word small fits is =
    let numbers : List ℕ = numbers_to (length names) in
    let digits = decimal_digits end.name (omega (arith, fits.place.1)) in
    let found = name_found (length names) end.name fits.place.0 fits.place.1 small in
    let read : reference numbers (decimal end.name ++ sub_text end.sub) ≡ Ok end = elim (sub_again end.sub fits.behind) [
      | inl bare ↦ rw bare (reference_bare numbers (decimal end.name) end.name digits found)
      | inr word ↦ rw word.1 (reference_behind numbers (decimal end.name) word.0 end.name end.sub digits found word.2 word.3)
    ] in
    (is.0, rw is.1 read)

pub name_says : (names : List (List ℕ)) (name : ℕ) (word : Lexeme) → length names < 2 ^ 64 → IsPlace names name → IsToken (name_token name) word → Says (Reference (numbers_to (length names)) name) word
unfolding name_of
name_says names name word small place is =
    let digits = decimal_digits name (omega (arith, place.1)) in
    (is.0, rw (is.1, plain_is (decimal name) digits) (name_found (length names) name place.0 place.1 small))

-- ---- numbers

pub number_says : (n : ℕ) (word : Lexeme) → n < 2 ^ 64 → IsToken (Word (decimal n)) word → Says Plain word
number_says n word small is = (is.0, rw is.1 (plain_is (decimal n) (decimal_digits n small)))

pub entry_says : (n : ℕ) (word : Lexeme) → n < 2 ^ 64 → IsToken (name_token n) word → Says (Entry n) word
entry_says n word small is = (is.0, rw is.1 (plain_is (decimal n) (decimal_digits n small)), ap (λ (bytes : List ℕ). digits_value 10 (drop 1 bytes)) is.1 ∙ decimal_reads n small)

pub value_says : (value : Fixed) (word : Lexeme) → IsValue value.0 → IsToken (amount value.0) word → Says (Value scales.One value) word
value_says value word small is = (is.0, ap (fixed_of 0) is.1 ∙ gives_back value.0 small)

one_text : decimal_text 1000000000000000 ≡ codes "1"
one_text = rw (decimal_digit 1 (omega arith)) refl

pub one_says : (word : Lexeme) → IsToken (Word (codes "1")) word → Says One word
one_says word is = (is.0, ap (fixed_of 0) (is.1 ∙ sym one_text) ∙ gives_back 1000000000000000 (omega arith))

-- ---- names, directions, kinds of connections

three : (a b c : Bool) → (a || b || c) ≡ false → b ≡ false
three false b c none = by b none
  where
    by : (b : Bool) → (b || c) ≡ false → b ≡ false
    by true is = absurd cc
    by false is = refl
three true b c none = absurd cc

pub named_says : (name : List ℕ) (word : Lexeme) → is_name name ≡ true → IsToken (Word name) word → Says (Name name) word
named_says name word fits is =
    let both = and_both (is_word name) _ fits in
    (is.0, rw is.1 (three (begins_quote name) (begins_star name) (begins_comment name) (not_true _ both.1)), is.1)

pub direction_says : (dir : Dir3) (word : Lexeme) → IsToken (direction dir) word → Says (Direction dir) word
direction_says I word is = rw (spelled word (codes "I") keys.In k_in is) refl
direction_says O word is = rw (spelled word (codes "O") keys.Out k_out is) refl
direction_says B word is = rw (spelled word (codes "B") keys.Both k_both is) refl

pub kind_says : (port : Bool) (word : Lexeme) → IsToken (conn_kind port) word → Says (parts.Word (conn_word port)) word
kind_says true word is = spelled word (codes "*P") keys.ExternalConn k_external is
kind_says false word is = spelled word (codes "*I") keys.InternalConn k_internal is
