-- What can be written is written in tokens that can be read back, and is short enough.
use Rattle.std.proofs.Common.{◌≡◌, ℕ, ◌+◌, ◌^◌, ◌<◌, ◌≤◌, Bool, true, false, List, [], ◌∷◌, ◌++◌, length, refl, ◌∙◌, subst, arith, append-nil, Option, Some, None}
use Rattle.std.specs.Prelude.{◌==◌, ◌&&◌, ◌||◌, not, IfSome, map, codes}
use Rattle.std.specs.Fmt.{decimal}
use Rattle.std.specs.List.{AllByRecursion, flat_map, list_all, enumerate_from}
use Rattle.std.specs.Int.{IsInRange}
use Rattle.std.specs.Str.{all_ascii_digits}
use Rattle.std.proofs.lemmas.Bool.{ne_eqb, eqb-false}
use Rattle.std.proofs.lemmas.Bool.Decides.{nat_tests}
use Rattle.std.proofs.lemmas.List.{length-append, length-map}
use Rattle.std.proofs.lemmas.List.Folds.{list_all-append}
use Rattle.std.proofs.lemmas.List.FromFn.{length-enumerate_from}
use Rattle.rc_fixed.specs.Decimal.{decimal_text, IsPlainDecimal, IsWholePart}
use Rattle.rc_fixed.specs.Decimal.IsPlainDecimal.{whole, pointed}
use Rattle.rc_fixed.proofs.Reading.{is_plain as text_plain}
use Rattle.rc_keys.specs.Pieces.{is_graphic, IsQuotable}
use Rattle.rc_keys.specs.Pieces.IsQuotable.{nothing, plain}
use Rattle.rc_spef.specs.declared.value.Spef.{Spef}
use Rattle.rc_spef.specs.declared.value.SpefPort.{SpefPort}
use Rattle.rc_spef.specs.declared.value.SpefConn.{SpefConn}
use Rattle.rc_spef.specs.declared.value.SpefRes.{SpefRes}
use Rattle.rc_spef.specs.declared.value.DNet.{DNet}
use Rattle.rc_spef.specs.declared.value.Cap.{Cap}
use Rattle.rc_spef.specs.declared.value.End.{End}
use Rattle.rc_spef.specs.declared.value.Sub.{Sub}
use Rattle.rc_spef.specs.declared.value.Sub.TheVariants as sub
use Rattle.rc_spef.specs.declared.value.Dir3.{Dir3}
use Rattle.rc_spef.specs.declared.value.Dir3.TheVariants.{I, O, B}
use Rattle.rc_spef.specs.Text.{Token, Word, Quoted, shown, line_text, lines_text, header, section, keyword, name_token, name_line, name_map, direction, port_line, ports_text, sub_text, end_token, second_end, amount, cell, conn_kind, conn_line, cap_line, resistor_line, net_line, net_block, head_lines, spef_lines, spef_text}
use Rattle.rc_spef.specs.References.{begins_star}
use Rattle.rc_spef.specs.Writable.{IsPlace, IsSub, IsEnd, IsValue, IsConn, IsCap, IsResistor, IsNet, IsWritable, is_mark, is_name, is_word, begins_quote, begins_comment}
use Rattle.rc_spef.proofs.Digits.{and_both, and_is, not_true, IsDigits, own, decimal_digits, first_digit}
use Rattle.rc_spef.proofs.Lexing.{IsFair, IsFairWord}

-- ---- what fits into the lines of a text

pub record NetFits (names : List (List ℕ)) (net : DNet) : Type 0 where
  pub all : IsNet names net
  pub caps : 1 + length net.caps ≤ 2 ^ 64
  pub res : 1 + length net.res ≤ 2 ^ 64

pub record SpefFits (spef : Spef) : Type 0 where
  pub few : 1 + length spef.names ≤ 2 ^ 64
  pub names : AllByRecursion (λ name. is_name name ≡ true) spef.names
  pub ports : AllByRecursion (λ port. IsPlace spef.names port.name) spef.ports
  pub nets : AllByRecursion (NetFits spef.names) spef.nets

pub numbered_fits : {X : Type 0} (P : X → Type 0) (Q : ℕ × X → Type 0) → ((n : ℕ) (x : X) → n < 2 ^ 64 → P x → Q (n, x)) → (xs : List X) (n : ℕ) → n + length xs ≤ 2 ^ 64 → AllByRecursion P xs → AllByRecursion Q (enumerate_from n xs)
numbered_fits P Q each [] n small all = tt
numbered_fits P Q each (x ∷ xs) n small all = (each n x (omega arith) all.0, numbered_fits P Q each xs (n + 1) (omega arith) all.1)

-- ---- how a word begins

pub record IsBegun (word : List ℕ) : Type 0 where
  pub star : begins_star word ≡ false
  pub quote : begins_quote word ≡ false
  pub comment : begins_comment word ≡ false

digit_begins : (d : ℕ) (word : List ℕ) → IsInRange 48 57 d → IsBegun (d ∷ word)
digit_begins d word digit =
    let slash : (d == 47) ≡ false = ne_eqb d 47 (λ e. omega arith) in
    record { star = ne_eqb d 42 (λ e. omega arith); quote = ne_eqb d 34 (λ e. omega arith); comment = no_slash word slash }
  where
    no_slash : (word : List ℕ) → (d == 47) ≡ false → begins_comment (d ∷ word) ≡ false
    no_slash [] slash = refl
    no_slash (c ∷ cs) slash = rw slash refl

pub digits_begin : (ds behind : List ℕ) → IsDigits ds → IsBegun (ds ++ behind)
digits_begin [] behind is = absurd (omega (arith, is.some))
digits_begin (d ∷ ds) behind is = digit_begins d (ds ++ behind) (first_digit d ds is.all)

pub plain_whole : (ds : List ℕ) → IsWholePart ds → IsDigits ds
plain_whole ds is = record { some = is.numeral.0; all = own.from ds is.numeral.1 }

pub value_begins : (value : ℕ) → IsValue value → IsBegun (decimal_text value)
value_begins value small = form (decimal_text value) (text_plain value (omega arith)).0
  where
    form : (text : List ℕ) → IsPlainDecimal text → IsBegun text
    form text (whole {digits} is) = subst IsBegun (append-nil digits) (digits_begin digits [] (plain_whole digits is))
    form text (pointed {digits} {behind} is fraction) = digits_begin digits (46 ∷ behind) (plain_whole digits is)

-- ---- words

digit_graphic : (d : ℕ) → IsInRange 48 57 d → is_graphic d ≡ true
digit_graphic d digit = grind (arith, nat_tests)

digits_graphic : (ds : List ℕ) → all_ascii_digits ds ≡ true → list_all is_graphic ds ≡ true
digits_graphic [] all = refl
digits_graphic (d ∷ ds) all = and_is _ _ (digit_graphic d (first_digit d ds all)) (digits_graphic ds (and_both _ (all_ascii_digits ds) all).1)

some_length : (n : ℕ) → 0 < n → not (n == 0) ≡ true
some_length n some = grind (arith, nat_tests)

word_is : (word : List ℕ) → 0 < length word → list_all is_graphic word ≡ true → is_word word ≡ true
word_is word some all = and_is _ _ (some_length (length word) some) all

number_fair : (n : ℕ) → n < 2 ^ 64 → IsFairWord (decimal n)
number_fair n small =
    let digits = decimal_digits n small in
    let begun = subst (λ (word : List ℕ). begins_quote word ≡ false) (append-nil (decimal n)) (digits_begin (decimal n) [] digits).quote in
    let uncommented = subst (λ (word : List ℕ). begins_comment word ≡ false) (append-nil (decimal n)) (digits_begin (decimal n) [] digits).comment in
    record { bytes = word_is (decimal n) digits.some (digits_graphic (decimal n) digits.all); quote = begun; comment = uncommented }

value_graphic : (text : List ℕ) → IsPlainDecimal text → is_word text ≡ true
value_graphic text (whole {digits} is) =
    let ds = plain_whole digits is in word_is digits ds.some (digits_graphic digits ds.all)
value_graphic text (pointed {digits} {behind} is fraction) =
    let ds = plain_whole digits is in
    word_is (digits ++ 46 ∷ behind) (omega (arith, length-append digits (46 ∷ behind)))
    (list_all-append is_graphic digits (46 ∷ behind) ∙ and_is _ _ (digits_graphic digits ds.all) (digits_graphic behind (own.from behind fraction.numeral.1)))

value_fair : (value : ℕ) → IsValue value → IsFairWord (decimal_text value)
value_fair value small =
    let begun = value_begins value small in
    record { bytes = value_graphic (decimal_text value) (text_plain value (omega arith)).0; quote = begun.quote; comment = begun.comment }

star_fair : (bytes : List ℕ) → list_all is_graphic bytes ≡ true → IsFairWord (42 ∷ bytes)
star_fair bytes all = record { bytes = word_is (42 ∷ bytes) (omega arith) all; quote = refl; comment = uncommented bytes }
  where
    uncommented : (bytes : List ℕ) → begins_comment (42 ∷ bytes) ≡ false
    uncommented [] = refl
    uncommented (byte ∷ bytes) = refl

name_piece_fair : (name : ℕ) → name < 2 ^ 64 → IsFair (name_token name)
name_piece_fair name small = star_fair (decimal name) (digits_graphic (decimal name) (decimal_digits name small).all)

sub_graphic : (behind : Sub) → IsSub behind → list_all is_graphic (sub_text behind) ≡ true
sub_graphic sub.Bare fits = refl
sub_graphic (sub.Num number) fits = digits_graphic (decimal number) (decimal_digits number (omega arith)).all
sub_graphic (sub.Word word) fits = (and_both (not (length word == 0)) (list_all is_graphic word) fits.0).1

end_fair : (names : List (List ℕ)) (end : End) → length names < 2 ^ 64 → IsEnd names end → IsFair (end_token end)
end_fair names end small fits =
    star_fair (decimal end.name ++ sub_text end.sub)
    (list_all-append is_graphic (decimal end.name) (sub_text end.sub) ∙ and_is _ _ (digits_graphic (decimal end.name) (decimal_digits end.name (omega (arith, fits.place.1))).all) (sub_graphic end.sub fits.behind))

name_fair : (name : List ℕ) → is_name name ≡ true → IsFairWord name
name_fair name is =
    let both = and_both (is_word name) _ is in
    let none = three (begins_quote name) (begins_star name) (begins_comment name) (not_true _ both.1) in
    record { bytes = both.0; quote = none.0; comment = none.1 }
  where
    three : (a b c : Bool) → (a || b || c) ≡ false → (a ≡ false) × (c ≡ false)
    three false false c none = (refl, none)
    three false true c none = absurd cc
    three true b c none = absurd cc

mark_fair : (byte : ℕ) → is_mark byte ≡ true → IsFairWord (byte ∷ [])
mark_fair byte is =
    let both = and_both (is_graphic byte) (not (byte == 34)) is in
    record { bytes = word_is (byte ∷ []) (omega arith) (and_is _ _ both.0 refl); quote = not_true (byte == 34) both.1; comment = refl }

-- ---- lists of lines

abbrev AreFair : List (List Token) → Type 0
AreFair lines = AllByRecursion (AllByRecursion IsFair) lines

all_append : {X : Type 0} (P : X → Type 0) (xs ys : List X) → AllByRecursion P xs → AllByRecursion P ys → AllByRecursion P (xs ++ ys)
all_append P [] ys some others = others
all_append P (x ∷ xs) ys some others = (some.0, all_append P xs ys some.1 others)

all_map : {X Y : Type 0} (P : X → Type 0) (Q : Y → Type 0) (f : X → Y) → ((x : X) → P x → Q (f x)) → (xs : List X) → AllByRecursion P xs → AllByRecursion Q (map f xs)
all_map P Q f each [] all = tt
all_map P Q f each (x ∷ xs) all = (each x all.0, all_map P Q f each xs all.1)

section_fair : (start lines : List (List Token)) → AreFair start → AreFair lines → AreFair (section start lines)
section_fair start [] first others = tt
section_fair start (line ∷ lines) first others = all_append (AllByRecursion IsFair) start (line ∷ lines) first others

-- a word of the format
abbrev fair_word : (word : List ℕ) → Type 0
fair_word word = (is_word word ≡ true) × (begins_quote word ≡ false) × (begins_comment word ≡ false)

literal : (word : List ℕ) → fair_word word → IsFairWord word
literal word fits = record { bytes = fits.0; quote = fits.1; comment = fits.2 }

direction_fair : (dir : Dir3) → IsFair (direction dir)
direction_fair I = literal _ (refl, refl, refl)
direction_fair O = literal _ (refl, refl, refl)
direction_fair B = literal _ (refl, refl, refl)

kind_fair : (port : Bool) → IsFair (conn_kind port)
kind_fair true = literal _ (refl, refl, refl)
kind_fair false = literal _ (refl, refl, refl)

cell_fair : (name : Option (List ℕ)) → IfSome name (λ name. is_name name ≡ true) → AllByRecursion IsFair (cell name)
cell_fair None fits = tt
cell_fair (Some name) fits = (literal _ (refl, refl, refl), (name_fair name fits, tt))

conn_fair : (names : List (List ℕ)) (conn : SpefConn) → length names < 2 ^ 64 → IsConn names conn → AllByRecursion IsFair (conn_line conn)
conn_fair names conn small fits = (kind_fair conn.port, (end_fair names conn.end small fits.end, (direction_fair conn.dir, cell_fair conn.cell fits.cell)))

second_fair : (names : List (List ℕ)) (end : Option End) → length names < 2 ^ 64 → IfSome end (IsEnd names) → AllByRecursion IsFair (second_end end)
second_fair names None small fits = tt
second_fair names (Some end) small fits = (end_fair names end small fits, tt)

cap_fair : (names : List (List ℕ)) (number : ℕ) (cap : Cap) → length names < 2 ^ 64 → number < 2 ^ 64 → IsCap names cap → AllByRecursion IsFair (cap_line (number, cap))
cap_fair names number cap small few fits =
    (number_fair number few, (end_fair names cap.a small fits.a, all_append IsFair (second_end cap.b) (amount cap.value.0 ∷ []) (second_fair names cap.b small fits.b) (value_fair cap.value.0 fits.value, tt)))

resistor_fair : (names : List (List ℕ)) (number : ℕ) (resistor : SpefRes) → length names < 2 ^ 64 → number < 2 ^ 64 → IsResistor names resistor → AllByRecursion IsFair (resistor_line (number, resistor))
resistor_fair names number resistor small few fits =
    (number_fair number few, (end_fair names resistor.a small fits.a, (end_fair names resistor.b small fits.b, (value_fair resistor.value.0 fits.value, tt))))

-- numbered lines
numbered_fair : {X : Type 0} (P : X → Type 0) (line : ℕ × X → List Token) → ((n : ℕ) (x : X) → n < 2 ^ 64 → P x → AllByRecursion IsFair (line (n, x))) → (xs : List X) → 1 + length xs ≤ 2 ^ 64 → AllByRecursion P xs → AreFair (map line (enumerate_from 1 xs))
numbered_fair {X} P line each xs small all =
    all_map (λ numbered. AllByRecursion IsFair (line numbered)) (AllByRecursion IsFair) line (λ numbered fair. fair) (enumerate_from 1 xs)
    (numbered_fits P (λ numbered. AllByRecursion IsFair (line numbered)) each xs 1 small all)

net_fair : (names : List (List ℕ)) (net : DNet) → length names < 2 ^ 64 → NetFits names net → AreFair (net_block net)
net_fair names net small fits =
    let P : List Token → Type 0 = AllByRecursion IsFair in
    let c : List (List Token) = [] ∷ net_line net ∷ section (keyword (codes "*CONN") ∷ []) (map conn_line net.conns) in
    let k : List (List Token) = section (keyword (codes "*CAP") ∷ []) (map cap_line (enumerate_from 1 net.caps)) in
    let r : List (List Token) = section (keyword (codes "*RES") ∷ []) (map resistor_line (enumerate_from 1 net.res)) in
    let first : AllByRecursion IsFair (net_line net) = (literal _ (refl, refl, refl), (name_piece_fair net.name (omega (arith, fits.all.name.1)), (value_fair net.total.0 fits.all.total, tt))) in
    let conns = section_fair (keyword (codes "*CONN") ∷ []) (map conn_line net.conns) ((literal _ (refl, refl, refl), tt), tt)
    (all_map (IsConn names) P conn_line (λ conn is. conn_fair names conn small is) net.conns fits.all.conns) in
    let caps = section_fair (keyword (codes "*CAP") ∷ []) (map cap_line (enumerate_from 1 net.caps)) ((literal _ (refl, refl, refl), tt), tt)
    (numbered_fair (IsCap names) cap_line (λ n cap few is. cap_fair names n cap small few is) net.caps fits.caps fits.all.caps) in
    let res = section_fair (keyword (codes "*RES") ∷ []) (map resistor_line (enumerate_from 1 net.res)) ((literal _ (refl, refl, refl), tt), tt)
    (numbered_fair (IsResistor names) resistor_line (λ n resistor few is. resistor_fair names n resistor small few is) net.res fits.res fits.all.res) in
    all_append P (c ++ k ++ r) (keyword (codes "*END") ∷ []) (all_append P (c ++ k) r (all_append P c k (tt, (first, conns)) caps) res) ((literal _ (refl, refl, refl), tt), tt)

nets_fair : (names : List (List ℕ)) (nets : List DNet) → length names < 2 ^ 64 → AllByRecursion (NetFits names) nets → AreFair (flat_map net_block nets)
nets_fair names [] small fits = tt
nets_fair names (net ∷ nets) small fits = all_append (AllByRecursion IsFair) (net_block net) (flat_map net_block nets) (net_fair names net small fits.0) (nets_fair names nets small fits.1)

port_fair : (names : List (List ℕ)) (port : SpefPort) → length names < 2 ^ 64 → IsPlace names port.name → AllByRecursion IsFair (port_line port)
port_fair names port small fits = (name_piece_fair port.name (omega (arith, fits.1)), (direction_fair port.dir, tt))

name_line_fair : (number : ℕ) (name : List ℕ) → number < 2 ^ 64 → is_name name ≡ true → AllByRecursion IsFair (name_line (number, name))
name_line_fair number name few is = (name_piece_fair number few, (name_fair name is, tt))

-- a byte that stands for itself between two quotes
abbrev is_ordinary : ℕ → Bool
is_ordinary byte = not (byte == 34) && not (byte == 92)

quotable : (bytes : List ℕ) → list_all is_ordinary bytes ≡ true → IsQuotable bytes
quotable [] all = nothing
quotable (byte ∷ bytes) all =
    let both = and_both (is_ordinary byte) (list_all is_ordinary bytes) all in
    let each = and_both (not (byte == 34)) (not (byte == 92)) both.0 in
    plain byte bytes (eqb-false byte 34 (not_true (byte == 34) each.0)) (eqb-false byte 92 (not_true (byte == 92) each.1)) (quotable bytes both.1)

-- lines of words of the format and of quoted tokens
abbrev AreLiteral : Token → Type 0
AreLiteral (Word word) = fair_word word
AreLiteral (Quoted bytes) = list_all is_ordinary bytes ≡ true

literals : (line : List Token) → AllByRecursion AreLiteral line → AllByRecursion IsFair line
literals [] all = tt
literals (Word word ∷ line) all = (literal word all.0, literals line all.1)
literals (Quoted bytes ∷ line) all = (quotable bytes all.0, literals line all.1)

header_fair : (spef : Spef) → IsQuotable spef.design → is_mark spef.divider ≡ true → is_mark spef.bus_left ≡ true → is_mark spef.bus_right ≡ true → AreFair (header spef)
header_fair spef design divider left right = (
  literals (Word (codes "*SPEF") ∷ Quoted (codes "IEEE 1481-1998") ∷ []) ((refl, refl, refl), (refl, tt)),
  (
    (literal (codes "*DESIGN") (refl, refl, refl), (design, tt)),
    (
      literals (Word (codes "*DATE") ∷ Quoted (codes "Thu Jan 1 00:00:00 1970") ∷ []) ((refl, refl, refl), (refl, tt)),
      (
        literals (Word (codes "*VENDOR") ∷ Quoted (codes "rcx") ∷ []) ((refl, refl, refl), (refl, tt)),
        (
          literals (Word (codes "*PROGRAM") ∷ Quoted (codes "rcx") ∷ []) ((refl, refl, refl), (refl, tt)),
          (
            literals (Word (codes "*VERSION") ∷ Quoted (codes "1") ∷ []) ((refl, refl, refl), (refl, tt)),
            (
              literals (Word (codes "*DESIGN_FLOW") ∷ Quoted (codes "NAME_SCOPE LOCAL") ∷ Quoted (codes "PIN_CAP NONE") ∷ []) ((refl, refl, refl), (refl, (refl, tt))),
              (
                (literal (codes "*DIVIDER") (refl, refl, refl), (mark_fair spef.divider divider, tt)),
                (
                  literals (Word (codes "*DELIMITER") ∷ Word (codes ":") ∷ []) ((refl, refl, refl), ((refl, refl, refl), tt)),
                  (
                    (literal (codes "*BUS_DELIMITER") (refl, refl, refl), (mark_fair spef.bus_left left, (mark_fair spef.bus_right right, tt))),
                    (
                      literals (Word (codes "*T_UNIT") ∷ Word (codes "1") ∷ Word (codes "PS") ∷ []) ((refl, refl, refl), ((refl, refl, refl), ((refl, refl, refl), tt))),
                      (
                        literals (Word (codes "*C_UNIT") ∷ Word (codes "1") ∷ Word (codes "FF") ∷ []) ((refl, refl, refl), ((refl, refl, refl), ((refl, refl, refl), tt))),
                        (
                          literals (Word (codes "*R_UNIT") ∷ Word (codes "1") ∷ Word (codes "OHM") ∷ []) ((refl, refl, refl), ((refl, refl, refl), ((refl, refl, refl), tt))),
                          (
                            literals (Word (codes "*L_UNIT") ∷ Word (codes "1") ∷ Word (codes "HENRY") ∷ []) ((refl, refl, refl), ((refl, refl, refl), ((refl, refl, refl), tt))),
                            tt,
                          ),
                        ),
                      ),
                    ),
                  ),
                ),
              ),
            ),
          ),
        ),
      ),
    ),
  ),
)

pub spef_fair : (spef : Spef) → IsWritable spef → SpefFits spef → AreFair (spef_lines spef)
spef_fair spef writable fits =
    let small : length spef.names < 2 ^ 64 = omega (arith, fits.few) in
    let names = section_fair ([] ∷ keyword (codes "*NAME_MAP") ∷ []) (map name_line (enumerate_from 1 spef.names)) (tt, ((literal _ (refl, refl, refl), tt), tt))
    (numbered_fair (λ name. is_name name ≡ true) name_line (λ n name few is. name_line_fair n name few is) spef.names fits.few fits.names) in
    let ports = section_fair ([] ∷ keyword (codes "*PORTS") ∷ []) (map port_line spef.ports) (tt, ((literal _ (refl, refl, refl), tt), tt))
    (all_map (λ port. IsPlace spef.names port.name) (AllByRecursion IsFair) port_line (λ port is. port_fair spef.names port small is) spef.ports fits.ports) in
    all_append (AllByRecursion IsFair) (head_lines spef) (flat_map net_block spef.nets)
    (all_append (AllByRecursion IsFair) (header spef ++ name_map spef.names) (ports_text spef.ports)
    (all_append (AllByRecursion IsFair) (header spef) (name_map spef.names) (header_fair spef writable.design writable.divider writable.bus_left writable.bus_right) names) ports)
    (nets_fair spef.names spef.nets small fits.nets)

-- ---- lengths

line_some : (line : List Token) → 1 ≤ length (line_text line)
line_some [] = omega arith
line_some (token ∷ []) = omega (arith, length-append (shown token) (10 ∷ []))
line_some (token ∷ next ∷ tokens) = omega (arith, length-append (shown token) (32 ∷ line_text (next ∷ tokens)))

lines_long : (lines : List (List Token)) → length lines ≤ length (lines_text lines)
lines_long [] = omega arith
lines_long (line ∷ lines) = omega (arith, lines_long lines, line_some line, length-append (line_text line) (lines_text lines))

section_long : (start lines : List (List Token)) → length lines ≤ length (section start lines)
section_long start [] = omega arith
section_long start (line ∷ lines) = omega (arith, length-append start (line ∷ lines))

numbered_long : {X : Type 0} (start : List (List Token)) (line : ℕ × X → List Token) (xs : List X) → length xs ≤ length (section start (map line (enumerate_from 1 xs)))
numbered_long start line xs = omega (arith, section_long start (map line (enumerate_from 1 xs)), length-map (enumerate_from 1 xs) line, length-enumerate_from 1 xs)

net_long : (net : DNet) → (length net.caps ≤ length (net_block net)) × (length net.res ≤ length (net_block net))
net_long net =
    let conns : List (List Token) = [] ∷ net_line net ∷ section (keyword (codes "*CONN") ∷ []) (map conn_line net.conns) in
    let caps : List (List Token) = section (keyword (codes "*CAP") ∷ []) (map cap_line (enumerate_from 1 net.caps)) in
    let res : List (List Token) = section (keyword (codes "*RES") ∷ []) (map resistor_line (enumerate_from 1 net.res)) in
    let last : List (List Token) = keyword (codes "*END") ∷ [] in
    let whole : length (net_block net) ≡ length conns + length caps + length res + length last =
    omega (arith, length-append (conns ++ caps ++ res) last, length-append (conns ++ caps) res, length-append conns caps) in
    (omega (arith, whole, numbered_long (keyword (codes "*CAP") ∷ []) cap_line net.caps), omega (arith, whole, numbered_long (keyword (codes "*RES") ∷ []) resistor_line net.res))

nets_fit : (names : List (List ℕ)) (nets : List DNet) → AllByRecursion (IsNet names) nets → length (flat_map net_block nets) < 2 ^ 64 → AllByRecursion (NetFits names) nets
nets_fit names [] all short = tt
nets_fit names (net ∷ nets) all short =
    let parts = length-append (net_block net) (flat_map net_block nets) in
    let long = net_long net in
    (record { all = all.0; caps = omega (arith, parts, long.0); res = omega (arith, parts, long.1) }, nets_fit names nets all.1 (omega (arith, parts)))

pub spef_fits : (spef : Spef) → IsWritable spef → SpefFits spef
unfolding spef_text
spef_fits spef writable =
    let names : List (List Token) = name_map spef.names in
    let ports : List (List Token) = ports_text spef.ports in
    let nets : List (List Token) = flat_map net_block spef.nets in
    let whole : length (spef_lines spef) ≡ length (header spef) + length names + length ports + length nets =
    omega (arith, length-append (header spef ++ names ++ ports) nets, length-append (header spef ++ names) ports, length-append (header spef) names) in
    let long : length (spef_lines spef) ≤ 2 ^ 30 = omega (arith, lines_long (spef_lines spef), writable.text) in
    record {
      few = omega (arith, whole, long, numbered_long ([] ∷ keyword (codes "*NAME_MAP") ∷ []) name_line spef.names);
      names = writable.names;
      ports = writable.ports;
      nets = nets_fit spef.names spef.nets writable.nets (omega (arith, whole, long));
    }
