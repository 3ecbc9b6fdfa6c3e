-- The lines of a text, one behind another.
use Rattle.std.proofs.Common.{◌≡◌, ℕ, suc, ◌+◌, ◌<◌, ◌≤◌, false, List, [], ◌∷◌, ◌++◌, length, take, get_or, refl, ap, sym, ◌∙◌, arith, append-nil, append_assoc, Option, Some, None}
use Rattle.std.specs.Prelude.{◌==◌, codes, map}
use Rattle.std.specs.Fmt.{decimal}
use Rattle.std.specs.List.{enumerate_from, flat_map}
use Rattle.std.proofs.lemmas.List.{map-append, take_all, take_more, length-take-le}
use Rattle.std.proofs.lemmas.List.Concat.{flat_map-append}
use Rattle.rc_fixed.specs.Decimal.{decimal_text}
use Rattle.rc_spef.specs.declared.value.Spef.{Spef}
use Rattle.rc_spef.specs.declared.value.SpefConn.{SpefConn}
use Rattle.rc_spef.specs.declared.value.DNet.{DNet}
use Rattle.rc_spef.specs.declared.value.End.{End}
use Rattle.rc_spef.specs.Text.{Token, Word, shown, line_text, lines_text, header, section, keyword, name_map, ports_text, direction, end_token, second_end, second_text, amount, cell, cell_text, conn_kind, conn_line, cap_line, resistor_line, net_block, spef_text, head_lines, head_text, net_text}
use Rattle.rc_spef.specs.Laws.{HeadAndBlocks}
use Rattle.rc_spef.specs.Buffering.{AtSink, Puts}
use Rattle.rc_spef.proofs.Puts.{puts_then, puts_is}

pub cap_parts : (number : ℕ) (a : End) (b : Option End) (value : ℕ) →
    decimal number ++ ((32 ∷ shown (end_token a)) ++ (second_text b ++ (32 ∷ decimal_text value ++ 10 ∷ []))) ≡ line_text (Word (decimal number) ∷ end_token a ∷ second_end b ++ amount value ∷ [])
cap_parts number a None value = refl
cap_parts number a (Some b) value = refl

pub conn_parts : (conn : SpefConn) →
    shown (conn_kind conn.port) ++ ((32 ∷ shown (end_token conn.end)) ++ ((32 ∷ shown (direction conn.dir)) ++ (cell_text conn.cell ++ 10 ∷ []))) ≡ line_text (conn_line conn)
conn_parts conn = by_cell conn.cell (conn_kind conn.port) (end_token conn.end) (direction conn.dir)
  where
    by_cell : (known : Option (List ℕ)) (kind end dir : Token) →
        shown kind ++ ((32 ∷ shown end) ++ ((32 ∷ shown dir) ++ (cell_text known ++ 10 ∷ []))) ≡ line_text (kind ∷ end ∷ dir ∷ cell known)
    by_cell None kind end dir = refl
    by_cell (Some name) kind end dir = refl

quoted_line : (name rest : List ℕ) → name ++ (34 ∷ 10 ∷ rest) ≡ ((name ++ 34 ∷ []) ++ 10 ∷ []) ++ rest
quoted_line name rest = simp append_assoc

-- the parts in which a header is written
pub header_parts : (spef : Spef) →
    codes "*SPEF \"IEEE 1481-1998\"\n*DESIGN \"" ++ (spef.design
    ++ (codes "\"\n*DATE \"Thu Jan 1 00:00:00 1970\"\n*VENDOR \"rcx\"\n*PROGRAM \"rcx\"\n*VERSION \"1\"\n*DESIGN_FLOW \"NAME_SCOPE LOCAL\" \"PIN_CAP NONE\"\n*DIVIDER "
    ++ ((spef.divider ∷ []) ++ (codes "\n*DELIMITER :\n*BUS_DELIMITER " ++ ((spef.bus_left ∷ []) ++ (codes " " ++ ((spef.bus_right ∷ []) ++ codes "\n*T_UNIT 1 PS\n*C_UNIT 1 FF\n*R_UNIT 1 OHM\n*L_UNIT 1 HENRY\n")))))))
    ≡ lines_text (header spef)
header_parts spef =
    ap (λ (rest : List ℕ). codes "*SPEF \"IEEE 1481-1998\"\n*DESIGN \"" ++ rest)
    (quoted_line spef.design (codes "*DATE \"Thu Jan 1 00:00:00 1970\"\n*VENDOR \"rcx\"\n*PROGRAM \"rcx\"\n*VERSION \"1\"\n*DESIGN_FLOW \"NAME_SCOPE LOCAL\" \"PIN_CAP NONE\"\n*DIVIDER "
    ++ ((spef.divider ∷ []) ++ (codes "\n*DELIMITER :\n*BUS_DELIMITER " ++ ((spef.bus_left ∷ []) ++ (codes " " ++ ((spef.bus_right ∷ []) ++ codes "\n*T_UNIT 1 PS\n*C_UNIT 1 FF\n*R_UNIT 1 OHM\n*L_UNIT 1 HENRY\n")))))))

pub lines_append : (some others : List (List Token)) → lines_text some ++ lines_text others ≡ lines_text (some ++ others)
lines_append some others = sym (flat_map-append line_text some others)

four_parts : (a b c d : List (List Token)) → lines_text a ++ (lines_text b ++ (lines_text c ++ lines_text d)) ≡ lines_text (a ++ b ++ c ++ d)
four_parts a b c d =
    sym (append_assoc (lines_text a) (lines_text b) (lines_text c ++ lines_text d))
    ∙ sym (append_assoc (lines_text a ++ lines_text b) (lines_text c) (lines_text d))
    ∙ ap (λ (text : List ℕ). (text ++ lines_text c) ++ lines_text d) (lines_append a b)
    ∙ ap (λ (text : List ℕ). text ++ lines_text d) (lines_append (a ++ b) c)
    ∙ lines_append (a ++ b ++ c) d

three_parts : (a b c : List (List Token)) → lines_text a ++ (lines_text b ++ lines_text c) ≡ lines_text (a ++ b ++ c)
three_parts a b c = ap (λ (text : List ℕ). lines_text a ++ text) (lines_append b c) ∙ lines_append a (b ++ c) ∙ ap lines_text (sym (append_assoc a b c))

-- the parts in which a net is written
pub net_parts : (net : DNet) →
    codes "\n*D_NET *" ++ (decimal net.name ++ ((32 ∷ decimal_text net.total.0 ++ 10 ∷ []) ++ (lines_text (section (keyword (codes "*CONN") ∷ []) (map conn_line net.conns))
    ++ (lines_text (section (keyword (codes "*CAP") ∷ []) (map cap_line (enumerate_from 1 net.caps))) ++ (lines_text (section (keyword (codes "*RES") ∷ []) (map resistor_line (enumerate_from 1 net.res))) ++ codes "*END\n")))))
    ≡ lines_text (net_block net)
net_parts net =
    let conns : List (List Token) = section (keyword (codes "*CONN") ∷ []) (map conn_line net.conns) in
    let caps : List (List Token) = section (keyword (codes "*CAP") ∷ []) (map cap_line (enumerate_from 1 net.caps)) in
    let res : List (List Token) = section (keyword (codes "*RES") ∷ []) (map resistor_line (enumerate_from 1 net.res)) in
    let last : List (List Token) = keyword (codes "*END") ∷ [] in
    ap (λ (rest : List ℕ). codes "\n*D_NET *" ++ (decimal net.name ++ ((32 ∷ decimal_text net.total.0 ++ 10 ∷ []) ++ rest))) (four_parts conns caps res last)
    ∙ ap (λ (rest : List ℕ). codes "\n*D_NET *" ++ rest) (sym (append_assoc (decimal net.name) (32 ∷ decimal_text net.total.0 ++ 10 ∷ []) (lines_text (conns ++ caps ++ res ++ last))))

-- the parts in which a text is written
pub head_parts : (spef : Spef) → lines_text (header spef) ++ (lines_text (name_map spef.names) ++ lines_text (ports_text spef.ports)) ≡ head_text spef
unfolding head_text
head_parts spef = three_parts (header spef) (name_map spef.names) (ports_text spef.ports)

pub spef_parts : (spef : Spef) → head_text spef ++ lines_text (flat_map net_block spef.nets) ≡ spef_text spef
unfolding spef_text head_text
spef_parts spef = lines_append (head_lines spef) (flat_map net_block spef.nets)

-- ---- loops

-- the lines of a list, which grow by a block with each item
pub record Grows {X : Type 0} (lines : List X → List (List Token)) (block : ℕ → X → List (List Token)) : Type 0 where
  pub more : (xs : List X) (x : X) → lines (xs ++ x ∷ []) ≡ lines xs ++ block (length xs) x

numbered_push : {X : Type 0} (n : ℕ) (xs : List X) (x : X) → enumerate_from n (xs ++ x ∷ []) ≡ enumerate_from n xs ++ (length xs + n, x) ∷ []
numbered_push n [] x = let same : n ≡ 0 + n = omega arith in ap (λ (k : ℕ). (k, x) ∷ []) same
numbered_push n (y ∷ ys) x =
    let same : length ys + (n + 1) ≡ suc (length ys) + n = omega arith in
    ap (λ rest. (n, y) ∷ rest) (numbered_push (n + 1) ys x ∙ ap (λ (k : ℕ). enumerate_from (n + 1) ys ++ (k, x) ∷ []) same)

pub numbered_grow : {X : Type 0} (line : ℕ × X → List Token) → Grows (λ xs. map line (enumerate_from 1 xs)) (λ n x. line (n + 1, x) ∷ [])
numbered_grow line = record { more = λ xs x. ap (map line) (numbered_push 1 xs x) ∙ map-append line (enumerate_from 1 xs) ((length xs + 1, x) ∷ []) }

pub lines_grow : {X : Type 0} (line : X → List Token) → Grows (map line) (λ n x. line x ∷ [])
lines_grow line = record { more = λ xs x. map-append line xs (x ∷ []) }

pub blocks_grow : {X : Type 0} (block : X → List (List Token)) → Grows (flat_map block) (λ n x. block x)
blocks_grow block = record { more = λ xs x. flat_map-append block xs (x ∷ []) ∙ ap (λ (last : List (List Token)). flat_map block xs ++ last) (append-nil (block x)) }

-- one item more is put
pub put_more : {X : Type 0} {lines : List X → List (List Token)} {block : ℕ → X → List (List Token)} → Grows lines block → (start : List (List Token)) (xs : List X) (i : ℕ) (x : X) {s t u : AtSink} →
    i < length xs → x ≡ get_or xs i x → Puts s t (lines_text (start ++ lines (take i xs))) → Puts t u (lines_text (block i x)) → Puts s u (lines_text (start ++ lines (take (i + 1) xs)))
put_more {X} {lines} {block} grows start xs i x within is before one =
    let front : take (i + 1) xs ≡ take i xs ++ x ∷ [] = take_more xs i x within ∙ ap (λ y. take i xs ++ y ∷ []) (sym is) in
    let long : length (take i xs) ≡ i = length-take-le i xs (omega arith) in
    let more : lines (take (i + 1) xs) ≡ lines (take i xs) ++ block i x = ap lines front ∙ grows.more (take i xs) x ∙ ap (λ n. lines (take i xs) ++ block n x) long in
    puts_is (puts_then before one)
    (lines_append (start ++ lines (take i xs)) (block i x)
    ∙ ap lines_text (append_assoc start (lines (take i xs)) (block i x) ∙ ap (λ (ls : List (List Token)). start ++ ls) (sym more)))

-- all items are put
pub put_whole : {X : Type 0} (lines : List X → List (List Token)) (start : List (List Token)) (xs : List X) (i : ℕ) {s t : AtSink} → length xs ≤ i → Puts s t (lines_text (start ++ lines (take i xs))) → Puts s t (lines_text (start ++ lines xs))
put_whole lines start xs i all puts = puts_is puts (ap (λ xs. lines_text (start ++ lines xs)) (take_all i xs all))

-- a section that has lines
pub section_is : {X : Type 0} (line : X → List Token) (start : List (List Token)) (xs : List X) → (length xs == 0) ≡ false → start ++ map line xs ≡ section start (map line xs)
section_is line start [] some = cc
section_is line start (x ∷ xs) some = refl

pub numbered_section_is : {X : Type 0} (line : ℕ × X → List Token) (start : List (List Token)) (xs : List X) → (length xs == 0) ≡ false → start ++ map line (enumerate_from 1 xs) ≡ section start (map line (enumerate_from 1 xs))
numbered_section_is line start [] some = cc
numbered_section_is line start (x ∷ xs) some = refl

-- a numbered line alone
pub numbered_line : {X : Type 0} (line : ℕ × X → List Token) (number i : ℕ) (x : X) {t u : AtSink} → number ≡ i → Puts t u (line_text (line (number + 1, x))) → Puts t u (lines_text (line (i + 1, x) ∷ []))
numbered_line line number i x same puts = puts_is puts (sym (append-nil (line_text (line (number + 1, x)))) ∙ ap (λ n. lines_text (line (n + 1, x) ∷ [])) same)

-- a line alone
pub one_line : {X : Type 0} (line : X → List Token) (x : X) {t u : AtSink} → Puts t u (line_text (line x)) → Puts t u (lines_text (line x ∷ []))
one_line line x puts = puts_is puts (sym (append-nil (line_text (line x))))

blocks_of : (nets : List DNet) → lines_text (flat_map net_block nets) ≡ flat_map net_text nets
unfolding net_text
blocks_of [] = refl
blocks_of (net ∷ nets) = sym (lines_append (net_block net) (flat_map net_block nets)) ∙ ap (λ (rest : List ℕ). lines_text (net_block net) ++ rest) (blocks_of nets)

pub head_and_blocks : HeadAndBlocks
head_and_blocks spef = sym (spef_parts spef) ∙ ap (λ (blocks : List ℕ). head_text spef ++ blocks) (blocks_of spef.nets)
