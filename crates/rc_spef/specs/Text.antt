-- The text of parasitics, after the SPEF chapter of IEEE 1481. A line is its tokens with a blank between them.
use Rattle.std.specs.Prelude.{ℕ, Bool, true, false, List, [], ◌∷◌, ◌++◌, Option, Some, None, codes, map}
use Rattle.std.specs.Fmt.{decimal}
use Rattle.std.specs.List.{enumerate_from, flat_map}
use Rattle.rc_fixed.specs.Decimal.{decimal_text}
use Rattle.rc_spef.specs.declared.value.Spef.{Spef}
use Rattle.rc_spef.specs.declared.value.SpefPort.{SpefPort}
use Rattle.rc_spef.specs.declared.value.SpefConn.{SpefConn}
use Rattle.rc_spef.specs.declared.value.SpefRes.{SpefRes}
use Rattle.rc_spef.specs.declared.value.DNet.{DNet}
use Rattle.rc_spef.specs.declared.value.Cap.{Cap}
use Rattle.rc_spef.specs.declared.value.End.{End}
use Rattle.rc_spef.specs.declared.value.Sub.{Sub}
use Rattle.rc_spef.specs.declared.value.Sub.TheVariants as sub
use Rattle.rc_spef.specs.declared.value.Dir3.{Dir3}
use Rattle.rc_spef.specs.declared.value.Dir3.TheVariants.{I, O, B}

-- a token: a word, or what stands between two quotes
pub data Token : Type 0 where
  Word : (bytes : List ℕ) → Token
  Quoted : (bytes : List ℕ) → Token

-- a token as it is written
abbrev pub shown : Token → List ℕ
shown (Word bytes) = bytes
shown (Quoted bytes) = 34 ∷ bytes ++ 34 ∷ []

-- tokens with a blank between them, and the end of the line
abbrev pub line_text : List Token → List ℕ
line_text [] = 10 ∷ []
line_text (token ∷ []) = shown token ++ 10 ∷ []
line_text (token ∷ next ∷ tokens) = shown token ++ 32 ∷ line_text (next ∷ tokens)

abbrev pub lines_text : List (List Token) → List ℕ
lines_text lines = flat_map line_text lines

abbrev pub header : Spef → List (List Token)
header spef =
    (Word (codes "*SPEF") ∷ Quoted (codes "IEEE 1481-1998") ∷ [])
    ∷ (Word (codes "*DESIGN") ∷ Quoted spef.design ∷ [])
    ∷ (Word (codes "*DATE") ∷ Quoted (codes "Thu Jan 1 00:00:00 1970") ∷ [])
    ∷ (Word (codes "*VENDOR") ∷ Quoted (codes "rcx") ∷ [])
    ∷ (Word (codes "*PROGRAM") ∷ Quoted (codes "rcx") ∷ [])
    ∷ (Word (codes "*VERSION") ∷ Quoted (codes "1") ∷ [])
    ∷ (Word (codes "*DESIGN_FLOW") ∷ Quoted (codes "NAME_SCOPE LOCAL") ∷ Quoted (codes "PIN_CAP NONE") ∷ [])
    ∷ (Word (codes "*DIVIDER") ∷ Word (spef.divider ∷ []) ∷ [])
    ∷ (Word (codes "*DELIMITER") ∷ Word (codes ":") ∷ [])
    ∷ (Word (codes "*BUS_DELIMITER") ∷ Word (spef.bus_left ∷ []) ∷ Word (spef.bus_right ∷ []) ∷ [])
    ∷ (Word (codes "*T_UNIT") ∷ Word (codes "1") ∷ Word (codes "PS") ∷ [])
    ∷ (Word (codes "*C_UNIT") ∷ Word (codes "1") ∷ Word (codes "FF") ∷ [])
    ∷ (Word (codes "*R_UNIT") ∷ Word (codes "1") ∷ Word (codes "OHM") ∷ [])
    ∷ (Word (codes "*L_UNIT") ∷ Word (codes "1") ∷ Word (codes "HENRY") ∷ [])
    ∷ []

-- a section's head and its lines; nothing where it has no line
abbrev pub section : List (List Token) → List (List Token) → List (List Token)
section head [] = []
section head (first ∷ others) = head ++ first ∷ others

-- a line of one word
abbrev pub keyword : List ℕ → List Token
keyword word = Word word ∷ []

-- `*` and the number of a name
abbrev pub name_token : ℕ → Token
name_token name = Word (42 ∷ decimal name)

abbrev pub name_line : ℕ × List ℕ → List Token
name_line named = name_token named.0 ∷ Word named.1 ∷ []

-- names are numbered from 1
abbrev pub name_map : List (List ℕ) → List (List Token)
name_map names = section ([] ∷ keyword (codes "*NAME_MAP") ∷ []) (map name_line (enumerate_from 1 names))

abbrev pub direction : Dir3 → Token
direction I = Word (codes "I")
direction O = Word (codes "O")
direction B = Word (codes "B")

abbrev pub port_line : SpefPort → List Token
port_line port = name_token port.name ∷ direction port.dir ∷ []

abbrev pub ports_text : List SpefPort → List (List Token)
ports_text ports = section ([] ∷ keyword (codes "*PORTS") ∷ []) (map port_line ports)

-- what stands behind the number of a name
abbrev pub sub_text : Sub → List ℕ
sub_text sub.Bare = []
sub_text (sub.Num number) = 58 ∷ decimal number
sub_text (sub.Word word) = 58 ∷ word

abbrev pub end_token : End → Token
end_token end = Word (42 ∷ decimal end.name ++ sub_text end.sub)

abbrev pub second_end : Option End → List Token
second_end None = []
second_end (Some end) = end_token end ∷ []

-- the same as it is written behind other tokens
abbrev pub second_text : Option End → List ℕ
second_text None = []
second_text (Some end) = 32 ∷ shown (end_token end)

abbrev pub amount : ℕ → Token
amount value = Word (decimal_text value)

abbrev pub cell : Option (List ℕ) → List Token
cell None = []
cell (Some name) = Word (codes "*D") ∷ Word name ∷ []

-- the same as it is written behind other tokens
abbrev pub cell_text : Option (List ℕ) → List ℕ
cell_text None = []
cell_text (Some name) = codes " *D " ++ name

abbrev pub conn_kind : Bool → Token
conn_kind true = Word (codes "*P")
conn_kind false = Word (codes "*I")

abbrev pub conn_line : SpefConn → List Token
conn_line conn = conn_kind conn.port ∷ end_token conn.end ∷ direction conn.dir ∷ cell conn.cell

abbrev pub cap_line : ℕ × Cap → List Token
cap_line numbered =
    Word (decimal numbered.0) ∷ end_token numbered.1.a ∷ second_end numbered.1.b ++ amount numbered.1.value.0 ∷ []

abbrev pub resistor_line : ℕ × SpefRes → List Token
resistor_line numbered =
    Word (decimal numbered.0) ∷ end_token numbered.1.a ∷ end_token numbered.1.b ∷ amount numbered.1.value.0 ∷ []

abbrev pub net_line : DNet → List Token
net_line net = Word (codes "*D_NET") ∷ name_token net.name ∷ amount net.total.0 ∷ []

-- an empty line and the lines of a net; the lines of capacitances and of resistors are numbered from 1
abbrev pub net_block : DNet → List (List Token)
net_block net =
    [] ∷ net_line net ∷ section (keyword (codes "*CONN") ∷ []) (map conn_line net.conns)
    ++ section (keyword (codes "*CAP") ∷ []) (map cap_line (enumerate_from 1 net.caps))
    ++ section (keyword (codes "*RES") ∷ []) (map resistor_line (enumerate_from 1 net.res))
    ++ keyword (codes "*END") ∷ []

-- what stands before the blocks of the nets
abbrev pub head_lines : Spef → List (List Token)
head_lines spef = header spef ++ name_map spef.names ++ ports_text spef.ports

abbrev pub spef_lines : Spef → List (List Token)
spef_lines spef = head_lines spef ++ flat_map net_block spef.nets

-- the text of a value, what stands before its nets' blocks, and a net's block
unfoldable pub spef_text : Spef → List ℕ
spef_text spef = lines_text (spef_lines spef)

unfoldable pub head_text : Spef → List ℕ
head_text spef = lines_text (head_lines spef)

unfoldable pub net_text : DNet → List ℕ
net_text net = lines_text (net_block net)
