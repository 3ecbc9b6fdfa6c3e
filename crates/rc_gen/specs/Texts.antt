-- The texts of a generated design: two nets a row, one across on m1 and one upright on m2; and the texts of its technology, of
-- three routing layers, and of its rules.
use Rattle.std.specs.Prelude.{ℕ, ◌+◌, ◌*◌, List, ◌∷◌, ◌++◌, codes}
use Rattle.std.specs.Fmt.{decimal}
use Rattle.std.specs.List.{range_with_len, flat_map}
use Rattle.rc_gen.specs.declared.design.Place.{Place}
use Rattle.rc_gen.specs.declared.design.Wire.{Wire}
use Rattle.rc_gen.specs.Draws.{offset}

-- ---- the design (LEF/DEF 5.8 Language Reference, chapter 'DEF Syntax')

abbrev pub point_text : Place → List ℕ
point_text at = codes "( " ++ decimal at.x ++ codes " " ++ decimal at.y ++ codes " ) "

abbrev pub name_text : Wire → List ℕ
name_text wire = codes "- " ++ wire.letter ∷ decimal wire.number

abbrev pub layer_text : Wire → List ℕ
layer_text wire = codes " + ROUTED m" ++ decimal wire.layer ++ codes " "

-- a net of one wire, on one line
unfoldable pub wire_text : Wire → List ℕ
wire_text wire = name_text wire ++ layer_text wire ++ point_text wire.from ++ point_text wire.to ++ codes ";\n"

-- 10 micron from left to right on m1, 0.4 micron above the row before
abbrev pub across : ℕ → ℕ → Wire
across row x = record {
  letter = 104;
  number = row;
  layer = 1;
  from = record { x = x; y = 400 * row };
  to = record { x = x + 10000; y = 400 * row };
}

-- 10 micron upwards on m2, 0.4 micron to the right of the row before
abbrev pub upright : ℕ → ℕ → Wire
upright row y = record {
  letter = 118;
  number = row;
  layer = 2;
  from = record { x = 400 * row; y = y };
  to = record { x = 400 * row; y = y + 10000 };
}

-- the two nets of a row, each of which takes a draw
abbrev pub row_text : ℕ → ℕ → List ℕ
row_text seed row =
    wire_text (across row (offset seed (2 * row + 1))) ++ wire_text (upright row (offset seed (2 * row + 2)))

unfoldable pub rows_text : ℕ → ℕ → List ℕ
rows_text seed rows = flat_map (row_text seed) (range_with_len 0 rows)

unfoldable pub design_text : ℕ → ℕ → List ℕ
design_text seed rows =
    codes "VERSION 5.8 ;\nDESIGN t ;\nUNITS DISTANCE MICRONS 1000 ;\nNETS " ++ decimal (2 * rows) ++ codes " ;\n"
    ++ rows_text seed rows ++ codes "END NETS\nEND DESIGN\n"

-- ---- the technology (chapter 'LEF Syntax')

unfoldable pub tech_text : List ℕ
tech_text =
    codes "UNITS\n  DATABASE MICRONS 1000 ;\nEND UNITS\n"
    ++ codes "LAYER m1\n  TYPE ROUTING ;\n  WIDTH 0.1 ;\nEND m1\n"
    ++ codes "LAYER v1\n  TYPE CUT ;\nEND v1\n"
    ++ codes "LAYER m2\n  TYPE ROUTING ;\n  WIDTH 0.1 ;\nEND m2\n"
    ++ codes "LAYER v2\n  TYPE CUT ;\nEND v2\n"
    ++ codes "LAYER m3\n  TYPE ROUTING ;\n  WIDTH 0.1 ;\nEND m3\n"
    ++ codes "VIA V12 DEFAULT\n  LAYER m1 ;\n    RECT -0.05 -0.05 0.05 0.05 ;\n  LAYER v1 ;\n    RECT -0.025 -0.025 0.025 0.025 ;\n  LAYER m2 ;\n    RECT -0.05 -0.05 0.05 0.05 ;\nEND V12\n"
    ++ codes "VIA V23 DEFAULT\n  LAYER m2 ;\n    RECT -0.05 -0.05 0.05 0.05 ;\n  LAYER v2 ;\n    RECT -0.025 -0.025 0.025 0.025 ;\n  LAYER m3 ;\n    RECT -0.05 -0.05 0.05 0.05 ;\nEND V23\n"
    ++ codes "END LIBRARY\n"

-- ---- the rules

unfoldable pub rules_text : List ℕ
rules_text =
    codes "RCXRULES 1 ;\n"
    ++ codes "LAYER m1 ;\n  WIDTHS 0.1 0.2 ;\n  DISTS 0.1 0.3 ;\n  RES 2 1 ;\n"
    ++ codes "  TABLE UNDER NONE OVER NONE ;\n    ROW 0.1 0.2 0.15 0.1 0.3 ;\n    ROW 0.2 0.3 0.25 0.2 0.4 ;\n"
    ++ codes "END LAYER ;\n"
    ++ codes "LAYER m2 ;\n  WIDTHS 0.1 0.2 ;\n  DISTS 0.1 0.3 ;\n  RES 1 0.5 ;\n"
    ++ codes "  TABLE UNDER NONE OVER NONE ;\n    ROW 0.1 0.2 0.15 0.1 0.3 ;\n    ROW 0.2 0.3 0.25 0.2 0.4 ;\n"
    ++ codes "  TABLE UNDER m1 OVER NONE ;\n    ROW 0.3 0.1 0.35 0.05 0.5 ;\n    ROW 0.4 0.2 0.45 0.1 0.6 ;\n"
    ++ codes "END LAYER ;\n"
    ++ codes "LAYER m3 ;\n  WIDTHS 0.1 0.2 ;\n  DISTS 0.1 0.3 ;\n  RES 2 1 ;\n"
    ++ codes "  TABLE UNDER NONE OVER NONE ;\n    ROW 0.1 0.2 0.15 0.1 0.3 ;\n    ROW 0.2 0.3 0.25 0.2 0.4 ;\n"
    ++ codes "END LAYER ;\n"
    ++ codes "VIA v1 10 ;\nVIA v2 10 ;\nCONTACT 5 ;\nEND RULES ;\n"
