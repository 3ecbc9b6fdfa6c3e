-- The keywords of the five formats, in the order of their numbers.
use Rattle.std.specs.Prelude.{◌≢◌, ℕ, List, [], ◌∷◌, AllPairs, codes}

-- no word stands at two places
unfoldable pub AreDifferent : List (List ℕ) → Type 0
AreDifferent words = AllPairs (λ a b. a ≢ b) words

-- the keywords of LEF
unfoldable pub lef_words : List (List ℕ)
lef_words =
    codes ";" ∷ codes "(" ∷ codes ")" ∷ codes "+" ∷ codes "-" ∷ codes "UNITS" ∷ codes "DATABASE" ∷
    codes "MICRONS" ∷ codes "END" ∷ codes "LIBRARY" ∷ codes "LAYER" ∷ codes "TYPE" ∷ codes "ROUTING" ∷
    codes "CUT" ∷ codes "WIDTH" ∷ codes "VIA" ∷ codes "DEFAULT" ∷ codes "TOPOFSTACKONLY" ∷ codes "VIARULE" ∷
    codes "CUTSIZE" ∷ codes "LAYERS" ∷ codes "CUTSPACING" ∷ codes "ENCLOSURE" ∷ codes "ROWCOL" ∷
    codes "RECT" ∷ codes "MASK" ∷ codes "POLYGON" ∷ codes "ORIGIN" ∷ codes "OFFSET" ∷ codes "PATTERN" ∷
    codes "NONDEFAULTRULE" ∷ codes "SPACING" ∷ codes "MACRO" ∷ codes "SIZE" ∷ codes "BY" ∷ codes "PIN" ∷
    codes "DIRECTION" ∷ codes "INPUT" ∷ codes "OUTPUT" ∷ codes "TRISTATE" ∷ codes "INOUT" ∷ codes "FEEDTHRU" ∷
    codes "PORT" ∷ codes "ITERATE" ∷ codes "OBS" ∷ codes "DENSITY" ∷ codes "TIMING" ∷ codes "SITE" ∷
    codes "ARRAY" ∷ codes "PROPERTYDEFINITIONS" ∷ codes "BEGINEXT" ∷ codes "ENDEXT" ∷ []

-- the keywords of DEF and its wiring
unfoldable pub def_words : List (List ℕ)
def_words =
    codes ";" ∷ codes "(" ∷ codes ")" ∷ codes "+" ∷ codes "-" ∷ codes "*" ∷ codes "DESIGN" ∷ codes "UNITS" ∷
    codes "DISTANCE" ∷ codes "MICRONS" ∷ codes "DIVIDERCHAR" ∷ codes "BUSBITCHARS" ∷ codes "END" ∷
    codes "VIAS" ∷ codes "NONDEFAULTRULES" ∷ codes "COMPONENTS" ∷ codes "PINS" ∷ codes "SPECIALNETS" ∷
    codes "NETS" ∷ codes "REGIONS" ∷ codes "GROUPS" ∷ codes "BLOCKAGES" ∷ codes "SLOTS" ∷ codes "FILLS" ∷
    codes "SCANCHAINS" ∷ codes "STYLES" ∷ codes "PINPROPERTIES" ∷ codes "PROPERTYDEFINITIONS" ∷
    codes "BEGINEXT" ∷ codes "ENDEXT" ∷ codes "RECT" ∷ codes "MASK" ∷ codes "VIARULE" ∷ codes "CUTSIZE" ∷
    codes "LAYERS" ∷ codes "CUTSPACING" ∷ codes "ENCLOSURE" ∷ codes "ROWCOL" ∷ codes "POLYGON" ∷
    codes "ORIGIN" ∷ codes "OFFSET" ∷ codes "PATTERN" ∷ codes "LAYER" ∷ codes "WIDTH" ∷ codes "PLACED" ∷
    codes "FIXED" ∷ codes "COVER" ∷ codes "N" ∷ codes "S" ∷ codes "W" ∷ codes "E" ∷ codes "FN" ∷ codes "FS" ∷
    codes "FW" ∷ codes "FE" ∷ codes "DIRECTION" ∷ codes "INPUT" ∷ codes "OUTPUT" ∷ codes "INOUT" ∷
    codes "FEEDTHRU" ∷ codes "PORT" ∷ codes "SPACING" ∷ codes "DESIGNRULEWIDTH" ∷ codes "PIN" ∷
    codes "SYNTHESIZED" ∷ codes "NONDEFAULTRULE" ∷ codes "ROUTED" ∷ codes "NOSHIELD" ∷ codes "MUSTJOIN" ∷
    codes "SUBNET" ∷ codes "VPIN" ∷ codes "USE" ∷ codes "SIGNAL" ∷ codes "POWER" ∷ codes "GROUND" ∷
    codes "SHIELD" ∷ codes "SHAPE" ∷ codes "VIA" ∷ codes "NEW" ∷ codes "TAPER" ∷ codes "TAPERRULE" ∷
    codes "STYLE" ∷ codes "VIRTUAL" ∷ codes "DO" ∷ []

-- the keywords of rule files
unfoldable pub rule_words : List (List ℕ)
rule_words =
    codes ";" ∷ codes "(" ∷ codes ")" ∷ codes "+" ∷ codes "-" ∷ codes "RCXRULES" ∷ codes "VIA" ∷
    codes "CONTACT" ∷ codes "END" ∷ codes "RULES" ∷ codes "LAYER" ∷ codes "WIDTHS" ∷ codes "DISTS" ∷
    codes "RES" ∷ codes "TABLE" ∷ codes "UNDER" ∷ codes "OVER" ∷ codes "NONE" ∷ codes "ROW" ∷ []

-- the keywords of scripts
unfoldable pub script_words : List (List ℕ)
script_words =
    codes ";" ∷ codes "(" ∷ codes ")" ∷ codes "+" ∷ codes "-" ∷ codes "REPLACE" ∷ codes "ROUTED" ∷
    codes "FIXED" ∷ codes "COVER" ∷ codes "NOSHIELD" ∷ codes "SPEF" ∷ codes "NET" ∷ codes "STAT" ∷
    codes "END" ∷ []

-- the keywords of SPEF
unfoldable pub spef_words : List (List ℕ)
spef_words =
    codes "*SPEF" ∷ codes "*DESIGN" ∷ codes "*DATE" ∷ codes "*VENDOR" ∷ codes "*PROGRAM" ∷ codes "*VERSION" ∷
    codes "*DESIGN_FLOW" ∷ codes "*DIVIDER" ∷ codes "*DELIMITER" ∷ codes "*BUS_DELIMITER" ∷ codes "*T_UNIT" ∷
    codes "*C_UNIT" ∷ codes "*R_UNIT" ∷ codes "*L_UNIT" ∷ codes "*NAME_MAP" ∷ codes "*PORTS" ∷
    codes "*D_NET" ∷ codes "*V" ∷ codes "*CONN" ∷ codes "*CAP" ∷ codes "*RES" ∷ codes "*END" ∷ codes "*P" ∷
    codes "*I" ∷ codes "*N" ∷ codes "*C" ∷ codes "*L" ∷ codes "*D" ∷ codes "*S" ∷ codes "*R_NET" ∷
    codes "*POWER_NETS" ∷ codes "*GROUND_NETS" ∷ codes "*DEFINE" ∷ codes "*PHYSICAL_PORTS" ∷ codes "*INDUC" ∷
    codes "FF" ∷ codes "PF" ∷ codes "OHM" ∷ codes "KOHM" ∷ codes ":" ∷ codes "I" ∷ codes "O" ∷ codes "B" ∷ []
