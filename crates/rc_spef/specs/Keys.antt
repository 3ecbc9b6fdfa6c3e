-- What a token of SPEF is among its keywords, and why a token doesn't fit.
use Rattle.std.specs.Prelude.{◌==◌, ◌&&◌, ◌||◌, ℕ, Bool, true, false, List, [], ◌∷◌, codes, unwrap_or, if◌then◌else◌}
use Rattle.std.specs.Map.{lookup}
use Rattle.std.specs.Str.{bytes_eq}
use Rattle.rc_keys.specs.declared.code.Code.{Code}
use Rattle.rc_keys.specs.declared.code.Code.TheVariants.{E03, E04}
use Rattle.rc_keys.specs.declared.token.Kind.{Kind}
use Rattle.rc_keys.specs.declared.token.Kind.TheVariants as kinds
use Rattle.rc_keys.specs.Lexemes.{Lexeme}
use Rattle.rc_spef.specs.declared.key.Key.{Key}
use Rattle.rc_spef.specs.declared.key.Key.TheVariants as keys

-- the keywords, each with its key
unfoldable pub spef_keywords : List (List ℕ × Key)
spef_keywords =
    (codes "*SPEF", keys.Spef) ∷
    (codes "*DESIGN", keys.Design) ∷
    (codes "*DATE", keys.Date) ∷
    (codes "*VENDOR", keys.Vendor) ∷
    (codes "*PROGRAM", keys.Program) ∷
    (codes "*VERSION", keys.Version) ∷
    (codes "*DESIGN_FLOW", keys.DesignFlow) ∷
    (codes "*DIVIDER", keys.Divider) ∷
    (codes "*DELIMITER", keys.Delimiter) ∷
    (codes "*BUS_DELIMITER", keys.BusDelimiter) ∷
    (codes "*T_UNIT", keys.TimeUnit) ∷
    (codes "*C_UNIT", keys.CapUnit) ∷
    (codes "*R_UNIT", keys.ResUnit) ∷
    (codes "*L_UNIT", keys.InductUnit) ∷
    (codes "*NAME_MAP", keys.NameMap) ∷
    (codes "*PORTS", keys.Ports) ∷
    (codes "*D_NET", keys.DNet) ∷
    (codes "*V", keys.Confidence) ∷
    (codes "*CONN", keys.Conn) ∷
    (codes "*CAP", keys.Cap) ∷
    (codes "*RES", keys.Res) ∷
    (codes "*END", keys.End) ∷
    (codes "*P", keys.ExternalConn) ∷
    (codes "*I", keys.InternalConn) ∷
    (codes "*N", keys.InternalNode) ∷
    (codes "*C", keys.Coordinates) ∷
    (codes "*L", keys.Load) ∷
    (codes "*D", keys.DrivingCell) ∷
    (codes "*S", keys.Slews) ∷
    (codes "*R_NET", keys.RNet) ∷
    (codes "*POWER_NETS", keys.PowerNets) ∷
    (codes "*GROUND_NETS", keys.GroundNets) ∷
    (codes "*DEFINE", keys.Define) ∷
    (codes "*PHYSICAL_PORTS", keys.PhysicalPorts) ∷
    (codes "*INDUC", keys.Induc) ∷
    (codes "FF", keys.FemtoFarad) ∷
    (codes "PF", keys.PicoFarad) ∷
    (codes "OHM", keys.Ohm) ∷
    (codes "KOHM", keys.KiloOhm) ∷
    (codes ":", keys.Colon) ∷
    (codes "I", keys.In) ∷
    (codes "O", keys.Out) ∷
    (codes "B", keys.Both) ∷
    []

abbrev pub key_in : Kind → List ℕ → Key
key_in kinds.Quoted bytes = keys.Quoted
key_in kinds.Word bytes = unwrap_or (lookup (bytes_eq bytes) spef_keywords) keys.Other

unfoldable pub key_of : Lexeme → Key
key_of word = key_in word.kind word.bytes

abbrev pub is_quoted : Key → Bool
is_quoted keys.Quoted = true
is_quoted _ = false

-- the words that the profile leaves out by name
abbrev pub is_left_out : Key → Bool
is_left_out keys.Slews = true
is_left_out keys.RNet = true
is_left_out keys.PowerNets = true
is_left_out keys.GroundNets = true
is_left_out keys.Define = true
is_left_out keys.PhysicalPorts = true
is_left_out keys.Induc = true
is_left_out _ = false

-- a block comment, which is left out too
abbrev pub opens_block_comment : List ℕ → Bool
opens_block_comment (first ∷ second ∷ bytes) = (first == 47) && (second == 42)
opens_block_comment _ = false

-- why a token doesn't fit where something else is due: what is left out by name has a code of its own
abbrev pub unexpected : Key → Lexeme → Code
unexpected key word =
    if is_quoted key then E03 else if is_left_out key || opens_block_comment word.bytes then E04 else E03
