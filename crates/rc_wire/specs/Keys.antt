-- What a token of DEF is among its keywords.
use Rattle.std.specs.Prelude.{ℕ, Bool, true, false, not, ◌&&◌, List, [], ◌∷◌, codes, unwrap_or}
use Rattle.std.specs.Map.{lookup}
use Rattle.std.specs.Str.{bytes_eq}
use Rattle.rc_keys.specs.declared.token.Kind.{Kind}
use Rattle.rc_keys.specs.declared.token.Kind.TheVariants as kinds
use Rattle.rc_keys.specs.Lexemes.{Lexeme}
use Rattle.rc_wire.specs.declared.key.Key.{Key}
use Rattle.rc_wire.specs.declared.key.Key.TheVariants as keys

-- the keywords, each with its key
unfoldable pub def_keys : List (List ℕ × Key)
def_keys =
    (codes ";", keys.Semicolon) ∷ (codes "(", keys.Open) ∷ (codes ")", keys.Close) ∷ (codes "+", keys.Plus) ∷ (codes "-", keys.Minus) ∷
    (codes "*", keys.Star) ∷ (codes "DESIGN", keys.Design) ∷ (codes "UNITS", keys.Units) ∷ (codes "DISTANCE", keys.Distance) ∷
    (codes "MICRONS", keys.Microns) ∷ (codes "DIVIDERCHAR", keys.DividerChar) ∷ (codes "BUSBITCHARS", keys.BusBitChars) ∷ (codes "END", keys.End) ∷
    (codes "VIAS", keys.Vias) ∷ (codes "NONDEFAULTRULES", keys.NonDefaultRules) ∷ (codes "COMPONENTS", keys.Components) ∷ (codes "PINS", keys.Pins) ∷
    (codes "SPECIALNETS", keys.SpecialNets) ∷ (codes "NETS", keys.Nets) ∷ (codes "REGIONS", keys.Regions) ∷ (codes "GROUPS", keys.Groups) ∷
    (codes "BLOCKAGES", keys.Blockages) ∷ (codes "SLOTS", keys.Slots) ∷ (codes "FILLS", keys.Fills) ∷ (codes "SCANCHAINS", keys.ScanChains) ∷
    (codes "STYLES", keys.Styles) ∷ (codes "PINPROPERTIES", keys.PinProperties) ∷ (codes "PROPERTYDEFINITIONS", keys.PropertyDefinitions) ∷
    (codes "BEGINEXT", keys.BeginExt) ∷ (codes "ENDEXT", keys.EndExt) ∷ (codes "RECT", keys.Rect) ∷ (codes "MASK", keys.Mask) ∷
    (codes "VIARULE", keys.ViaRule) ∷ (codes "CUTSIZE", keys.CutSize) ∷ (codes "LAYERS", keys.Layers) ∷ (codes "CUTSPACING", keys.CutSpacing) ∷
    (codes "ENCLOSURE", keys.Enclosure) ∷ (codes "ROWCOL", keys.RowCol) ∷ (codes "POLYGON", keys.Polygon) ∷ (codes "ORIGIN", keys.Origin) ∷
    (codes "OFFSET", keys.Offset) ∷ (codes "PATTERN", keys.Pattern) ∷ (codes "LAYER", keys.Layer) ∷ (codes "WIDTH", keys.Width) ∷
    (codes "PLACED", keys.Placed) ∷ (codes "FIXED", keys.Fixed) ∷ (codes "COVER", keys.Cover) ∷ (codes "N", keys.N) ∷ (codes "S", keys.S) ∷
    (codes "W", keys.W) ∷ (codes "E", keys.E) ∷ (codes "FN", keys.FN) ∷ (codes "FS", keys.FS) ∷ (codes "FW", keys.FW) ∷ (codes "FE", keys.FE) ∷
    (codes "DIRECTION", keys.Direction) ∷ (codes "INPUT", keys.Input) ∷ (codes "OUTPUT", keys.Output) ∷ (codes "INOUT", keys.InOut) ∷
    (codes "FEEDTHRU", keys.FeedThru) ∷ (codes "PORT", keys.Port) ∷ (codes "SPACING", keys.Spacing) ∷
    (codes "DESIGNRULEWIDTH", keys.DesignRuleWidth) ∷ (codes "PIN", keys.Pin) ∷ (codes "SYNTHESIZED", keys.Synthesized) ∷
    (codes "NONDEFAULTRULE", keys.NonDefaultRule) ∷ (codes "ROUTED", keys.Routed) ∷ (codes "NOSHIELD", keys.NoShield) ∷
    (codes "MUSTJOIN", keys.MustJoin) ∷ (codes "SUBNET", keys.SubNet) ∷ (codes "VPIN", keys.VPin) ∷ (codes "USE", keys.Use) ∷
    (codes "SIGNAL", keys.Signal) ∷ (codes "POWER", keys.Power) ∷ (codes "GROUND", keys.Ground) ∷ (codes "SHIELD", keys.Shield) ∷
    (codes "SHAPE", keys.Shape) ∷ (codes "VIA", keys.Via) ∷ (codes "NEW", keys.New) ∷ (codes "TAPER", keys.Taper) ∷
    (codes "TAPERRULE", keys.TaperRule) ∷ (codes "STYLE", keys.Style) ∷ (codes "VIRTUAL", keys.Virtual) ∷ (codes "DO", keys.Do) ∷ []

abbrev pub key_in : Kind → List ℕ → Key
key_in kinds.Quoted bytes = keys.Quoted
key_in kinds.Word bytes = unwrap_or (lookup (bytes_eq bytes) def_keys) keys.Other

unfoldable pub key_of : Lexeme → Key
key_of word = key_in word.kind word.bytes

abbrev pub is_mark : Key → Bool
is_mark keys.Semicolon = true
is_mark keys.Open = true
is_mark keys.Close = true
is_mark keys.Plus = true
is_mark keys.Minus = true
is_mark _ = false

abbrev pub is_quoted : Key → Bool
is_quoted keys.Quoted = true
is_quoted _ = false

-- a name is a word that is no mark
abbrev pub is_name : Key → Bool
is_name key = not (is_mark key) && not (is_quoted key)

abbrev pub is_orientation : Key → Bool
is_orientation keys.N = true
is_orientation keys.S = true
is_orientation keys.W = true
is_orientation keys.E = true
is_orientation keys.FN = true
is_orientation keys.FS = true
is_orientation keys.FW = true
is_orientation keys.FE = true
is_orientation _ = false
