-- What a token of LEF is among its keywords.
use Rattle.std.specs.Prelude.{ℕ, Bool, true, false, not, ◌&&◌, List, [], ◌∷◌, codes, unwrap_or}
use Rattle.std.specs.Map.{lookup}
use Rattle.std.specs.Str.{bytes_eq}
use Rattle.rc_keys.specs.declared.token.Kind.{Kind}
use Rattle.rc_keys.specs.declared.token.Kind.TheVariants as kinds
use Rattle.rc_keys.specs.Lexemes.{Lexeme}
use Rattle.rc_lef.specs.declared.key.Key.{Key}
use Rattle.rc_lef.specs.declared.key.Key.TheVariants as keys

-- the keywords, each with its key
unfoldable pub lef_keys : List (List ℕ × Key)
lef_keys =
    (codes ";", keys.Semicolon) ∷
    (codes "(", keys.Open) ∷
    (codes ")", keys.Close) ∷
    (codes "+", keys.Plus) ∷
    (codes "-", keys.Minus) ∷
    (codes "UNITS", keys.Units) ∷
    (codes "DATABASE", keys.Database) ∷
    (codes "MICRONS", keys.Microns) ∷
    (codes "END", keys.End) ∷
    (codes "LIBRARY", keys.Library) ∷
    (codes "LAYER", keys.Layer) ∷
    (codes "TYPE", keys.Type) ∷
    (codes "ROUTING", keys.Routing) ∷
    (codes "CUT", keys.Cut) ∷
    (codes "WIDTH", keys.Width) ∷
    (codes "VIA", keys.Via) ∷
    (codes "DEFAULT", keys.Default) ∷
    (codes "TOPOFSTACKONLY", keys.TopOfStackOnly) ∷
    (codes "VIARULE", keys.ViaRule) ∷
    (codes "CUTSIZE", keys.CutSize) ∷
    (codes "LAYERS", keys.Layers) ∷
    (codes "CUTSPACING", keys.CutSpacing) ∷
    (codes "ENCLOSURE", keys.Enclosure) ∷
    (codes "ROWCOL", keys.RowCol) ∷
    (codes "RECT", keys.Rect) ∷
    (codes "MASK", keys.Mask) ∷
    (codes "POLYGON", keys.Polygon) ∷
    (codes "ORIGIN", keys.Origin) ∷
    (codes "OFFSET", keys.Offset) ∷
    (codes "PATTERN", keys.Pattern) ∷
    (codes "NONDEFAULTRULE", keys.NonDefaultRule) ∷
    (codes "SPACING", keys.Spacing) ∷
    (codes "MACRO", keys.Macro) ∷
    (codes "SIZE", keys.Size) ∷
    (codes "BY", keys.By) ∷
    (codes "PIN", keys.Pin) ∷
    (codes "DIRECTION", keys.Direction) ∷
    (codes "INPUT", keys.Input) ∷
    (codes "OUTPUT", keys.Output) ∷
    (codes "TRISTATE", keys.TriState) ∷
    (codes "INOUT", keys.InOut) ∷
    (codes "FEEDTHRU", keys.FeedThru) ∷
    (codes "PORT", keys.Port) ∷
    (codes "ITERATE", keys.Iterate) ∷
    (codes "OBS", keys.Obs) ∷
    (codes "DENSITY", keys.Density) ∷
    (codes "TIMING", keys.Timing) ∷
    (codes "SITE", keys.Site) ∷
    (codes "ARRAY", keys.Array) ∷
    (codes "PROPERTYDEFINITIONS", keys.PropertyDefinitions) ∷
    (codes "BEGINEXT", keys.BeginExt) ∷
    (codes "ENDEXT", keys.EndExt) ∷ []

abbrev pub key_in : Kind → List ℕ → Key
key_in kinds.Quoted bytes = keys.Quoted
key_in kinds.Word bytes = unwrap_or (lookup (bytes_eq bytes) lef_keys) keys.Other

unfoldable pub key_of : Lexeme → Key
key_of word = key_in word.kind word.bytes

abbrev pub is_mark : Key → Bool
is_mark keys.Semicolon = true
is_mark keys.Open = true
is_mark keys.Close = true
is_mark keys.Plus = true
is_mark keys.Minus = true
is_mark _ = false

abbrev pub is_quoted : Key → Bool
is_quoted keys.Quoted = true
is_quoted _ = false

-- a name is a word that is no mark
abbrev pub is_name : Key → Bool
is_name key = not (is_mark key) && not (is_quoted key)
