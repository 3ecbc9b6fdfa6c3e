-- The header, statement by statement. Its words follow in any order, and each stands at most once.
use Rattle.std.specs.Prelude.{◌≡◌, ◌++◌, ◌&&◌, ℕ, Bool, true, false, Some, is_some, List, [], ◌∷◌}
use Rattle.std.specs.List.{list_any, AllByRecursion}
use Rattle.std.specs.Str.{bytes_eq}
use Rattle.rc_keys.specs.Lexemes.{Lexeme}
use Rattle.rc_spef.specs.declared.state.Header.{Header}
use Rattle.rc_spef.specs.declared.state.Scale.{Scale}
use Rattle.rc_spef.specs.declared.state.Scale.TheVariants as scales
use Rattle.rc_spef.specs.declared.key.Key.{Key}
use Rattle.rc_spef.specs.declared.key.Key.TheVariants as keys
use Rattle.rc_spef.specs.Keys.{key_of}
use Rattle.rc_spef.specs.Parts.{Word, AnyWord, Quoted, AnyQuoted, Byte, TwoBytes, One, Says, Are}

-- *DATE, *VENDOR, *PROGRAM, *VERSION, which are passed over
abbrev pub is_remark : Key → Bool
is_remark keys.Date = true
is_remark keys.Vendor = true
is_remark keys.Program = true
is_remark keys.Version = true
is_remark _ = false

-- *T_UNIT and *L_UNIT, which are passed over
abbrev pub is_other_unit : Key → Bool
is_other_unit keys.TimeUnit = true
is_other_unit keys.InductUnit = true
is_other_unit _ = false

-- the word of a unit of capacitance, and of resistance
abbrev pub cap_word : Scale → Key
cap_word scales.One = keys.FemtoFarad
cap_word scales.Thousand = keys.PicoFarad

abbrev pub res_word : Scale → Key
res_word scales.One = keys.Ohm
res_word scales.Thousand = keys.KiloOhm

-- what stands behind a word of the header, and the header before and after it
pub data HeaderSays (key : Key) (before : Header) (words : List Lexeme) (after : Header) : Type 0 where
  -- *DESIGN "name"
  Design : (name : List ℕ) → key ≡ keys.Design → Are (Quoted name ∷ []) words → after ≡ record before { design = Some name } → HeaderSays key before words after
  -- *DATE "text", *VENDOR "text", *PROGRAM "text", *VERSION "text"
  Remark : is_remark key ≡ true → Are (AnyQuoted ∷ []) words → after ≡ before → HeaderSays key before words after
  -- *DESIGN_FLOW "text" ..
  Flow : (first : Lexeme) (others : List Lexeme) → key ≡ keys.DesignFlow → words ≡ first ∷ others → AllByRecursion (Says AnyQuoted) (first ∷ others) → after ≡ before → HeaderSays key before words after
  -- *DIVIDER c
  Divider : (byte : ℕ) → key ≡ keys.Divider → Are (Byte byte ∷ []) words → after ≡ record before { divider = byte } → HeaderSays key before words after
  -- *DELIMITER :
  Delimiter : key ≡ keys.Delimiter → Are (Word keys.Colon ∷ []) words → after ≡ before → HeaderSays key before words after
  -- *BUS_DELIMITER lr, *BUS_DELIMITER l r
  BusJoined : (left right : ℕ) → key ≡ keys.BusDelimiter → Are (TwoBytes left right ∷ []) words → after ≡ record before { bus_left = left; bus_right = right } → HeaderSays key before words after
  BusApart : (left right : ℕ) → key ≡ keys.BusDelimiter → Are (Byte left ∷ Byte right ∷ []) words → after ≡ record before { bus_left = left; bus_right = right } → HeaderSays key before words after
  -- *T_UNIT 1 word, *L_UNIT 1 word
  OtherUnit : is_other_unit key ≡ true → Are (One ∷ AnyWord ∷ []) words → after ≡ before → HeaderSays key before words after
  -- *C_UNIT 1 FF, *C_UNIT 1 PF
  CapUnit : (scale : Scale) → key ≡ keys.CapUnit → Are (One ∷ Word (cap_word scale) ∷ []) words → after ≡ record before { cap_scale = Some scale } → HeaderSays key before words after
  -- *R_UNIT 1 OHM, *R_UNIT 1 KOHM
  ResUnit : (scale : Scale) → key ≡ keys.ResUnit → Are (One ∷ Word (res_word scale) ∷ []) words → after ≡ record before { res_scale = Some scale } → HeaderSays key before words after

-- a statement of the header: a word that didn't stand before, and what stands behind it
pub record HeaderLine (before : Header) (words : List Lexeme) (after : Header) : Type 0 where
  pub first : Lexeme
  pub rest : List Lexeme
  pub parts : words ≡ first ∷ rest
  pub once : list_any (bytes_eq first.bytes) before.seen ≡ false
  pub says : HeaderSays (key_of first) (record before { seen = before.seen ++ first.bytes ∷ [] }) rest after

-- *DESIGN, *C_UNIT and *R_UNIT are required
abbrev pub lacks_nothing : Header → Bool
lacks_nothing header = is_some header.design && (is_some header.cap_scale && is_some header.res_scale)
