-- VIA v [DEFAULT] [TOPOFSTACKONLY] .. END v, statement by statement.
use Rattle.std.specs.Prelude.{◌≡◌, ◌||◌, ◌++◌, ℕ, ℤ, Bool, true, false, Some, is_some, List, [], ◌∷◌, if◌then◌else◌}
use Rattle.std.specs.List.{list_any}
use Rattle.rc_keys.specs.Lexemes.{Lexeme}
use Rattle.rc_keys.specs.Phrases.{Block}
use Rattle.rc_lef.specs.declared.key.Key.{Key}
use Rattle.rc_lef.specs.declared.key.Key.TheVariants as keys
use Rattle.rc_lef.specs.declared.state.ViaDraft.{ViaDraft}
use Rattle.rc_lef.specs.declared.tech.LayerKind.{LayerKind}
use Rattle.rc_lef.specs.Keys.{key_of}
use Rattle.rc_lef.specs.Moves.{first}
use Rattle.rc_lef.specs.Numbers.{rect_in_via, cut_size_in, spacing_in, enclosure_in}
use Rattle.rc_lef.specs.Technology.{Technology}
use Rattle.rc_lef.specs.Vias.{no_via, is_via, via_of}
use Rattle.rc_lef.specs.Phrases.{Word, semicolon, Name, AnyName, LayerOf, Coordinate, Size, Distance, Whole, Count, Are, IsOver, IsOther}

-- which of DEFAULT and TOPOFSTACKONLY may stand yet: both, the second, or none
pub data Stage : Type 0 where
  Head : Stage
  Stack : Stage
  Body : Stage

abbrev pub may_stand : Stage → Key → Bool
may_stand Head keys.Default = true
may_stand Head keys.TopOfStackOnly = true
may_stand Stack keys.TopOfStackOnly = true
may_stand _ _ = false

-- what the statements of a VIA say so far
pub record ViaParts : Type 0 where
  pub stage : Stage
  pub via : ViaDraft

abbrev pub no_parts : ViaParts
no_parts = record { stage = Head; via = no_via }

abbrev pub body : ViaDraft → ViaParts
body via = record { stage = Body; via = via }

-- ---- the statements

abbrev pub makes_unusable : Key → Bool
makes_unusable keys.Polygon = true
makes_unusable keys.Origin = true
makes_unusable keys.Offset = true
makes_unusable keys.Pattern = true
makes_unusable _ = false

abbrev pub begins_in_body : Key → Bool
begins_in_body keys.Layer = true
begins_in_body keys.Rect = true
begins_in_body keys.End = true
begins_in_body keys.ViaRule = true
begins_in_body keys.CutSize = true
begins_in_body keys.Layers = true
begins_in_body keys.CutSpacing = true
begins_in_body keys.Enclosure = true
begins_in_body keys.RowCol = true
begins_in_body key = makes_unusable key

abbrev pub begins_in_via : Stage → Key → Bool
begins_in_via stage key = may_stand stage key || begins_in_body key

abbrev pub begins_unusable : List Lexeme → Bool
begins_unusable [] = false
begins_unusable (word ∷ words) = makes_unusable (key_of word)

abbrev pub is_mask : Key → Bool
is_mask keys.Mask = true
is_mask _ = false

-- RECT MASK
abbrev pub is_masked : List Lexeme → Bool
is_masked (rect ∷ word ∷ words) = is_mask (key_of word)
is_masked _ = false

-- a statement in a VIA, over the technology before it. Where one of them gives a value that stands once, the first counts
pub data ViaStatement (tech : Technology) (before : ViaParts) (words : List Lexeme) (after : ViaParts) : Type 0 where
  -- DEFAULT and TOPOFSTACKONLY, where they may stand
  Default : Are (Word keys.Default ∷ []) words → may_stand before.stage keys.Default ≡ true → after ≡ record before { stage = Stack } → ViaStatement tech before words after
  TopOfStackOnly : Are (Word keys.TopOfStackOnly ∷ []) words → may_stand before.stage keys.TopOfStackOnly ≡ true → after ≡ body before.via → ViaStatement tech before words after
  -- LAYER l ;
  OnLayer : (kind : LayerKind) → Are (Word keys.Layer ∷ LayerOf tech.layers kind ∷ semicolon ∷ []) words → after ≡ body (record before.via { layer = Some kind }) → ViaStatement tech before words after
  -- RECT x1 y1 x2 y2 ;  RECT MASK n x1 y1 x2 y2 ;
  Rect : (x1 y1 x2 y2 : ℤ) → Are (Word keys.Rect ∷ Coordinate tech.units x1 ∷ Coordinate tech.units y1 ∷ Coordinate tech.units x2 ∷ Coordinate tech.units y2 ∷ semicolon ∷ []) words → is_masked words ≡ false
      → is_some before.via.layer ≡ true → after ≡ body (rect_in_via before.via (x1 ∷ y1 ∷ x2 ∷ y2 ∷ [])) → ViaStatement tech before words after
  MaskedRect : (x1 y1 x2 y2 : ℤ)
      → Are (Word keys.Rect ∷ Word keys.Mask ∷ Whole ∷ Coordinate tech.units x1 ∷ Coordinate tech.units y1 ∷ Coordinate tech.units x2 ∷ Coordinate tech.units y2 ∷ semicolon ∷ []) words
      → is_some before.via.layer ≡ true → after ≡ body (rect_in_via before.via (x1 ∷ y1 ∷ x2 ∷ y2 ∷ [])) → ViaStatement tech before words after
  -- VIARULE g ;
  Rule : Are (Word keys.ViaRule ∷ AnyName ∷ semicolon ∷ []) words → after ≡ body (record before.via { has_rule = true }) → ViaStatement tech before words after
  -- CUTSIZE cx cy ;
  CutSize : (cx cy : ℤ) → Are (Word keys.CutSize ∷ Size tech.units cx ∷ Size tech.units cy ∷ semicolon ∷ []) words → after ≡ body (cut_size_in before.via (cx ∷ cy ∷ [])) → ViaStatement tech before words after
  -- LAYERS b c t ;
  Layers : (b c t : LayerKind) → Are (Word keys.Layers ∷ LayerOf tech.layers b ∷ LayerOf tech.layers c ∷ LayerOf tech.layers t ∷ semicolon ∷ []) words
      → after ≡ body (record before.via { layers = first before.via.layers (b, c, t) }) → ViaStatement tech before words after
  -- CUTSPACING sx sy ;
  CutSpacing : (sx sy : ℤ) → Are (Word keys.CutSpacing ∷ Distance tech.units sx ∷ Distance tech.units sy ∷ semicolon ∷ []) words → after ≡ body (spacing_in before.via (sx ∷ sy ∷ [])) → ViaStatement tech before words after
  -- ENCLOSURE bx by tx ty ;
  Enclosure : (bx by_ tx ty : ℤ) → Are (Word keys.Enclosure ∷ Distance tech.units bx ∷ Distance tech.units by_ ∷ Distance tech.units tx ∷ Distance tech.units ty ∷ semicolon ∷ []) words
      → after ≡ body (enclosure_in before.via (bx ∷ by_ ∷ tx ∷ ty ∷ [])) → ViaStatement tech before words after
  -- ROWCOL rows columns ;
  RowCol : (rows columns : ℕ) → Are (Word keys.RowCol ∷ Count rows ∷ Count columns ∷ semicolon ∷ []) words → after ≡ body (record before.via { rows_columns = first before.via.rows_columns (rows, columns) }) → ViaStatement tech before words after
  -- POLYGON, ORIGIN, OFFSET, PATTERN, read over
  Unusable : begins_unusable words ≡ true → IsOver words → after ≡ body (record before.via { is_plain = false }) → ViaStatement tech before words after
  -- others are read over
  Other : IsOther (begins_in_via before.stage) words → after ≡ body before.via → ViaStatement tech before words after

abbrev pub ViaBlock : Technology → List ℕ → ViaParts → List Lexeme → ViaParts → Type 0
ViaBlock tech name before words after = Block (Are (Word keys.Via ∷ Name name ∷ [])) (ViaStatement tech) (Are (Word keys.End ∷ Name name ∷ [])) before words after

-- ---- the via

abbrev pub knows_via : Technology → List ℕ → Bool
knows_via tech name = list_any (is_via name) tech.vias

-- a via of a name that is there is left out
abbrev pub with_new_via : Technology → List ℕ → ViaDraft → Technology
with_new_via tech name via = record tech { vias = if knows_via tech name then tech.vias else tech.vias ++ via_of name via ∷ [] }
