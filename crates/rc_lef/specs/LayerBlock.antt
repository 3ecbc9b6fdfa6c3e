-- LAYER l .. END l, statement by statement.
use Rattle.std.specs.Prelude.{◌≡◌, ◌&&◌, ◌||◌, ◌++◌, ℕ, ℤ, pos, Bool, true, false, not, Option, Some, None, is_some, is_none, List, [], ◌∷◌, nat_lt, count_by, if◌then◌else◌}
use Rattle.std.specs.List.{list_any}
use Rattle.rc_keys.specs.Lexemes.{Lexeme}
use Rattle.rc_keys.specs.Phrases.{Block}
use Rattle.rc_lef.specs.declared.key.Key.{Key}
use Rattle.rc_lef.specs.declared.key.Key.TheVariants as keys
use Rattle.rc_lef.specs.declared.tech.Layer.{Layer}
use Rattle.rc_lef.specs.declared.tech.LayerKind.{LayerKind}
use Rattle.rc_lef.specs.declared.tech.LayerKind.TheVariants as kinds
use Rattle.rc_lef.specs.Keys.{key_of}
use Rattle.rc_lef.specs.Moves.{first}
use Rattle.rc_lef.specs.Operands.{is_named}
use Rattle.rc_lef.specs.Technology.{Technology, is_routing, is_cut}
use Rattle.rc_lef.specs.Phrases.{Word, semicolon, Name, AnyBut, Operand, Above0, Are, IsOver, IsOther}

-- what a layer is for, and how wide its wires are, where its statements have said so
pub data Purpose : Type 0 where
  Wires : Purpose
  Cuts : Purpose
  Neither : Purpose

pub record LayerParts : Type 0 where
  pub purpose : Option Purpose
  pub width : Option ℤ

abbrev pub no_parts : LayerParts
no_parts = record { purpose = None; width = None }

-- the first TYPE counts, and the first WIDTH
abbrev pub with_purpose : Purpose → LayerParts → LayerParts
with_purpose purpose before = record before { purpose = first before.purpose purpose }

abbrev pub with_width : ℤ → LayerParts → LayerParts
with_width width before = record before { width = first before.width width }

-- ---- the layers that are there

abbrev pub knows_layer : Technology → List ℕ → Bool
knows_layer tech name = list_any (is_named name) tech.layers

abbrev pub layers_of : (LayerKind → Bool) → Technology → ℕ
layers_of test tech = count_by (λ layer. test layer.kind) tech.layers

-- a TYPE that counts, of a new layer: there are at most 32 layers of a kind
abbrev pub has_room : (LayerKind → Bool) → Technology → List ℕ → LayerParts → Bool
has_room test tech name before = is_some before.purpose || (knows_layer tech name || nat_lt (layers_of test tech) 32)

-- ---- the statements

abbrev pub begins_in_layer : Key → Bool
begins_in_layer keys.Type = true
begins_in_layer keys.Width = true
begins_in_layer keys.End = true
begins_in_layer _ = false

abbrev pub names_purpose : Key → Bool
names_purpose keys.Routing = true
names_purpose keys.Cut = true
names_purpose _ = false

abbrev pub BeginsWith : Key → List Lexeme → Type 0
BeginsWith key [] = ⊥
BeginsWith key (word ∷ words) = key_of word ≡ key

-- a statement in the LAYER of a name, over the technology before it
pub data LayerStatement (tech : Technology) (name : List ℕ) (before : LayerParts) (words : List Lexeme) (after : LayerParts) : Type 0 where
  -- TYPE ROUTING ;  TYPE CUT ;  TYPE t ;
  Routing : Are (Word keys.Type ∷ Word keys.Routing ∷ semicolon ∷ []) words → has_room is_routing tech name before ≡ true → after ≡ with_purpose Wires before → LayerStatement tech name before words after
  Cut : Are (Word keys.Type ∷ Word keys.Cut ∷ semicolon ∷ []) words → has_room is_cut tech name before ≡ true → after ≡ with_purpose Cuts before → LayerStatement tech name before words after
  OfAnother : Are (Word keys.Type ∷ AnyBut names_purpose ∷ semicolon ∷ []) words → after ≡ with_purpose Neither before → LayerStatement tech name before words after
  -- WIDTH w ;
  Width : (width : ℤ) → Are (Word keys.Width ∷ Above0 tech.units width ∷ semicolon ∷ []) words → after ≡ with_width width before → LayerStatement tech name before words after
  -- a WIDTH that hasn't exactly one word before its `;` is read over
  NoWidth : BeginsWith keys.Width words → ¬ (Are (Word keys.Width ∷ Operand ∷ semicolon ∷ []) words) → IsOver words → after ≡ before → LayerStatement tech name before words after
  -- others are read over
  Other : IsOther begins_in_layer words → after ≡ before → LayerStatement tech name before words after

abbrev pub LayerBlock : Technology → List ℕ → LayerParts → List Lexeme → LayerParts → Type 0
LayerBlock tech name before words after = Block (Are (Word keys.Layer ∷ Name name ∷ [])) (LayerStatement tech name) (Are (Word keys.End ∷ Name name ∷ [])) before words after

-- ---- the layer

abbrev pub is_for_wires : Option Purpose → Bool
is_for_wires (Some Wires) = true
is_for_wires _ = false

-- a layer for wires has a width
abbrev pub is_complete : LayerParts → Bool
is_complete parts = not (is_for_wires parts.purpose && is_none parts.width)

-- layers are numbered by those of their kind that are there
abbrev pub kind_of : Technology → Option Purpose → LayerKind
kind_of tech (Some Wires) = kinds.Routing (layers_of is_routing tech)
kind_of tech (Some Cuts) = kinds.Cut (layers_of is_cut tech)
kind_of tech (Some Neither) = kinds.Other
kind_of tech None = kinds.Other

abbrev pub or_0 : Option ℤ → ℤ
or_0 (Some width) = width
or_0 None = pos 0

abbrev pub layer_of : Technology → List ℕ → LayerParts → Layer
layer_of tech name parts = record { name = name; kind = kind_of tech parts.purpose; width = if is_for_wires parts.purpose then or_0 parts.width else pos 0 }

-- a layer of a name that is there is left out
abbrev pub with_new_layer : Technology → List ℕ → LayerParts → Technology
with_new_layer tech name parts = record tech { layers = if knows_layer tech name then tech.layers else tech.layers ++ layer_of tech name parts ∷ [] }
