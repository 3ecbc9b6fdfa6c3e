-- How a token is read as an operand of a statement: its value, or the code of its refusal.
use Rattle.std.specs.Prelude.{◌||◌, ℕ, ℤ, Bool, Option, Some, None, is_none, Result, Ok, Err, List, [], ◌∷◌, if◌then◌else◌}
use Rattle.std.specs.Str.{bytes_eq}
use Rattle.rc_fixed.specs.Numeral.{whole_of}
use Rattle.rc_keys.specs.declared.code.Code.{Code}
use Rattle.rc_keys.specs.declared.code.Code.TheVariants.{E03, E05, E06}
use Rattle.rc_lef.specs.declared.key.Key.{Key}
use Rattle.rc_lef.specs.declared.length.Range.{Range}
use Rattle.rc_lef.specs.declared.tech.Layer.{Layer}
use Rattle.rc_lef.specs.declared.tech.LayerKind.{LayerKind}
use Rattle.rc_lef.specs.declared.units.Units.{Units}
use Rattle.rc_lef.specs.Keys.{is_name, is_quoted}
use Rattle.rc_lef.specs.Lengths.{length_read, length_in, count_read}

-- a length in units, of a range
abbrev pub length_at : Range → Option Units → Key → List ℕ → Result ℤ Code
length_at range units key bytes = if is_quoted key then Err E05 else length_in range (length_read units bytes)

abbrev pub or_malformed : {A : Type 0} → Option A → Result A Code
or_malformed None = Err E05
or_malformed (Some a) = Ok a

-- how many rows or columns of cuts there are
abbrev pub count_at : Key → List ℕ → Result ℕ Code
count_at key bytes = if is_quoted key then Err E05 else or_malformed (count_read bytes)

-- a whole number, which counts for nothing
abbrev pub whole_at : Key → List ℕ → Result (Unit {0}) Code
whole_at key bytes = if is_quoted key || is_none (whole_of bytes) then Err E05 else Ok tt

abbrev pub is_named : List ℕ → Layer → Bool
is_named name layer = bytes_eq name layer.name

-- the kind of the layer of that name
abbrev pub kind_named : List ℕ → List Layer → Option LayerKind
kind_named name [] = None
kind_named name (layer ∷ layers) = if is_named name layer then Some layer.kind else kind_named name layers

abbrev pub or_unknown : Option LayerKind → Result LayerKind Code
or_unknown None = Err E06
or_unknown (Some kind) = Ok kind

-- the name of a layer that is there
abbrev pub layer_at : Option LayerKind → Key → Result LayerKind Code
layer_at kind key = if is_name key then or_unknown kind else Err E03
