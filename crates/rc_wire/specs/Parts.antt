-- The parts of an item, and what they say.
use Rattle.std.specs.Prelude.{◌≡◌, ◌+◌, ◌&&◌, ◌||◌, ◌++◌, ℕ, ℤ, pos, int_lt, Bool, true, false, not, Option, Some, None, option_map, Result, Ok, Err, List, [], ◌∷◌, codes, slice_get, if◌then◌else◌}
use Rattle.std.specs.Str.{bytes_eq}
use Rattle.rc_fixed.specs.Numeral.{whole_of}
use Rattle.rc_geom.specs.declared.rect.Pt.{Pt}
use Rattle.rc_keys.specs.declared.code.Code.{Code}
use Rattle.rc_keys.specs.declared.code.Code.TheVariants.{E03, E04, E05}
use Rattle.rc_wire.specs.declared.key.Key.{Key}
use Rattle.rc_wire.specs.declared.key.Key.TheVariants as keys
use Rattle.rc_wire.specs.declared.part.Part.{Part}
use Rattle.rc_wire.specs.declared.part.Part.TheVariants as parts
use Rattle.rc_wire.specs.declared.part.When.{When}
use Rattle.rc_wire.specs.declared.part.When.TheVariants as whens
use Rattle.rc_wire.specs.declared.operands.Operands.{Operands}
use Rattle.rc_wire.specs.Keys.{is_name, is_quoted, is_orientation}

-- nothing is said
abbrev pub nothing : Operands
nothing = record { name = []; second = []; third = []; numbers = []; extension = None; chosen = keys.Other; last = None; line = 0 }

-- ---- parts that may be missing

abbrev pub starts : When → Key → Bool
starts whens.Mask keys.Mask = true
starts whens.Mask _ = false
starts whens.Plus keys.Plus = true
starts whens.Plus _ = false
starts whens.Spacing keys.Spacing = true
starts whens.Spacing keys.DesignRuleWidth = true
starts whens.Spacing _ = false
starts whens.Extension keys.Close = false
starts whens.Extension _ = true

-- the place in a form behind parts that may stand there and don't
abbrev pub past : List Part → ℕ → Key → ℕ
past form place key = behind (slice_get form place)
  where
    behind : Option Part → ℕ
    behind (Some (parts.Maybe when count)) = if starts when key then place + 1 else place + 1 + count
    behind _ = place

-- ---- numbers

abbrev pub number_of : Key → List ℕ → Option ℤ
number_of key bytes = if is_quoted key then None else whole_of bytes

abbrev pub is_at_least_0 : ℤ → Bool
is_at_least_0 z = not (int_lt z (pos 0))

abbrev pub is_above_0 : ℤ → Bool
is_above_0 z = int_lt (pos 0) z

abbrev pub is_up_to_1024 : ℤ → Bool
is_up_to_1024 z = int_lt (pos 0) z && int_lt z (pos 1025)

abbrev pub within : (ℤ → Bool) → Option ℤ → Option ℤ
within test None = None
within test (Some z) = if test z then Some z else None

abbrev pub with_number : Operands → Option ℤ → Result Operands Code
with_number before None = Err E05
with_number before (Some z) = Ok (record before { numbers = before.numbers ++ z ∷ [] })

abbrev pub with_extension : Operands → Option ℤ → Result Operands Code
with_extension before None = Err E05
with_extension before (Some z) = Ok (record before { extension = Some z })

-- `*` is the last point's, and stands for nothing where there is none
abbrev pub from_last : Operands → Option ℤ → Result Operands Code
from_last before None = Err E03
from_last before (Some z) = with_number before (Some z)

abbrev pub with_coordinate : Operands → Option ℤ → Key → List ℕ → Result Operands Code
with_coordinate before last keys.Star bytes = from_last before last
with_coordinate before last key bytes = with_number before (number_of key bytes)

abbrev pub last_x : Operands → Option ℤ
last_x before = option_map (λ (p : Pt). p.x) before.last

abbrev pub last_y : Operands → Option ℤ
last_y before = option_map (λ (p : Pt). p.y) before.last

-- a number that doesn't count
abbrev pub passed : Operands → Option ℤ → Result Operands Code
passed before None = Err E05
passed before (Some z) = Ok before

abbrev pub take_number : Part → Operands → Key → List ℕ → Result Operands Code
take_number parts.Whole before key bytes = with_number before (number_of key bytes)
take_number parts.AtLeast0 before key bytes = with_number before (within is_at_least_0 (number_of key bytes))
take_number parts.Above0 before key bytes = with_number before (within is_above_0 (number_of key bytes))
take_number parts.UpTo1024 before key bytes = with_number before (within is_up_to_1024 (number_of key bytes))
take_number parts.Extension before key bytes = with_extension before (within is_at_least_0 (number_of key bytes))
take_number parts.X before key bytes = with_coordinate before (last_x before) key bytes
take_number parts.Y before key bytes = with_coordinate before (last_y before) key bytes
take_number _ before key bytes = passed before (number_of key bytes)

-- ---- names and keywords

abbrev pub with_name : Part → Operands → Key → List ℕ → Operands
with_name parts.Name before key bytes = record before { name = bytes }
with_name parts.SecondName before key bytes = record before { second = bytes }
with_name parts.ThirdName before key bytes = record before { third = bytes }
with_name _ before key bytes = record before { chosen = key }

abbrev pub take_name : Part → Operands → Key → List ℕ → Result Operands Code
take_name part before key bytes = if is_name key then Ok (with_name part before key bytes) else Err E03

abbrev pub choose : Operands → Bool → Key → Result Operands Code
choose before is_one key = if is_one then Ok (record before { chosen = key }) else Err E03

abbrev pub is_direction : Key → Bool
is_direction keys.Input = true
is_direction keys.Output = true
is_direction keys.InOut = true
is_direction keys.FeedThru = true
is_direction _ = false

unfoldable pub is_divider : List ℕ → Bool
is_divider text = bytes_eq text (codes "/") || bytes_eq text (codes ".") || bytes_eq text (codes "|")

unfoldable pub is_bus : List ℕ → Bool
is_bus text = bytes_eq text (codes "[]") || bytes_eq text (codes "{}") || bytes_eq text (codes "<>") || bytes_eq text (codes "()")

abbrev pub take_quoted : Operands → Key → Bool → List ℕ → Result Operands Code
take_quoted before key is_one bytes = if is_quoted key then (if is_one then Ok (record before { name = bytes }) else Err E04) else Err E03

-- the code of a token that isn't the mark or the keyword that is due
abbrev pub unless_due : Bool → Option Code
unless_due true = None
unless_due false = Some E03

abbrev pub is_key : Part → Key → Bool
is_key parts.First _ = true
is_key parts.Open keys.Open = true
is_key parts.Close keys.Close = true
is_key parts.Semicolon keys.Semicolon = true
is_key parts.Distance keys.Distance = true
is_key parts.Microns keys.Microns = true
is_key parts.Mask keys.Mask = true
is_key parts.Synthesized keys.Synthesized = true
is_key parts.Width keys.Width = true
is_key parts.Shape keys.Shape = true
is_key _ _ = false

abbrev pub due : Part → Key → Option Code
due parts.Shape keys.Style = Some E04
due part key = unless_due (is_key part key)

-- the code's answer is that
abbrev pub IsTaken : {U : Type 0} → Result U Code → Option Code → Type 0
IsTaken (Ok done) code = code ≡ None
IsTaken (Err code) refused = refused ≡ Some code

abbrev pub as_due : Operands → Option Code → Result Operands Code
as_due before None = Ok before
as_due before (Some code) = Err code

-- ---- a token in the place of a part: what is said with it, or its code where it isn't that part

unfoldable pub take : Part → Operands → Key → List ℕ → Result Operands Code
take parts.Name before key bytes = take_name parts.Name before key bytes
take parts.SecondName before key bytes = take_name parts.SecondName before key bytes
take parts.ThirdName before key bytes = take_name parts.ThirdName before key bytes
take parts.Choice before key bytes = take_name parts.Choice before key bytes
take parts.Orientation before key bytes = choose before (is_orientation key) key
take parts.Direction before key bytes = choose before (is_direction key) key
take parts.Whole before key bytes = take_number parts.Whole before key bytes
take parts.Passed before key bytes = take_number parts.Passed before key bytes
take parts.AtLeast0 before key bytes = take_number parts.AtLeast0 before key bytes
take parts.Above0 before key bytes = take_number parts.Above0 before key bytes
take parts.UpTo1024 before key bytes = take_number parts.UpTo1024 before key bytes
take parts.X before key bytes = take_number parts.X before key bytes
take parts.Y before key bytes = take_number parts.Y before key bytes
take parts.Extension before key bytes = take_number parts.Extension before key bytes
take parts.Divider before key bytes = take_quoted before key (is_divider bytes) bytes
take parts.BusBits before key bytes = take_quoted before key (is_bus bytes) bytes
take part before key bytes = as_due before (due part key)

-- the code's answer, and what it left, are that
abbrev pub Took : {U : Type 0} → Result U Code → Operands → Result Operands Code → Type 0
Took (Ok done) now taken = taken ≡ Ok now
Took (Err code) now taken = taken ≡ Err code
