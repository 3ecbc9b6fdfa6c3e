-- What is read of a SPEF text so far, and what all rows share.
use Rattle.std.specs.Prelude.{ℕ, Bool, true, false, Option, Some, None, Result, Ok, Err, List, [], if◌then◌else◌}
use Rattle.rc_fixed.specs.declared.decimal.Fixed.{Fixed}
use Rattle.rc_fixed.specs.declared.fault.NumFault.{NumFault}
use Rattle.rc_fixed.specs.Numeral.{fixed_of}
use Rattle.rc_keys.specs.declared.code.Code.{Code}
use Rattle.rc_keys.specs.declared.code.Code.TheVariants.{E03, E04}
use Rattle.rc_keys.specs.declared.fault.Refusal.TheVariants.{At}
use Rattle.rc_keys.specs.declared.token.Kind.{Kind}
use Rattle.rc_keys.specs.declared.token.Kind.TheVariants as kinds
use Rattle.rc_keys.specs.Lexemes.{Lexeme}
use Rattle.rc_keys.specs.Course.{Turn, Refuse, More, Done}
use Rattle.rc_spef.specs.declared.value.Spef.{Spef}
use Rattle.rc_spef.specs.declared.value.DNet.{DNet}
use Rattle.rc_spef.specs.declared.value.End.{End}
use Rattle.rc_spef.specs.declared.value.Dir3.{Dir3}
use Rattle.rc_spef.specs.declared.value.Dir3.TheVariants.{I, O, B}
use Rattle.rc_spef.specs.declared.value.Sub.TheVariants as sub
use Rattle.rc_spef.specs.declared.state.Header.{Header}
use Rattle.rc_spef.specs.declared.state.State.{State}
use Rattle.rc_spef.specs.declared.state.Scale.{Scale}
use Rattle.rc_spef.specs.declared.state.Scale.TheVariants as scales
use Rattle.rc_spef.specs.declared.state.ConnKind.TheVariants as conn_kinds
use Rattle.rc_spef.specs.declared.state.Row.{Row}
use Rattle.rc_spef.specs.declared.state.Row.TheVariants as rows
use Rattle.rc_spef.specs.declared.key.Key.{Key}
use Rattle.rc_spef.specs.declared.key.Key.TheVariants as keys
use Rattle.rc_spef.specs.Keys.{key_of, is_left_out}
use Rattle.rc_spef.specs.References.{end_of, name_of}

-- ---- nothing is read

abbrev pub no_end : End
no_end = record { name = 0; sub = sub.Bare }

abbrev pub no_net : DNet
no_net = record { name = 0; total = record { 0 = 0 }; conns = []; caps = []; res = [] }

abbrev pub no_header : Header
no_header = record { seen = []; design = None; divider = 47; bus_left = 91; bus_right = 93; cap_scale = None; res_scale = None }

abbrev pub spef_begin : State
spef_begin = record {
  row = rows.Begin;
  back = rows.Begin;
  line = 1;
  header = no_header;
  map = [];
  names = [];
  ports = [];
  nets = [];
  net = no_net;
  name = 0;
  kind = conn_kinds.Node;
  first = no_end;
  second = None;
}

-- ---- the value that was read

abbrev pub or_nothing : Option (List ℕ) → List ℕ
or_nothing None = []
or_nothing (Some bytes) = bytes

abbrev pub spef_made : State → Spef
spef_made s = record {
  design = or_nothing s.header.design;
  divider = s.header.divider;
  bus_left = s.header.bus_left;
  bus_right = s.header.bus_right;
  names = s.names;
  ports = s.ports;
  nets = s.nets;
}

-- ---- moves

-- the statement goes on in a row
abbrev pub goes : Row → State → Turn State
goes row s = More (record s { row = row })

-- the statement is complete, and a row goes on
abbrev pub done : Row → State → Turn State
done row s = Done (record s { row = row })

-- a token that belongs to an earlier statement is refused at its line
abbrev pub refuse_there : Code → State → Turn State
refuse_there code s = Refuse (At code s.line)

-- ---- what tokens say

abbrev pub is_quoted_kind : Kind → Bool
is_quoted_kind kinds.Quoted = true
is_quoted_kind kinds.Word = false

-- a word that is left out by name is refused as that
abbrev pub code_of : Lexeme → Code → Code
code_of word code = if is_left_out (key_of word) then E04 else code

abbrev pub told : {X : Type 0} → Lexeme → Result X Code → Result X Code
told word (Ok value) = Ok value
told word (Err code) = Err (code_of word code)

-- the end that a token stands for, and the name
unfoldable pub end_read : List ℕ → Lexeme → Result End Code
end_read numbers word = if is_quoted_kind word.kind then Err E03 else told word (end_of numbers word.bytes)

unfoldable pub name_read : List ℕ → Lexeme → Result ℕ Code
name_read numbers word = if is_quoted_kind word.kind then Err E03 else told word (name_of numbers word.bytes)

-- how many times ten a value is taken
abbrev pub shift_of : Scale → ℕ
shift_of scales.One = 0
shift_of scales.Thousand = 3

abbrev pub scale_or_one : Option Scale → Scale
scale_or_one (Some scale) = scale
scale_or_one None = scales.One

abbrev pub if_ok : Result Fixed NumFault → Option Fixed
if_ok (Ok value) = Some value
if_ok (Err fault) = None

-- the value that a token stands for, in units of 10^-15
unfoldable pub value_read : Option Scale → Lexeme → Option Fixed
value_read scale word = if is_quoted_kind word.kind then None else if_ok (fixed_of (shift_of (scale_or_one scale)) word.bytes)

-- the direction that a keyword stands for
abbrev pub direction_of : Key → Option Dir3
direction_of keys.In = Some I
direction_of keys.Out = Some O
direction_of keys.Both = Some B
direction_of _ = None
