-- The values that can be written and read back.
use Rattle.std.specs.Prelude.{ℕ, Bool, false, List, [], ◌∷◌, ◌<◌, ◌≤◌, ◌^◌, ◌==◌, ◌&&◌, ◌||◌, not, length, IsTrue, IfSome}
use Rattle.std.specs.List.{list_all, AllByRecursion}
use Rattle.rc_keys.specs.Pieces.{is_graphic, IsQuotable}
use Rattle.rc_spef.specs.declared.value.Spef.{Spef}
use Rattle.rc_spef.specs.declared.value.SpefConn.{SpefConn}
use Rattle.rc_spef.specs.declared.value.SpefRes.{SpefRes}
use Rattle.rc_spef.specs.declared.value.DNet.{DNet}
use Rattle.rc_spef.specs.declared.value.Cap.{Cap}
use Rattle.rc_spef.specs.declared.value.End.{End}
use Rattle.rc_spef.specs.declared.value.Sub.{Sub}
use Rattle.rc_spef.specs.declared.value.Sub.TheVariants as sub
use Rattle.rc_spef.specs.References.{is_num, begins_star}
use Rattle.rc_spef.specs.Text.{Token, Word, Quoted, spef_lines, spef_text}

abbrev pub begins_quote : List ℕ → Bool
begins_quote [] = false
begins_quote (byte ∷ bytes) = byte == 34

abbrev pub begins_comment : List ℕ → Bool
begins_comment (first ∷ second ∷ bytes) = (first == 47) && (second == 47)
begins_comment _ = false

-- bytes from 33 to 126, at least one
abbrev pub is_word : List ℕ → Bool
is_word bytes = not (length bytes == 0) && list_all is_graphic bytes

-- a name or a cell
abbrev pub is_name : List ℕ → Bool
is_name bytes = is_word bytes && not (begins_quote bytes || begins_star bytes || begins_comment bytes)

-- a place in the list of names, from 1
abbrev pub IsPlace : List (List ℕ) → ℕ → Type 0
IsPlace names place = (1 ≤ place) × (place ≤ length names)

abbrev pub IsSub : Sub → Type 0
IsSub sub.Bare = Unit {0}
IsSub (sub.Num number) = number < 2 ^ 32
IsSub (sub.Word word) = IsTrue (is_word word) × IsTrue (not (is_num word))

pub record IsEnd (names : List (List ℕ)) (end : End) : Type 0 where
  pub place : IsPlace names end.name
  pub behind : IsSub end.sub

abbrev pub IsValue : ℕ → Type 0
IsValue value = value ≤ 10 ^ 36

pub record IsConn (names : List (List ℕ)) (conn : SpefConn) : Type 0 where
  pub end : IsEnd names conn.end
  pub cell : IfSome conn.cell (λ cell. IsTrue (is_name cell))

pub record IsCap (names : List (List ℕ)) (cap : Cap) : Type 0 where
  pub a : IsEnd names cap.a
  pub b : IfSome cap.b (IsEnd names)
  pub value : IsValue cap.value.0

pub record IsResistor (names : List (List ℕ)) (resistor : SpefRes) : Type 0 where
  pub a : IsEnd names resistor.a
  pub b : IsEnd names resistor.b
  pub value : IsValue resistor.value.0

pub record IsNet (names : List (List ℕ)) (net : DNet) : Type 0 where
  pub name : IsPlace names net.name
  pub total : IsValue net.total.0
  pub conns : AllByRecursion (IsConn names) net.conns
  pub caps : AllByRecursion (IsCap names) net.caps
  pub res : AllByRecursion (IsResistor names) net.res

-- a divider or a byte around a bit's number: from 33 to 126 but `"`
abbrev pub is_mark : ℕ → Bool
is_mark byte = is_graphic byte && not (byte == 34)

-- a token's bytes, without its quotes
abbrev pub bytes_of : Token → List ℕ
bytes_of (Word bytes) = bytes
bytes_of (Quoted bytes) = bytes

abbrev pub IsShort : Token → Type 0
IsShort token = length (bytes_of token) ≤ 4096

pub record IsWritable (spef : Spef) : Type 0 where
  pub design : IsQuotable spef.design
  pub divider : IsTrue (is_mark spef.divider)
  pub bus_left : IsTrue (is_mark spef.bus_left)
  pub bus_right : IsTrue (is_mark spef.bus_right)
  pub names : AllByRecursion (λ name. IsTrue (is_name name)) spef.names
  pub ports : AllByRecursion (λ port. IsPlace spef.names port.name) spef.ports
  pub nets : AllByRecursion (IsNet spef.names) spef.nets
  pub tokens : AllByRecursion (AllByRecursion IsShort) (spef_lines spef)
  pub text : length (spef_text spef) ≤ 2 ^ 30
