-- The tests by which nets are compared. That they tell what is the same is shown in proofs/Alike.
use Rattle.std.specs.Prelude.{◌==◌, ◌&&◌, ℕ, Bool, true, false, List, Option, Some, None}
use Rattle.std.specs.Str.{bytes_eq}
use Rattle.std.specs.Cmp.Lexicographic.{pointwise}
use Rattle.rc_spef.specs.declared.value.SpefConn.{SpefConn}
use Rattle.rc_spef.specs.declared.value.SpefRes.{SpefRes}
use Rattle.rc_spef.specs.declared.value.DNet.{DNet}
use Rattle.rc_spef.specs.declared.value.Cap.{Cap}
use Rattle.rc_spef.specs.declared.value.End.{End}
use Rattle.rc_spef.specs.declared.value.Sub.{Sub}
use Rattle.rc_spef.specs.declared.value.Sub.TheVariants as sub
use Rattle.rc_spef.specs.declared.value.Dir3.{Dir3}
use Rattle.rc_spef.specs.declared.value.Dir3.TheVariants.{I, O, B}
use Rattle.rc_spef.specs.Sameness.{name_text}

abbrev pub same_sub : Sub → Sub → Bool
same_sub sub.Bare sub.Bare = true
same_sub (sub.Num a) (sub.Num b) = a == b
same_sub (sub.Word a) (sub.Word b) = bytes_eq a b
same_sub _ _ = false

abbrev pub same_dir : Dir3 → Dir3 → Bool
same_dir I I = true
same_dir O O = true
same_dir B B = true
same_dir _ _ = false

abbrev pub same_option : {X : Type 0} → (X → X → Bool) → Option X → Option X → Bool
same_option test None None = true
same_option test (Some a) (Some b) = test a b
same_option test _ _ = false

abbrev pub same_bool : Bool → Bool → Bool
same_bool true b = b
same_bool false true = false
same_bool false false = true

unfoldable pub same_end : List (List ℕ) → List (List ℕ) → End → End → Bool
same_end names others a b = bytes_eq (name_text names a.name) (name_text others b.name) && same_sub a.sub b.sub

unfoldable pub same_conn : List (List ℕ) → List (List ℕ) → SpefConn → SpefConn → Bool
same_conn names others a b =
    same_bool a.port b.port && (same_end names others a.end b.end && (same_dir a.dir b.dir && same_option bytes_eq a.cell b.cell))

unfoldable pub same_cap : List (List ℕ) → List (List ℕ) → Cap → Cap → Bool
same_cap names others a b = same_end names others a.a b.a && (same_option (same_end names others) a.b b.b && (a.value.0 == b.value.0))

unfoldable pub same_resistor : List (List ℕ) → List (List ℕ) → SpefRes → SpefRes → Bool
same_resistor names others a b = same_end names others a.a b.a && (same_end names others a.b b.b && (a.value.0 == b.value.0))

unfoldable pub same_net : List (List ℕ) → List (List ℕ) → DNet → DNet → Bool
same_net names others a b =
    bytes_eq (name_text names a.name) (name_text others b.name)
    && ((a.total.0 == b.total.0)
    && (pointwise (same_conn names others) a.conns b.conns
    && (pointwise (same_cap names others) a.caps b.caps
    && pointwise (same_resistor names others) a.res b.res)))
