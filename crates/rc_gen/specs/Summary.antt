-- What parasitics come to: how many nets, all capacitances to ground, how many pairs of nodes are coupled, and all couplings.
use Rattle.std.specs.Prelude.{ℕ, ◌*◌, ◌^◌, ◌<◌, Bool, false, List, ◌++◌, Option, Some, None, codes, length, nat_lt, if◌then◌else◌, sum_by, count_by}
use Rattle.std.specs.Fmt.{decimal}
use Rattle.std.specs.List.{flat_map}
use Rattle.rc_fixed.specs.Decimal.{decimal_text}
use Rattle.rc_spef.specs.declared.value.Spef.{Spef}
use Rattle.rc_spef.specs.declared.value.DNet.{DNet}
use Rattle.rc_spef.specs.declared.value.Cap.{Cap}
use Rattle.rc_spef.specs.declared.value.End.{End}

-- the capacitances of all nets
unfoldable pub all_caps : List DNet → List Cap
all_caps nets = flat_map (λ net. net.caps) nets

-- in 10^-15 fF
abbrev pub cap_value : Cap → ℕ
cap_value cap = cap.value.0

-- what a capacitance adds to those to ground: all of it where it has no second end
abbrev pub ground_of : Cap → ℕ
ground_of cap = by_end cap.b
  where
    by_end : Option End → ℕ
    by_end None = cap_value cap
    by_end (Some to) = 0

-- a coupling stands in the nets of both of its ends; it counts where it leads from the lower number of a name to the higher
abbrev pub is_counted : Cap → Bool
is_counted cap = by_end cap.b
  where
    by_end : Option End → Bool
    by_end None = false
    by_end (Some to) = nat_lt cap.a.name to.name

abbrev pub coupling_of : Cap → ℕ
coupling_of cap = if is_counted cap then cap_value cap else 0

unfoldable pub ground : Spef → ℕ
ground spef = sum_by ground_of (all_caps spef.nets)

unfoldable pub pairs : Spef → ℕ
pairs spef = count_by is_counted (all_caps spef.nets)

unfoldable pub coupling : Spef → ℕ
coupling spef = sum_by coupling_of (all_caps spef.nets)

-- four lines
unfoldable pub summary_text : Spef → List ℕ
summary_text spef =
    codes "nets " ++ decimal (length spef.nets)
    ++ codes "\nground " ++ decimal_text (ground spef)
    ++ codes "\ncouplings " ++ decimal (pairs spef)
    ++ codes "\ncoupling " ++ decimal_text (coupling spef) ++ codes "\n"

-- all capacitances together are less than 2^128 fF
unfoldable pub AreSummable : List DNet → Type 0
AreSummable nets = sum_by cap_value (all_caps nets) < 10 ^ 15 * 2 ^ 128

abbrev pub IsSummable : Spef → Type 0
IsSummable spef = AreSummable spef.nets
