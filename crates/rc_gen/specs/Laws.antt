-- When parasitics can be summed up.
use Rattle.std.specs.Prelude.{◌<◌, ◌≤◌, ◌^◌, List, All, length, sum_by}
use Rattle.rc_spef.specs.declared.value.DNet.{DNet}
use Rattle.rc_gen.specs.Summary.{cap_value, AreSummable}

-- up to 2^49 nets can, the capacitances of each of which add up to a number of 128 bits
abbrev pub SmallTotalsSuffice : Type 0
SmallTotalsSuffice = (nets : List DNet) → length nets ≤ 2 ^ 49 → All (λ net. sum_by cap_value net.caps < 2 ^ 128) nets → AreSummable nets
