-- How sums grow by capacitances.
use Rattle.std.specs.Prelude.{◌≡◌, ◌+◌, ◌*◌, ◌^◌, ◌<◌, List, length, sum_by, count_by}
use Rattle.rc_spef.specs.declared.value.Cap.{Cap}
use Rattle.rc_gen.specs.declared.sums.Sums.{Sums}
use Rattle.rc_gen.specs.Summary.{ground_of, is_counted, coupling_of, cap_value}

abbrev pub nothing : Sums
nothing = record { ground = 0; pairs = 0; coupling = 0 }

-- the sums grew by these capacitances
pub record Adds (before now : Sums) (caps : List Cap) : Type 0 where
  pub ground : now.ground ≡ before.ground + sum_by ground_of caps
  pub pairs : now.pairs ≡ before.pairs + count_by is_counted caps
  pub coupling : now.coupling ≡ before.coupling + sum_by coupling_of caps

-- they can, without an overflow
pub record HasRoom (before : Sums) (caps : List Cap) : Type 0 where
  pub ground : before.ground + sum_by cap_value caps < 10 ^ 15 * 2 ^ 128
  pub pairs : before.pairs + length caps < 2 ^ 128
  pub coupling : before.coupling + sum_by cap_value caps < 10 ^ 15 * 2 ^ 128
