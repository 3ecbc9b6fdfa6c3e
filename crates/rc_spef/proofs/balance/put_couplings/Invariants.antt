use Rattle.std.proofs.Common.{◌≡◌, ◌++◌, take}
use Rattle.std.specs.Prelude.{filter_map}
use Rattle.rc_spef.specs.Balance.{coupling_of}
use Rattle.rc_spef.specs.Joints.{seen}
use Rattle.rc_spef.proofs.balance.put_couplings.Given as goal

abbrev pub invariant-loop-cap : goal.invariant-loop-cap
invariant-loop-cap l = seen l.entries.items ≡ seen l.initial.entries.items ++ filter_map coupling_of (take l.cap-index l.cap-items)
