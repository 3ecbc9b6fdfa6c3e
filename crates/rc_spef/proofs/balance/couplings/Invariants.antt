use Rattle.std.proofs.Common.{◌≡◌, take}
use Rattle.std.specs.Prelude.{flat_map}
use Rattle.rc_spef.specs.Balance.{couplings}
use Rattle.rc_spef.specs.Joints.{seen}
use Rattle.rc_spef.proofs.balance.couplings.Given as goal

abbrev pub invariant-loop-net : goal.invariant-loop-net
invariant-loop-net l = seen l.entries.items ≡ flat_map couplings (take l.net-index l.nets)
