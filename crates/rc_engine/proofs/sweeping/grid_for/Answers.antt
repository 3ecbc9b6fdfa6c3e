-- A halo has at least one unit.
use Rattle.std.proofs.Common.{arith}
use Rattle.rc_rules.specs.Looked.{never_falls}
use Rattle.rc_engine.proofs.sweeping.grid_for.Goals as goal

pub new-requires-clause-halo : goal.new-requires-clause-halo
new-requires-clause-halo c =
    let is = c.halo.ensures.value in
    let some = never_falls c.args.rules.now.layers 1 in
    record { some = omega (arith, is, some); most = c.halo.ensures.bound }
