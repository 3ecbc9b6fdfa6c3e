use Rattle.std.proofs.Common.{arith}
use Rattle.std.proofs.lemmas.Int.{ints, clamps}
use Rattle.rc_geom.proofs.Commons.{common_is}
use Rattle.rc_geom.proofs.rect.common.Goals as goal

pub returns : goal.returns
returns c =
    common_is c.args.a c.args.b _ _ _ _
    (omega (arith, ints, clamps, c.max.ensures.value))
    (omega (arith, ints, clamps, c.max-2.ensures.value))
    (omega (arith, ints, clamps, c.min.ensures.value))
    (omega (arith, ints, clamps, c.min-2.ensures.value))
