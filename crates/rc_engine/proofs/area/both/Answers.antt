use Rattle.std.proofs.Common.{sym, subst, arith}
use Rattle.std.proofs.lemmas.Int.{ints, clamps}
use Rattle.rc_windows.specs.Axes.{IsBounds}
use Rattle.rc_engine.proofs.Hulls.{holding_is, holding_bounds}
use Rattle.rc_engine.proofs.area.both.Goals as goal

pub returns-clause-is : goal.returns-clause-is
returns-clause-is c =
    holding_is c.args.a c.args.b _ _ _ _
    (omega (arith, ints, clamps, c.min.ensures.value))
    (omega (arith, ints, clamps, c.min-2.ensures.value))
    (omega (arith, ints, clamps, c.max.ensures.value))
    (omega (arith, ints, clamps, c.max-2.ensures.value))

pub returns-clause-bounds : goal.returns-clause-bounds
returns-clause-bounds c = subst IsBounds (sym (returns-clause-is c)) (holding_bounds c.args.a c.args.b c.requires.bounds c.requires.shape)
