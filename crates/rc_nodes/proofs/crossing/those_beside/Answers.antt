use Rattle.std.proofs.Common.{take, subst, sym}
use Rattle.rc_nodes.specs.Crossings.{is_beside, InRows}
use Rattle.rc_nodes.proofs.Merged.{rows_filter, rows_take}
use Rattle.rc_nodes.proofs.crossing.those_beside.Goals as goal

pub returns-clause-rows : goal.returns-clause-rows
returns-clause-rows c =
    subst InRows (sym c.loop-upright.invariant)
    (rows_filter (is_beside c.args.all.now c.args.part.now) (take c.loop-upright.upright-index c.args.uprights.now) (rows_take c.loop-upright.upright-index c.args.uprights.now c.requires))
