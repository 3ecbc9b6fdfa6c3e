use Rattle.std.proofs.Common.{subst, sym}
use Rattle.rc_nodes.specs.Crossings.{InRows}
use Rattle.rc_nodes.proofs.Merged.{rows_take, rows_drop}
use Rattle.rc_nodes.proofs.crossing.halves.Goals as goal

pub returns-clause-in_low : goal.returns-clause-in_low
returns-clause-in_low c = subst InRows (sym c.split_at.ensures.front) (rows_take _ c.args.levels.now c.requires.rows)

pub returns-clause-in_high : goal.returns-clause-in_high
returns-clause-in_high c = subst InRows (sym c.split_at.ensures.back) (rows_drop _ c.args.levels.now c.requires.rows)
