use Rattle.std.proofs.Common.{arith}
use Rattle.rc_rows_sweep.proofs.Found.{contains_at}
use Rattle.rc_rows_sweep.proofs.columns.goes_and_comes.Goals as goal

pub remove-requires-clause-tile : goal.remove-requires-clause-tile
remove-requires-clause-tile g c = contains_at c.tiles-tiles.result.now c.in_ok-changed.changed.tiles c.args.at _ c.in_ok-changed.ensures.tiles (omega arith)
