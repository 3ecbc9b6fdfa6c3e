use Rattle.std.proofs.Common.{arith}
use Rattle.rc_rows_sweep.proofs.Found.{contains_at}
use Rattle.rc_rows_sweep.proofs.columns.least_rank_shows.Goals as goal

pub remove-requires-clause-tile : goal.remove-requires-clause-tile
remove-requires-clause-tile g c = contains_at c.tiles-tiles.result.now c.in_ok-column.column.tiles c.args.left_out _ c.in_ok-column.ensures.tiles (omega arith)
