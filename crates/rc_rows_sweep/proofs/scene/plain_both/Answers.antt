use Rattle.rc_geom.specs.Plane.{plane_of}
use Rattle.rc_rows_sweep.specs.RowRates.{row_rates}
use Rattle.rc_rows_sweep.proofs.Bounds.{both_counts_fit, both_values_fit}
use Rattle.rc_rows_sweep.proofs.scene.plain_both.Goals as goal

pub sums_of_both-requires-clause-counts : goal.sums_of_both-requires-clause-counts
sums_of_both-requires-clause-counts c = λ _ key. both_counts_fit (row_rates c.args.rates.now.by_digits) (plane_of c.args.tiles.now) c.args.rect.now key c.requires.window

pub sums_of_both-requires-clause-values : goal.sums_of_both-requires-clause-values
sums_of_both-requires-clause-values c = λ _ key. both_values_fit c.args.rates.now.by_digits (plane_of c.args.tiles.now) c.args.rect.now key c.requires.window
