use Rattle.rc_geom.specs.Plane.{plane_of}
use Rattle.rc_rows_sweep.specs.RowRates.{row_rates}
use Rattle.rc_rows_sweep.proofs.Bounds.{counts_fit, values_fit}
use Rattle.rc_rows_sweep.proofs.scene.plain.Goals as goal

pub sums_in-requires-clause-counts : goal.sums_in-requires-clause-counts
sums_in-requires-clause-counts g c = λ _ key. counts_fit (row_rates c.args.rates.now.by_digits) (plane_of c.args.tiles.now) _ c.args.rect.now key c.requires.window

pub sums_in-requires-clause-values : goal.sums_in-requires-clause-values
sums_in-requires-clause-values g c = λ _ key. values_fit c.args.rates.now.by_digits (plane_of c.args.tiles.now) _ c.args.rect.now key c.requires.window
