use Rattle.rc_geom.specs.Plane.{plane_of}
use Rattle.rc_rows_sweep.specs.RowRates.{row_rates}
use Rattle.rc_rows_sweep.proofs.Bounds.{counts_fit, values_fit}
use Rattle.rc_rows_sweep.proofs.scene.by_columns.Goals as goal

pub sum_by_columns-requires-clause-counts : goal.sum_by_columns-requires-clause-counts
sum_by_columns-requires-clause-counts g c = λ _ key. counts_fit (row_rates c.args.rates.now.by_digits) (plane_of c.args.tiles.now) _ c.args.rect.now key c.requires.window

pub sum_by_columns-requires-clause-values : goal.sum_by_columns-requires-clause-values
sum_by_columns-requires-clause-values g c = λ _ key. values_fit c.args.rates.now.by_digits (plane_of c.args.tiles.now) _ c.args.rect.now key c.requires.window

pub sum_by_columns-requires-clause-ranks : goal.sum_by_columns-requires-clause-ranks
sum_by_columns-requires-clause-ranks g c = λ _ i j d less within. (c.requires.tiles.pairs i j d less within).ranks

pub sum_by_columns-requires-clause-apart : goal.sum_by_columns-requires-clause-apart
sum_by_columns-requires-clause-apart g c = λ _ i j d less within. (c.requires.tiles.pairs i j d less within).apart
