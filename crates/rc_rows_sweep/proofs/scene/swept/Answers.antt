use Rattle.rc_geom.specs.Plane.{plane_of}
use Rattle.rc_rows_sweep.specs.RowRates.{row_rates}
use Rattle.rc_rows_sweep.proofs.Bounds.{counts_fit, values_fit}
use Rattle.rc_rows_sweep.proofs.scene.swept.Goals as goal

pub sweep_window-requires-clause-counts : goal.sweep_window-requires-clause-counts
sweep_window-requires-clause-counts g c = λ _ key. counts_fit (row_rates c.args.rates.now.by_digits) (plane_of c.args.tiles.now) _ c.args.rect.now key c.requires.window

pub sweep_window-requires-clause-values : goal.sweep_window-requires-clause-values
sweep_window-requires-clause-values g c = λ _ key. values_fit c.args.rates.now.by_digits (plane_of c.args.tiles.now) _ c.args.rect.now key c.requires.window

pub sweep_window-requires-clause-ranks : goal.sweep_window-requires-clause-ranks
sweep_window-requires-clause-ranks g c = λ _ i j d less within. (c.requires.tiles.pairs i j d less within).ranks

pub sweep_window-requires-clause-apart : goal.sweep_window-requires-clause-apart
sweep_window-requires-clause-apart g c = λ _ i j d less within. (c.requires.tiles.pairs i j d less within).apart
