use Rattle.std.proofs.Common.{ap, ◌∙◌, sym, subst, length, List}
use Rattle.std.specs.Prelude.{All}
use Rattle.rc_geom.specs.Rects.{IsNearRect}
use Rattle.rc_sweep.specs.declared.window.Window.{Window}
use Rattle.rc_rows_windows.proofs.Sweepable.{windows_can}
use Rattle.rc_rows_windows.proofs.sweeping.swept.Goals as goal

pub sweep_many-requires-clause-can : goal.sweep_many-requires-clause-can
sweep_many-requires-clause-can g c =
    λ _ _. windows_can c.args.rates.now.by_digits c.args.grid.now c.deref.result.now c.args.tiles.now c.lists.result.now c.requires.scene c.requires.few
    (ap (λ (ws : List Window). length ws) c.deref.ensures.value ∙ c.in_ok-windows.ensures.count)
    (subst (All (λ (w : Window). IsNearRect w.rect)) (sym c.deref.ensures.value) c.in_ok-windows.ensures.near)
    (c.lists.ensures ∙ c.in_ok-index.ensures.lists)
