-- All windows can be swept.
use Rattle.std.proofs.Common.{List, ap, sym, subst, ◌∙◌, ◌^◌}
use Rattle.std.specs.Prelude.{nat_lt}
use Rattle.rc_geom.specs.declared.tile.Tile.{Tile}
use Rattle.rc_geom.specs.Sums.{numbers}
use Rattle.rc_rules.specs.RuleFile.{HasRules}
use Rattle.rc_rules.specs.LookUp.{rates}
use Rattle.rc_sweep.specs.declared.window.Window.{Window}
use Rattle.rc_windows.specs.Indexes.{near_lists}
use Rattle.rc_windows.specs.Sweeps.{CanSweepAll}
use Rattle.rc_engine.specs.Windows.{windows_of}
use Rattle.rc_engine.proofs.Sweepable.{windows_can_be_swept}
use Rattle.rc_engine.proofs.sweeping.swept.Goals as goal

pub sweep_many-requires-clause-can : goal.sweep_many-requires-clause-can
sweep_many-requires-clause-can g c κs within =
    let wired = c.args.layout.now in
    let rules = c.args.rules.now in
    let frame = c.grid_for-grid.result in
    let can = windows_can_be_swept wired rules frame c.requires.layout c.grid_for-grid.ensures.frame in
    let lists = c.lists.ensures ∙ c.in_ok-index.ensures.lists ∙ ap (near_lists frame) c.requires.tiles in
    let windows = c.items.ensures ∙ c.in_ok-windows.ensures in
    subst (λ (ws : List Window). CanSweepAll numbers (λ v. nat_lt v (2 ^ 128)) (HasRules rules) (rates rules) ws c.lists.result.now) (sym windows)
    (subst (λ (ls : List (List Tile)). CanSweepAll numbers (λ v. nat_lt v (2 ^ 128)) (HasRules rules) (rates rules) (windows_of frame) ls) (sym lists) can)
