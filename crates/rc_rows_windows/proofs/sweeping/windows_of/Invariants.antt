use Rattle.std.proofs.Common.{◌≡◌, length}
use Rattle.std.specs.Prelude.{All}
use Rattle.rc_geom.specs.Rects.{IsNearRect}
use Rattle.rc_sweep.specs.declared.window.Window.{Window}
use Rattle.rc_rows_windows.proofs.sweeping.windows_of.Given as goal

-- there are as many windows as were asked for so far
abbrev pub invariant-loop-k : goal.invariant-loop-k
invariant-loop-k l = record {
  count : length l.windows.items ≡ l.k;
  near : All (λ (w : Window). IsNearRect w.rect) l.windows.items;
}
