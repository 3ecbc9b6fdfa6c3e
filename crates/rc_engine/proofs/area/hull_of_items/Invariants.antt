-- The hull so far.
use Rattle.std.proofs.Common.{◌≡◌, take, map}
use Rattle.std.specs.Prelude.{IfSome, fold}
use Rattle.rc_windows.specs.Axes.{IsBounds}
use Rattle.rc_engine.specs.Start.{hull}
use Rattle.rc_engine.proofs.area.hull_of_items.Given as goal

abbrev pub invariant-loop-item : goal.invariant-loop-item
invariant-loop-item l = record {
  is : l.bounds ≡ fold hull l.initial.bounds (map (λ item. item.rect) (take l.item-index l.items));
  bounds : IfSome l.bounds IsBounds;
}
