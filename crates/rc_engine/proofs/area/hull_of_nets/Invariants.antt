-- The hull of the nets so far.
use Rattle.std.proofs.Common.{◌≡◌, take}
use Rattle.std.specs.Prelude.{IfSome, fold}
use Rattle.std.specs.List.{flat_map}
use Rattle.rc_windows.specs.Axes.{IsBounds}
use Rattle.rc_engine.specs.Start.{hull, net_rects}
use Rattle.rc_engine.proofs.area.hull_of_nets.Given as goal

abbrev pub invariant-loop-net : goal.invariant-loop-net
invariant-loop-net l = record {
  is : l.bounds ≡ fold hull l.initial.bounds (flat_map net_rects (take l.net-index l.nets));
  bounds : IfSome l.bounds IsBounds;
}
