-- The least of the layers of the nets so far.
use Rattle.std.proofs.Common.{◌≡◌, take}
use Rattle.std.specs.Prelude.{None, All, fold}
use Rattle.std.specs.List.{flat_map}
use Rattle.rc_engine.specs.Windows.{HasRatedItems}
use Rattle.rc_engine.specs.Start.{least_step, lacks_block, net_layers}
use Rattle.rc_engine.proofs.missing.with_nets.Given as goal

abbrev pub invariant-loop-net : goal.invariant-loop-net
invariant-loop-net l = record {
  is : l.least ≡ fold (least_step (lacks_block l.rules)) l.initial.least (flat_map net_layers (take l.net-index l.nets));
  before : l.least ≡ None → l.initial.least ≡ None;
  rated : l.least ≡ None → All (HasRatedItems l.rules) (take l.net-index l.nets);
}
