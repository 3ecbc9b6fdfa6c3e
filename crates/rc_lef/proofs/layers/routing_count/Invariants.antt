use Rattle.std.proofs.Common.{◌≡◌, ◌≤◌, take}
use Rattle.std.specs.Prelude.{count_by}
use Rattle.rc_lef.specs.Technology.{is_routing}
use Rattle.rc_lef.proofs.layers.routing_count.Given as goal

abbrev pub invariant-loop-layer : goal.invariant-loop-layer
invariant-loop-layer l = record { is : l.count ≡ count_by (λ layer. is_routing layer.kind) (take l.layer-index l.layers); small : l.count ≤ l.layer-index }
