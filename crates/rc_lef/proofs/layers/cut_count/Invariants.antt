use Rattle.std.proofs.Common.{◌≡◌, ◌≤◌, take}
use Rattle.std.specs.Prelude.{count_by}
use Rattle.rc_lef.specs.Technology.{is_cut}
use Rattle.rc_lef.proofs.layers.cut_count.Given as goal

abbrev pub invariant-loop-layer : goal.invariant-loop-layer
invariant-loop-layer l = record { is : l.count ≡ count_by (λ layer. is_cut layer.kind) (take l.layer-index l.layers); small : l.count ≤ l.layer-index }
