use Rattle.std.proofs.Common.{◌≡◌, ◌≤◌, ◌+◌, ◌^◌, take}
use Rattle.std.specs.Prelude.{fold}
use Rattle.rc_rules.specs.LookUp.{farthest}
use Rattle.rc_rules.proofs.rules.Rules.looked_over.Given as goal

abbrev pub invariant-loop-layer : goal.invariant-loop-layer
invariant-loop-layer l = record { is : l.halo ≡ fold farthest 1 (take l.layer-index l.layer-items); small : l.halo ≤ 2 ^ 29 + 1 }
