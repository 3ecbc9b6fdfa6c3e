use Rattle.std.proofs.Common.{◌≡◌, take}
use Rattle.std.specs.Prelude.{sum_by}
use Rattle.rc_spef.proofs.balance.has_total.Given as goal

abbrev pub invariant-loop-cap : goal.invariant-loop-cap
invariant-loop-cap l = l.sum ≡ sum_by (λ cap. cap.value.0) (take l.cap-index l.cap-items)
