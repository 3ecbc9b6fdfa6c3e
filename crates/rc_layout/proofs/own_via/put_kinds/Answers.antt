-- One of the kinds that is refused is the first.
use Rattle.std.proofs.Common.{subst, Err, List, ℕ}
use Rattle.rc_layout.specs.Scope.{layer_named}
use Rattle.rc_layout.specs.Refusals.{Leaves, adds}
use Rattle.rc_layout.proofs.Throughs.{leaves_refused}
use Rattle.rc_layout.proofs.own_via.put_kinds.Goals as goal

pub returns-in-Err : goal.returns-in-Err
returns-in-Err c =
    let step = adds (layer_named c.args.process.now.layers c.args.line) in
    let refused = rw c.in-Err.is at c.put_kind.ensures in
    leaves_refused (Unit {0}) step c.args.kinds.now c.loop-name.kinds c.put_kind.new.kinds c.put_kind.new.kinds c.in-Err.fault c.args.names.now
    c.loop-name.name-index c.name-item.result c.loop-name-test.true c.loop-name.invariant
    (subst (λ (x : List ℕ). Leaves {T = Unit {0}} (Err c.in-Err.fault) c.put_kind.new.kinds (step c.loop-name.kinds x)) c.name-item.is refused)
