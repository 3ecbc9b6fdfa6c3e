-- One of the ports that is refused is the first.
use Rattle.std.proofs.Common.{subst, Err}
use Rattle.rc_def.specs.declared.entry.RawPort.{RawPort}
use Rattle.rc_layout.specs.Entries.{with_port}
use Rattle.rc_layout.specs.Refusals.{Leaves}
use Rattle.rc_layout.proofs.Throughs.{leaves_refused}
use Rattle.rc_layout.proofs.port.put_ports.Goals as goal

pub returns-in-Err : goal.returns-in-Err
returns-in-Err c =
    let step = with_port c.args.process.now.layers c.args.factor c.args.line in
    let refused = rw c.in-Err.is at c.put_port.ensures in
    leaves_refused (Unit {0}) step c.args.done.now c.loop-port.done c.put_port.new.done c.put_port.new.done c.in-Err.fault c.args.ports.now
    c.loop-port.port-index c.port-item.result c.loop-port-test.true c.loop-port.invariant
    (subst (λ (x : RawPort). Leaves {T = Unit {0}} (Err c.in-Err.fault) c.put_port.new.done (step c.loop-port.done x)) c.port-item.is refused)
