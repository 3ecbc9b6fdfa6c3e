-- The line of one die pin more.
use Rattle.rc_engine.specs.Connections.{port_of}
use Rattle.rc_engine.proofs.Steps.{numbered_more}
use Rattle.rc_engine.proofs.conn.die_pins.Goals as goal

pub loop-number-preserved : goal.loop-number-preserved
loop-number-preserved c =
    numbered_more (port_of c.args.naming.now) c.ports-ports.result.now c.loop-number.number c.index-ports-number.result c.loop-number.lines c.push.new.self (record { name = c.port.result; dir = c.direction.result }) c.loop-number-test.true c.loop-number.invariant
    (λ i. record { name = c.port.ensures i; dir = c.direction.ensures i }) c.in_ok-push.ensures.ok
