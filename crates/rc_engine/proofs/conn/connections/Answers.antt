-- The line of one connection more.
use Rattle.rc_engine.specs.Connections.{conn_line}
use Rattle.rc_engine.proofs.Steps.{made_more}
use Rattle.rc_engine.proofs.conn.connections.Goals as goal

pub loop-conn-preserved : goal.loop-conn-preserved
loop-conn-preserved c =
    made_more (conn_line c.args.layout.now.parts c.args.naming.now) c.items-conns.result.now c.loop-conn.conn-index _ c.loop-conn.lines c.push_any.new.list c.in_ok-line.line c.loop-conn-test.true c.in_ok-line.ensures c.loop-conn.invariant c.in_ok-push_any.ensures
