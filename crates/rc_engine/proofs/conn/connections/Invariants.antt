-- The lines of the connections so far.
use Rattle.std.proofs.Common.{◌≡◌, take}
use Rattle.rc_engine.specs.Connections.{conn_lines}
use Rattle.rc_engine.proofs.conn.connections.Given as goal

abbrev pub invariant-loop-conn : goal.invariant-loop-conn
invariant-loop-conn l = l.lines ≡ conn_lines l.layout.parts l.naming (take l.conn-index l.conns)
