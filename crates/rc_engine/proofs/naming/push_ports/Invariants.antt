-- The names so far.
use Rattle.std.proofs.Common.{◌≡◌, ◌++◌, take, map}
use Rattle.rc_engine.specs.Names.{escaped_in}
use Rattle.rc_engine.proofs.naming.push_ports.Given as goal

abbrev pub invariant-loop-port : goal.invariant-loop-port
invariant-loop-port l = l.names ≡ l.initial.names ++ map (λ port. escaped_in l.layout.parts port.name) (take l.port-index l.ports)
