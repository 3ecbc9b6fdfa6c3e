-- The lines of the die pins so far.
use Rattle.std.proofs.Common.{◌≡◌, take, map}
use Rattle.std.specs.List.{enumerate_from}
use Rattle.rc_engine.specs.Connections.{port_of}
use Rattle.rc_engine.proofs.conn.die_pins.Given as goal

abbrev pub invariant-loop-number : goal.invariant-loop-number
invariant-loop-number l = l.lines ≡ map (port_of l.naming) (enumerate_from 0 (take l.number l.ports))
