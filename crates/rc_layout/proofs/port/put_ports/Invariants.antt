-- The ports so far are there.
use Rattle.std.proofs.Common.{◌≡◌, take, Ok}
use Rattle.rc_layout.specs.Entries.{with_port}
use Rattle.rc_layout.specs.Refusals.{through}
use Rattle.rc_layout.proofs.port.put_ports.Given as goal

abbrev pub invariant-loop-port : goal.invariant-loop-port
invariant-loop-port l = through (with_port l.process.layers l.factor l.line) l.initial.done (take l.port-index l.ports) ≡ Ok l.done
