-- The names so far.
use Rattle.std.proofs.Common.{◌≡◌, ◌++◌, take, map}
use Rattle.rc_engine.specs.Names.{escaped_in}
use Rattle.rc_engine.proofs.naming.push_nets.Given as goal

abbrev pub invariant-loop-net : goal.invariant-loop-net
invariant-loop-net l = l.names ≡ l.initial.names ++ map (λ net. escaped_in l.layout.parts net.name) (take l.net-index l.nets)
