-- The components of the connections so far are there.
use Rattle.std.proofs.Common.{◌≡◌, take}
use Rattle.std.specs.Prelude.{fold}
use Rattle.rc_engine.specs.Names.{with_conn}
use Rattle.rc_engine.proofs.naming.enter_uses.Given as goal

abbrev pub invariant-loop-conn : goal.invariant-loop-conn
invariant-loop-conn l = l.uses.keys ≡ fold with_conn l.initial.uses.keys (take l.conn-index l.conns)
