-- The component of one connection more joins those before it.
use Rattle.std.proofs.Common.{refl, sym, subst}
use Rattle.rc_engine.proofs.Steps.{use_more, port_more, IsPort}
use Rattle.rc_engine.proofs.naming.enter_uses.Goals as goal
use Rattle.rc_engine.proofs.naming.enter_uses.Goals.{in-Pin+in_ok-insert-in-Pin, in-Port}

pub loop-conn-preserved : goal.loop-conn-preserved
loop-conn-preserved c = elim c.match-conn.branch [
  | in-Pin+in_ok-insert-in-Pin w ↦
      rw w.uses-is
      (use_more c.args.conns.now c.loop-conn.conn-index _ c.args.uses.now.keys c.loop-conn.uses.keys w.insert.new.self.keys w.in-Pin.comp w.in-Pin.pin c.loop-conn-test.true w.in-Pin.is c.loop-conn.invariant w.in_ok-insert-in-Pin.ensures.keys)
  | in-Port w ↦ rw w.uses-is (port_more c.args.conns.now c.loop-conn.conn-index _ c.args.uses.now.keys c.loop-conn.uses.keys c.loop-conn.uses.keys c.loop-conn-test.true (subst IsPort (sym w.in-Port.is) tt) c.loop-conn.invariant refl)
]
