-- The next connection joins the others where it isn't there.
use Rattle.rc_layout.proofs.Conns.{first_next}
use Rattle.rc_layout.proofs.conn.at_first.Goals as goal

pub loop-conn-preserved : goal.loop-conn-preserved
loop-conn-preserved c =
    first_next _ c.equal_are_same.ensures c.args.conns.now c.loop-conn.conn-index _ c.loop-conn.seen.keys c.insert.new.self.keys c.loop-conn-test.true c.loop-conn.invariant c.in-Ok.ensures.keys
