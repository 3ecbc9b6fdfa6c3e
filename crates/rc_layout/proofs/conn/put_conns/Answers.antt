-- One of the connections that is refused is the first.
use Rattle.std.proofs.Common.{subst, Err, List, ℕ}
use Rattle.rc_layout.specs.Entries.{link_conn}
use Rattle.rc_layout.specs.Refusals.{Leaves, adds}
use Rattle.rc_layout.proofs.Throughs.{leaves_refused}
use Rattle.rc_layout.proofs.conn.put_conns.Goals as goal

pub returns-in-Err : goal.returns-in-Err
returns-in-Err c =
    let step = adds (link_conn c.args.parts.now c.args.line) in
    let refused = rw c.in-Err.is at c.put_conn.ensures in
    leaves_refused (Unit {0}) step c.args.conns.now c.loop-entry.conns c.put_conn.new.conns c.put_conn.new.conns c.in-Err.fault c.args.entries.now
    c.loop-entry.entry-index c.entry-item.result c.loop-entry-test.true c.loop-entry.invariant
    (subst (λ (x : List ℕ × List ℕ). Leaves {T = Unit {0}} (Err c.in-Err.fault) c.put_conn.new.conns (step c.loop-entry.conns x)) c.entry-item.is refused)
