-- The connections so far stand at their first places.
use Rattle.std.proofs.Common.{◌≡◌, take}
use Rattle.rc_layout.specs.Entries.{at_first}
use Rattle.rc_layout.proofs.conn.at_first.Given as goal

abbrev pub invariant-loop-conn : goal.invariant-loop-conn
invariant-loop-conn l = l.seen.keys ≡ at_first (take l.conn-index l.conns)
