-- The connections so far are there.
use Rattle.std.proofs.Common.{◌≡◌, take, Ok}
use Rattle.rc_layout.specs.Entries.{link_conn}
use Rattle.rc_layout.specs.Refusals.{through, adds}
use Rattle.rc_layout.proofs.conn.put_conns.Given as goal

abbrev pub invariant-loop-entry : goal.invariant-loop-entry
invariant-loop-entry l = through (adds (link_conn l.parts l.line)) l.initial.conns (take l.entry-index l.entries) ≡ Ok l.conns
