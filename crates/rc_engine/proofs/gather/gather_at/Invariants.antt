-- What stands at the positions so far.
use Rattle.std.proofs.Common.{◌≡◌, take}
use Rattle.rc_engine.specs.Brought.{owned_at}
use Rattle.rc_engine.proofs.gather.gather_at.Given as goal

abbrev pub invariant-loop-at : goal.invariant-loop-at
invariant-loop-at l = l.entries.items ≡ owned_at l.tallies l.net (take l.at-index l.positions)
