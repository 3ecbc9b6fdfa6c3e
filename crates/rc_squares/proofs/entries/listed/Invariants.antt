use Rattle.std.proofs.Common.{◌≡◌, map}
use Rattle.std.specs.Map.Iter.{deref_pair}
use Rattle.rc_squares.specs.Entries.{entry_of}
use Rattle.rc_squares.proofs.entries.listed.Given as goal

-- the list has an entry for each key so far
abbrev pub invariant-loop-key : goal.invariant-loop-key
invariant-loop-key l = l.list ≡ map entry_of (map deref_pair l.yielded)
