use Rattle.std.proofs.Common.{◌≡◌, drop}
use Rattle.std.specs.Cmp.Lexicographic.{pointwise}
use Rattle.rc_spef.specs.SameTests.{same_cap}
use Rattle.rc_spef.proofs.same.same_caps.Given as goal

abbrev pub invariant-loop-k : goal.invariant-loop-k
invariant-loop-k l = pointwise (same_cap l.fn.names.ours.now l.fn.names.theirs.now) l.fn.a l.fn.b ≡ pointwise (same_cap l.fn.names.ours.now l.fn.names.theirs.now) (drop l.k l.fn.a) (drop l.k l.fn.b)
