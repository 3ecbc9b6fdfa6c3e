use Rattle.std.proofs.Common.{◌+◌, ◌≤◌, ◌^◌}
use Rattle.rc_bench.proofs.linked.read_lefs.Given as goal

abbrev pub invariant-loop-input : goal.invariant-loop-input
invariant-loop-input l = l.reader.bytes + l.room ≤ 2 ^ 30
