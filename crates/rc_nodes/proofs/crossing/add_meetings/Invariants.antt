use Rattle.std.proofs.Common.{◌≡◌, ◌++◌, map, take}
use Rattle.std.specs.Prelude.{filter}
use Rattle.rc_nodes.specs.Crossings.{is_met, meeting}
use Rattle.rc_nodes.proofs.crossing.add_meetings.Given as goal

abbrev pub invariant-loop-k : goal.invariant-loop-k
invariant-loop-k l = l.nodes.items ≡ l.fn.nodes.items ++ map (meeting l.probe) (filter (is_met l.probe) (take l.k l.others))
