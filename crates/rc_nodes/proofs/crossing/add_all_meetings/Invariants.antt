use Rattle.std.proofs.Common.{take}
use Rattle.rc_nodes.specs.Crossings.{Adds, IsMeeting}
use Rattle.rc_nodes.proofs.crossing.add_all_meetings.Given as goal

abbrev pub invariant-loop-level : goal.invariant-loop-level
invariant-loop-level l = Adds (IsMeeting (take l.level-index l.levels) l.uprights) l.fn.nodes.items l.nodes.items
