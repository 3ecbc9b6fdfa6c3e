use Rattle.std.proofs.Common.{◌≡◌, take}
use Rattle.std.specs.Prelude.{filter}
use Rattle.rc_nodes.specs.Crossings.{is_beside}
use Rattle.rc_nodes.proofs.crossing.those_beside.Given as goal

abbrev pub invariant-loop-upright : goal.invariant-loop-upright
invariant-loop-upright l = l.kept.items ≡ filter (is_beside l.all l.part) (take l.upright-index l.uprights)
