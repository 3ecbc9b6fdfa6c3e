use Rattle.std.proofs.Common.{◌≡◌, take}
use Rattle.std.specs.Prelude.{filter}
use Rattle.rc_nodes.specs.Crossings.{is_across}
use Rattle.rc_nodes.proofs.crossing.those_across.Given as goal

abbrev pub invariant-loop-upright : goal.invariant-loop-upright
invariant-loop-upright l = l.kept.items ≡ filter (is_across l.rows) (take l.upright-index l.uprights)
