-- The resistors so far.
use Rattle.std.proofs.Common.{◌≡◌, take}
use Rattle.rc_engine.specs.Connections.{res_lines}
use Rattle.rc_engine.proofs.resist.resistances.Given as goal

abbrev pub invariant-loop-res : goal.invariant-loop-res
invariant-loop-res l = l.list ≡ res_lines l.net l.lines (take l.res-index l.resistors)
