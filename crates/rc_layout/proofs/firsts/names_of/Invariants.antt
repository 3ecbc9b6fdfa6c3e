use Rattle.std.proofs.Common.{◌≡◌, take, map}
use Rattle.rc_layout.proofs.firsts.names_of.Given as goal

abbrev pub invariant-loop-item : goal.invariant-loop-item
invariant-loop-item g l = map (λ name. name.text) l.names ≡ map g.T.Named.called (take l.item-index l.items)
