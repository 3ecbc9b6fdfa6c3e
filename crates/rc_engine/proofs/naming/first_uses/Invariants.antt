-- The components of the nets so far are there.
use Rattle.std.proofs.Common.{◌≡◌, take}
use Rattle.rc_engine.specs.Names.{first_uses}
use Rattle.rc_engine.proofs.naming.first_uses.Given as goal

abbrev pub invariant-loop-net : goal.invariant-loop-net
invariant-loop-net l = l.uses.keys ≡ first_uses (take l.net-index l.nets)
