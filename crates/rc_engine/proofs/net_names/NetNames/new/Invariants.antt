-- The names so far.
use Rattle.std.proofs.Common.{◌≡◌, ℕ, map, take}
use Rattle.std.specs.Global.{Vec}
use Rattle.rc_engine.proofs.NameLists.{name_of}
use Rattle.rc_engine.proofs.net_names.NetNames.new.Given as goal

abbrev pub invariant-loop-net : goal.invariant-loop-net
invariant-loop-net l = map (λ (k : Vec ℕ). k.items) l.names.keys ≡ map name_of (take l.net-index l.nets)
