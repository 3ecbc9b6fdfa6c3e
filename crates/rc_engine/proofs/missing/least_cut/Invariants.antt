-- The least of the cuts of the nets so far.
use Rattle.std.proofs.Common.{◌≡◌, take}
use Rattle.std.specs.List.{flat_map}
use Rattle.rc_engine.specs.Start.{lacks_cut, net_cuts, least_lacking}
use Rattle.rc_engine.proofs.missing.least_cut.Given as goal

abbrev pub invariant-loop-net : goal.invariant-loop-net
invariant-loop-net l = l.least ≡ least_lacking (lacks_cut l.rules) (flat_map (net_cuts l.vias) (take l.net-index l.nets))
