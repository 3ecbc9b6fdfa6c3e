-- The least of the cuts so far.
use Rattle.std.proofs.Common.{◌≡◌, take}
use Rattle.std.specs.Prelude.{fold}
use Rattle.std.specs.List.{flat_map}
use Rattle.rc_engine.specs.Start.{least_step, lacks_cut, place_cuts}
use Rattle.rc_engine.proofs.missing.with_vias.Given as goal

abbrev pub invariant-loop-via : goal.invariant-loop-via
invariant-loop-via l = l.least ≡ fold (least_step (lacks_cut l.rules)) l.initial.least (flat_map (place_cuts l.vias) (take l.via-index l.placed))
