-- The cut of one via more.
use Rattle.rc_engine.specs.Start.{least_step, lacks_cut, place_cuts}
use Rattle.rc_engine.proofs.Loops.{flat_folded}
use Rattle.rc_engine.proofs.missing.with_vias.Goals as goal

pub loop-via-preserved : goal.loop-via-preserved
loop-via-preserved c =
    flat_folded (least_step (lacks_cut c.args.rules.now)) (place_cuts c.args.vias.now) c.args.placed.now c.loop-via.via-index _ c.args.first c.loop-via.least c.with_via-least.result c.loop-via-test.true c.loop-via.invariant c.with_via-least.ensures
