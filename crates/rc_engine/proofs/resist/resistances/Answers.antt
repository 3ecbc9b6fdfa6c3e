-- One resistor more.
use Rattle.rc_engine.specs.Connections.{res_line}
use Rattle.rc_engine.proofs.Steps.{made_more}
use Rattle.rc_engine.proofs.resist.resistances.Goals as goal

pub loop-res-preserved : goal.loop-res-preserved
loop-res-preserved c =
    made_more (res_line c.args.net c.args.lines.now) c.args.resistors.now c.loop-res.res-index _ c.loop-res.list c.push_any.new.list c.in_ok-line.line c.loop-res-test.true c.in_ok-line.ensures c.loop-res.invariant c.in_ok-push_any.ensures
