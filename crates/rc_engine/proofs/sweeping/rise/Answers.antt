-- One tally more.
use Rattle.std.proofs.Common.{subst}
use Rattle.std.specs.Prelude.{All}
use Rattle.std.proofs.lemmas.List.{take_all}
use Rattle.rc_tally.specs.Tallies.{IsRising}
use Rattle.rc_engine.proofs.Loops.{all_more}
use Rattle.rc_engine.proofs.sweeping.rise.Goals as goal

pub loop-tally-preserved : goal.loop-tally-preserved
loop-tally-preserved c = all_more IsRising c.args.tallies.now c.loop-tally.tally-index c.tally-item.result c.loop-tally-test.true c.loop-tally.invariant (subst IsRising c.tally-item.is c.entries-entries.ensures.rising)

pub returns : goal.returns
returns c = subst (All IsRising) (take_all c.loop-tally.tally-index c.args.tallies.now c.loop-tally-test.false) c.loop-tally.invariant
