-- What stands at one position more.
use Rattle.rc_engine.specs.Brought.{owned_at}
use Rattle.rc_engine.proofs.Bringing.{gathered_more}
use Rattle.rc_engine.proofs.gather.gather_at.Goals as goal

pub loop-at-init : goal.loop-at-init
unfolding owned_at
loop-at-init c = c.clear.ensures.items

pub loop-at-preserved : goal.loop-at-preserved
loop-at-preserved c =
    gathered_more c.args.tallies.now c.args.net c.args.positions.now c.loop-at.at-index _ c.loop-at.entries.items c.add_any.new.entries.items c.own_at.result c.loop-at-test.true c.own_at.ensures c.loop-at.invariant c.in_ok-add_any.ensures
