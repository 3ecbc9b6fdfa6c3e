-- One entry more.
use Rattle.rc_engine.proofs.OwnWindows.{none_yet, owned_more, owned_whole}
use Rattle.rc_engine.proofs.gather.gather_from.Goals as goal

pub loop-entry-init : goal.loop-entry-init
loop-entry-init c = none_yet c.args.net c.args.list.now c.args.entries.now

pub loop-entry-preserved : goal.loop-entry-preserved
loop-entry-preserved c =
    owned_more c.args.net c.args.entries.now c.loop-entry.entry-index _ c.args.list.now c.loop-entry.list c.push_any.new.list c.own.result c.loop-entry-test.true c.loop-entry.invariant c.own.ensures c.in_ok-push_any.ensures

pub returns : goal.returns
returns c = owned_whole c.args.net c.args.entries.now c.loop-entry.entry-index c.args.list.now c.loop-entry.list c.loop-entry-test.false c.loop-entry.invariant
