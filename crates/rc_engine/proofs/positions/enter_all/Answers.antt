-- The position of one entry more is brought.
use Rattle.std.proofs.Common.{◌<◌, length, arith}
use Rattle.rc_engine.proofs.Bringing.{enter_more}
use Rattle.rc_engine.proofs.positions.enter_all.Goals as goal

pub loop-place-preserved : goal.loop-place-preserved
loop-place-preserved c =
    let below = c.loop-place-test.true in
    let count = c.in_ok-count.ensures in
    let there : c.loop-place.place < length c.entries-entries.result.now = omega (arith, below, count) in
    enter_more c.args.tallies.now c.args.lists.now.items c.loop-place.lists.items c.enter.new.lists.items c.args.window c.loop-place.place c.index-tallies-window.result c.entries-entries.result.now _ c.requires.window c.index-tallies-window.is
    c.entries-entries.ensures.are there c.loop-place.invariant c.in_ok-enter.ensures
