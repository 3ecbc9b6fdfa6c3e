-- One window more.
use Rattle.rc_engine.proofs.WindowLists.{window_more}
use Rattle.rc_engine.proofs.sweeping.windows.Goals as goal

pub loop-k-preserved : goal.loop-k-preserved
loop-k-preserved c = window_more c.args.grid.now c.loop-k.k c.loop-k.windows c.push.new.self c.window.result c.loop-k.invariant c.window.ensures.rect c.window.ensures.halo c.in_ok-push.ensures.ok
