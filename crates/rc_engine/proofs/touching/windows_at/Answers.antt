-- One window more.
use Rattle.std.proofs.Common.{◌∙◌, ap, map}
use Rattle.std.proofs.lemmas.List.{take_all}
use Rattle.rc_engine.specs.Windows.{window_of}
use Rattle.rc_engine.proofs.WindowLists.{listed_more}
use Rattle.rc_engine.proofs.touching.windows_at.Goals as goal

pub loop-k-init : goal.loop-k-init
loop-k-init c = c.in_ok-windows.ensures

pub loop-k-preserved : goal.loop-k-preserved
loop-k-preserved c =
    listed_more c.args.grid.now c.args.list.now c.loop-k.k-index _ c.loop-k.windows c.push.new.self c.window.result c.loop-k-test.true c.loop-k.invariant c.window.ensures.rect c.window.ensures.halo c.in_ok-push.ensures.ok

pub returns : goal.returns
returns c = c.loop-k.invariant ∙ ap (map (window_of c.args.grid.now)) (take_all c.loop-k.k-index c.args.list.now c.loop-k-test.false)
