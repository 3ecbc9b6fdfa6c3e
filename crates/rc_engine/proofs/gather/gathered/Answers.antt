-- One window more.
use Rattle.std.proofs.Common.{◌∙◌, [], ap, get_or}
use Rattle.std.specs.List.{flat_map}
use Rattle.std.proofs.lemmas.List.{take_all}
use Rattle.rc_engine.specs.Brought.{owned}
use Rattle.rc_engine.proofs.OwnWindows.{gathered_more}
use Rattle.rc_engine.proofs.gather.gathered.Goals as goal

pub loop-k-init : goal.loop-k-init
loop-k-init c = c.new-list.ensures

pub loop-k-preserved : goal.loop-k-preserved
loop-k-preserved c =
    gathered_more c.args.net c.args.tallies.now c.args.windows.now c.loop-k.k-index 0 c.index-tallies-k.result c.entries.result.now c.loop-k.list c.gather_from.new.list c.loop-k-test.true
    (c.requires c.loop-k.k-index 0 c.loop-k-test.true) c.index-tallies-k.is c.entries.ensures.are c.loop-k.invariant c.in_ok-gather_from.ensures

pub returns : goal.returns
returns c = c.loop-k.invariant ∙ ap (flat_map (λ k. owned c.args.net (get_or c.args.tallies.now k []))) (take_all c.loop-k.k-index c.args.windows.now c.loop-k-test.false)
