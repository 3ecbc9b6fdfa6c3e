-- One window more.
use Rattle.std.proofs.Common.{◌∙◌, [], ap, get_or}
use Rattle.std.specs.List.{flat_map}
use Rattle.std.proofs.lemmas.List.{take_all}
use Rattle.rc_engine.specs.Nearby.{shapes_beside}
use Rattle.rc_engine.proofs.NearShapes.{windows_more}
use Rattle.rc_engine.proofs.nearby.shapes_near.Goals as goal

pub loop-k-init : goal.loop-k-init
loop-k-init c = c.new-shapes.ensures

pub loop-k-preserved : goal.loop-k-preserved
loop-k-preserved c =
    windows_more c.args.layout.now c.args.number c.args.lists.now c.args.windows.now c.loop-k.k-index 0 c.index-lists-k.result c.items.result.now c.loop-k.shapes c.add_shapes.new.shapes c.loop-k-test.true (c.requires c.loop-k.k-index 0 c.loop-k-test.true)
    c.index-lists-k.is c.items.ensures c.loop-k.invariant c.in_ok-add_shapes.ensures

pub returns : goal.returns
returns c = c.loop-k.invariant ∙ ap (flat_map (λ k. shapes_beside c.args.layout.now c.args.number (get_or c.args.lists.now k []))) (take_all c.loop-k.k-index c.args.windows.now c.loop-k-test.false)
