-- One shape more.
use Rattle.std.proofs.Common.{◌∙◌, ◌++◌, ap}
use Rattle.std.proofs.lemmas.List.{take_all}
use Rattle.rc_engine.specs.Nearby.{shapes_beside}
use Rattle.rc_engine.proofs.NearShapes.{no_shape_yet, shape_more}
use Rattle.rc_engine.proofs.nearby.add_shapes.Goals as goal

pub loop-tile-init : goal.loop-tile-init
loop-tile-init c = no_shape_yet c.args.layout.now c.args.number c.args.shapes.now c.args.tiles.now

pub loop-tile-preserved : goal.loop-tile-preserved
loop-tile-preserved c =
    shape_more c.args.layout.now c.args.number c.args.tiles.now c.loop-tile.tile-index _ c.args.shapes.now c.loop-tile.shapes c.push_any.new.list c.shape_beside.result c.loop-tile-test.true c.loop-tile.invariant c.shape_beside.ensures c.in_ok-push_any.ensures

pub returns : goal.returns
returns c = c.loop-tile.invariant ∙ ap (λ ts. c.args.shapes.now ++ shapes_beside c.args.layout.now c.args.number ts) (take_all c.loop-tile.tile-index c.args.tiles.now c.loop-tile-test.false)
