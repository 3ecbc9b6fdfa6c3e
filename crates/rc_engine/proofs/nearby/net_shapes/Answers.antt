-- One shape more.
use Rattle.std.proofs.Common.{◌∙◌, List, [], ap, map}
use Rattle.rc_layout.specs.declared.item.Item.{Item}
use Rattle.rc_shorts.specs.OfLayouts.{metal_of}
use Rattle.rc_shorts.specs.Places.{net_shapes}
use Rattle.rc_shorts.proofs.OfLayouts.{item_more, items_done}
use Rattle.rc_engine.proofs.nearby.net_shapes.Goals as goal

pub loop-place-init : goal.loop-place-init
loop-place-init c = c.in_ok-shapes.ensures.items

pub loop-place-preserved : goal.loop-place-preserved
loop-place-preserved c =
    item_more c.args.number c.items-items.result.now c.loop-place.place _ [] c.loop-place.shapes.items c.push.new.self.items c.loop-place-test.true c.loop-place.invariant c.in_ok-push.ensures.items

pub returns : goal.returns
returns c =
    items_done c.args.number c.items-items.result.now c.loop-place.place [] c.loop-place.shapes.items c.loop-place-test.false c.loop-place.invariant
    ∙ ap (λ (l : List Item). net_shapes c.args.number (map metal_of l)) c.items-items.ensures
