-- One item more.
use Rattle.rc_engine.specs.Start.{hull}
use Rattle.rc_engine.proofs.Loops.{map_folded}
use Rattle.rc_engine.proofs.area.hull_of_items.Goals as goal

pub loop-item-preserved : goal.loop-item-preserved
loop-item-preserved c =
    record {
      is = map_folded hull (λ item. item.rect) c.args.items.now c.loop-item.item-index _ c.args.first c.loop-item.bounds c.hull-bounds.result c.loop-item-test.true c.loop-item.invariant.is c.hull-bounds.ensures.is;
      bounds = c.hull-bounds.ensures.bounds;
    }
