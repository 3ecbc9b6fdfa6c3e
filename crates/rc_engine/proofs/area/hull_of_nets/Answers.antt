-- One net more.
use Rattle.std.proofs.Common.{List, map, ap, ◌∙◌}
use Rattle.std.specs.Prelude.{fold}
use Rattle.rc_layout.specs.declared.item.Item.{Item}
use Rattle.rc_layout.specs.declared.net.Net.{Net}
use Rattle.rc_engine.specs.Start.{hull, net_rects}
use Rattle.rc_engine.proofs.Loops.{flat_folded}
use Rattle.rc_engine.proofs.area.hull_of_nets.Goals as goal

pub loop-net-preserved : goal.loop-net-preserved
loop-net-preserved c =
    let bounds = c.loop-net.bounds in
    record {
      is = flat_folded hull net_rects c.args.nets.now c.loop-net.net-index c.net-item.result _ bounds c.hull_of_items-bounds.result c.loop-net-test.true c.loop-net.invariant.is
          (c.hull_of_items-bounds.ensures.is ∙ ap (λ (items : List Item). fold hull bounds (map (λ (item : Item). item.rect) items)) c.items.ensures ∙ ap (λ (n : Net). fold hull bounds (net_rects n)) c.net-item.is);
      bounds = c.hull_of_items-bounds.ensures.bounds;
    }
