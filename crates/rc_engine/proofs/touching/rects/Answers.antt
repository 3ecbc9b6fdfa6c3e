-- One rectangle more.
use Rattle.std.proofs.Common.{◌∙◌, ap, map, refl}
use Rattle.std.proofs.lemmas.List.{take_all}
use Rattle.rc_layout.specs.declared.item.Item.{Item}
use Rattle.rc_engine.proofs.Measures.{mapped_more}
use Rattle.rc_engine.proofs.touching.rects.Goals as goal

pub loop-item-init : goal.loop-item-init
loop-item-init c = c.in_ok-rects.ensures.items

pub loop-item-preserved : goal.loop-item-preserved
loop-item-preserved c =
    mapped_more (λ (item : Item). item.rect) c.args.items.now c.loop-item.item-index _ c.loop-item.rects.items c.push.new.self.items _ c.loop-item-test.true c.loop-item.invariant refl c.in_ok-push.ensures.items

pub returns : goal.returns
returns c = c.loop-item.invariant ∙ ap (map (λ (item : Item). item.rect)) (take_all c.loop-item.item-index c.args.items.now c.loop-item-test.false)
