-- The layer of one item more.
use Rattle.rc_rules.specs.RuleFile.{HasRules}
use Rattle.rc_engine.specs.Start.{least_step, lacks_block}
use Rattle.rc_engine.proofs.Loops.{map_folded, all_more}
use Rattle.rc_engine.proofs.missing.with_items.Goals as goal

pub loop-item-preserved : goal.loop-item-preserved
loop-item-preserved c =
    let items = c.args.items.now in
    let i = c.loop-item.item-index in
    let within = c.loop-item-test.true in
    record {
      is = map_folded (least_step (lacks_block c.args.rules.now)) (λ item. item.layer) items i _ c.args.first c.loop-item.least c.with_layer-least.result within c.loop-item.invariant.is c.with_layer-least.ensures.is;
      before = λ none. c.loop-item.invariant.before (c.with_layer-least.ensures.before none);
      rated = λ none. all_more (λ item. HasRules c.args.rules.now item.layer) items i _ within (c.loop-item.invariant.rated (c.with_layer-least.ensures.before none)) (c.with_layer-least.ensures.rated none);
    }
