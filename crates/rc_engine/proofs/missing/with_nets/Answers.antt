-- The layers of one net more.
use Rattle.std.proofs.Common.{List, map, ap, subst, ◌∙◌}
use Rattle.std.specs.Prelude.{fold, All}
use Rattle.rc_rules.specs.RuleFile.{HasRules}
use Rattle.rc_layout.specs.declared.item.Item.{Item}
use Rattle.rc_layout.specs.declared.net.Net.{Net}
use Rattle.rc_engine.specs.Windows.{HasRatedItems}
use Rattle.rc_engine.specs.Start.{least_step, lacks_block, net_layers}
use Rattle.rc_engine.proofs.Loops.{flat_folded, all_more}
use Rattle.rc_engine.proofs.missing.with_nets.Goals as goal

pub loop-net-preserved : goal.loop-net-preserved
loop-net-preserved c =
    let nets = c.args.nets.now in
    let i = c.loop-net.net-index in
    let least = c.loop-net.least in
    let rules = c.args.rules.now in
    let within = c.loop-net-test.true in
    let f = least_step (lacks_block rules) in
    record {
      is = flat_folded f net_layers nets i c.net-item.result _ least c.with_items-least.result within c.loop-net.invariant.is
          (c.with_items-least.ensures.is ∙ ap (λ (items : List Item). fold f least (map (λ (item : Item). item.layer) items)) c.items.ensures ∙ ap (λ (n : Net). fold f least (net_layers n)) c.net-item.is);
      before = λ none. c.loop-net.invariant.before (c.with_items-least.ensures.before none);
      rated = λ none. all_more (HasRatedItems rules) nets i c.net-item.result within (c.loop-net.invariant.rated (c.with_items-least.ensures.before none))
          (subst (HasRatedItems rules) c.net-item.is (subst (All (λ (item : Item). HasRules rules item.layer)) c.items.ensures (c.with_items-least.ensures.rated none)));
    }
