-- The least of the layers so far.
use Rattle.std.proofs.Common.{◌≡◌, take, map}
use Rattle.std.specs.Prelude.{None, All, fold}
use Rattle.rc_rules.specs.RuleFile.{HasRules}
use Rattle.rc_engine.specs.Start.{least_step, lacks_block}
use Rattle.rc_engine.proofs.missing.with_items.Given as goal

abbrev pub invariant-loop-item : goal.invariant-loop-item
invariant-loop-item l = record {
  is : l.least ≡ fold (least_step (lacks_block l.rules)) l.initial.least (map (λ item. item.layer) (take l.item-index l.items));
  before : l.least ≡ None → l.initial.least ≡ None;
  rated : l.least ≡ None → All (λ item. HasRules l.rules item.layer) (take l.item-index l.items);
}
