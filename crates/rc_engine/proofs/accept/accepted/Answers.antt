-- What refuses a layout, in order.
use Rattle.std.proofs.Common.{◌∙◌, sym, subst, length, ◌≤◌, ◌^◌}
use Rattle.rc_engine.proofs.Refusals.{missing_refuses, limits_refuse, shorts_refuse, nothing_refuses, clear_is}
use Rattle.rc_engine.proofs.accept.accepted.Goals as goal

pub returns-in-Some-clause-fault : goal.returns-in-Some-clause-fault
returns-in-Some-clause-fault c = missing_refuses c.args.layout.now c.args.rules.now c.in-Some.refusal (sym c.missing_rules.ensures.is ∙ c.in-Some.is)

pub returns-in-Err-clause-fault : goal.returns-in-Err-clause-fault
returns-in-Err-clause-fault c = limits_refuse c.args.layout.now c.args.rules.now c.in-Err.fault (sym c.missing_rules.ensures.is ∙ c.in_default.is) c.in-Err.ensures.fault

pub returns-in-Ok-refuse_short-clause-extractable : goal.returns-in-Ok-refuse_short-clause-extractable
returns-in-Ok-refuse_short-clause-extractable c = record {
  facts = c.facts.ensures;
  rated = c.missing_rules.ensures.rated c.in_default.is;
  few = subst (λ tiles. length tiles ≤ 2 ^ 23) c.in-Ok.ensures.tiles c.in-Ok.ensures.few;
  clear = clear_is c.args.layout.now c.in-Ok-refuse_short.ensures.clear;
}

pub returns-in-Ok-refuse_short-clause-clear : goal.returns-in-Ok-refuse_short-clause-clear
returns-in-Ok-refuse_short-clause-clear c =
    nothing_refuses c.args.layout.now c.args.rules.now (sym c.missing_rules.ensures.is ∙ c.in_default.is) c.in-Ok.ensures.within c.in-Ok-refuse_short.ensures.clear

pub returns-in-Err-refuse_short-clause-fault : goal.returns-in-Err-refuse_short-clause-fault
returns-in-Err-refuse_short-clause-fault c =
    shorts_refuse c.args.layout.now c.args.rules.now c.in-Err-refuse_short.fault (sym c.missing_rules.ensures.is ∙ c.in_default.is) c.in-Ok.ensures.within c.in-Err-refuse_short.ensures.fault
