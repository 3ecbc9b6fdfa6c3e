-- The first short, or none.
use Rattle.rc_engine.proofs.Refusals.{short_is, no_short}
use Rattle.rc_engine.proofs.accept.refuse_short.Goals as goal

pub returns-in-Some-clause-fault : goal.returns-in-Some-clause-fault
returns-in-Some-clause-fault c = short_is c.args.layout.now c.in_ok-short.field-0 c.in-Some.short c.short_refusal.result c.in_ok-short.ensures.first c.in-Some.is c.short_refusal.ensures

pub returns-in-None-clause-clear : goal.returns-in-None-clause-clear
returns-in-None-clause-clear c = no_short c.args.layout.now c.in_ok-short.field-0 c.in_ok-short.ensures.first c.in-None.is
