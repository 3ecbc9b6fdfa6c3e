-- A component links as its cell and its placement do.
use Rattle.rc_layout.proofs.OwnComps.{comp_linked, comp_refused}
use Rattle.rc_layout.proofs.comp.link_comp.Goals as goal

pub returns-in-Ok-link_place : goal.returns-in-Ok-link_place
returns-in-Ok-link_place c =
    comp_linked c.args.process.now.macros c.args.factor c.args.raw c.bytes.result.now (c.in-Ok.found.0, c.in-Ok.found.1.now) c.in-Ok-link_place.at c.bytes.ensures c.in-Ok.ensures.is c.in-Ok-link_place.ensures

pub returns-in-Err-link_place : goal.returns-in-Err-link_place
returns-in-Err-link_place c =
    comp_refused c.args.process.now.macros c.args.factor c.args.raw c.bytes.result.now (c.in-Ok.found.0, c.in-Ok.found.1.now) c.in-Err-link_place.refusal c.bytes.ensures c.in-Ok.ensures.is c.in-Err-link_place.ensures
