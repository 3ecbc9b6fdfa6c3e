-- An edit, made or refused.
use Rattle.std.proofs.Common.{◌∙◌, ap}
use Rattle.rc_layout.specs.Layouts.{Wired}
use Rattle.rc_engine.specs.Names.{escaped_in}
use Rattle.rc_session.specs.Replies.{replaced_line}
use Rattle.rc_session.proofs.Edits.{found_as, refusal_of_fault, draws_none, accepted_answers, refused_answers, memory_answers}
use Rattle.rc_session.proofs.reply.replace.Goals as goal

pub returns-in-Ok : goal.returns-in-Ok
returns-in-Ok g c =
    let old = c.args.engine.now in
    let found = found_as old.layout c.net.result c.in-Some.number c.bytes.result.now c.args.name.now c.in-Some.is c.net.ensures.is c.bytes.ensures in
    accepted_answers c.in_ok-accepted.accepted old c.replace.new.self c.args.name.now c.args.line c.args.paths.now c.in-Some.number c.in-Ok.field-0
    (g.M.Meter.drawn c.args.meter.now) (g.M.Meter.drawn c.replace.new.meter) found c.in-Ok.ensures.layout c.in-Ok.ensures.accepted c.in-Ok.ensures.rules c.in-Ok.ensures.grid
    c.in-Ok.ensures.touched c.in-Ok.ensures.count c.in-Ok.ensures.engine.frame c.in-Ok.ensures.ok
    (c.in_ok-accepted.ensures ∙ ap (λ (w : Wired). replaced_line (escaped_in w.parts c.args.name.now)) c.layout.ensures)

pub returns-in-Err-Refused : goal.returns-in-Err-Refused
returns-in-Err-Refused g c =
    let old = c.args.engine.now in
    let found = found_as old.layout c.net.result c.in-Some.number c.bytes.result.now c.args.name.now c.in-Some.is c.net.ensures.is c.bytes.ensures in
    refused_answers c.refused-in-Err-Refused.result old c.replace.new.self c.args.name.now c.args.line c.args.paths.now c.in-Some.number
    (g.M.Meter.drawn c.args.meter.now) (g.M.Meter.drawn c.replace.new.meter) c.in-Err-Refused.refusal c.code_of.result found (refusal_of_fault _ c.in-Err-Refused.field-0 c.in-Err-Refused.refusal c.in-Err-Refused.field-0-is c.in-Err-Refused.ensures.fault) (rw c.in-Err-Refused.field-0-is at c.code_of.ensures)
    c.in-Err-Refused.ensures.kept (draws_none _ _ c.in-Err-Refused.field-0 c.in-Err-Refused.refusal c.in-Err-Refused.field-0-is c.in-Err-Refused.ensures.none) c.refused-in-Err-Refused.ensures

pub returns : goal.returns
returns g c =
    let old = c.args.engine.now in
    let found = found_as old.layout c.net.result c.in-Some.number c.bytes.result.now c.args.name.now c.in-Some.is c.net.ensures.is c.bytes.ensures in
    memory_answers _ old c.replace.new.self c.args.name.now c.args.line c.args.paths.now c.in-Some.number
    (g.M.Meter.drawn c.args.meter.now) (g.M.Meter.drawn c.replace.new.meter) found c.in-Err-NoMemory.ensures.kept c.in-Err-NoMemory.ensures.least c.in-Err-NoMemory.ensures.spent
    c.in-Err-NoMemory.ensures.refused_draws_none c.in-Err-NoMemory.ensures.engine.frame
