-- The work, from the files to the reply.
use Rattle.std.proofs.Common.{refl}
use Rattle.rc_cli.specs.Answers.{shelf}
use Rattle.rc_cli.proofs.Replies.{outcome-stops-first, outcome-stops-between, outcome-tells, outcome-stops}
use Rattle.rc_cli.proofs.Openings.{opening-passes, value-passes}
use Rattle.rc_cli.proofs.work.work.Goals as goal

pub returns-in-Err-clause-stopped : goal.returns-in-Err-clause-stopped
returns-in-Err-clause-stopped g c =
    let files = g.F.Files in
    outcome-stops-first (shelf (files.tells c.args.files.now) (files.text c.args.files.now) (files.faults c.args.files.now)) (shelf (files.tells c.place.new.files) (files.text c.place.new.files) (files.faults c.place.new.files)) c.args.asked.now c.in-Err.why c.requires.value c.in-Err.ensures.stopped

pub returns-in-Err-extracted-clause-stopped : goal.returns-in-Err-extracted-clause-stopped
returns-in-Err-extracted-clause-stopped g c =
    let files = g.F.Files in
    outcome-stops-between (shelf (files.tells c.args.files.now) (files.text c.args.files.now) (files.faults c.args.files.now)) (shelf (files.tells c.place.new.files) (files.text c.place.new.files) (files.faults c.place.new.files)) c.args.asked.now c.def.result.now c.in-Ok.placed c.in-Err-extracted.why
    c.requires.value c.def.ensures c.in-Ok.ensures.keeps c.in-Ok.ensures.done c.in-Err-extracted.ensures.refused

pub returns-clause-done : goal.returns-clause-done
returns-clause-done g c =
    let files = g.F.Files in
    outcome-tells c.answer-answered.result (shelf (files.tells c.args.files.now) (files.text c.args.files.now) (files.faults c.args.files.now)) (shelf (files.tells c.place.new.files) (files.text c.place.new.files) (files.faults c.place.new.files)) c.args.asked.now c.def.result.now c.in-Ok.placed c.in-Ok.placed.room c.in-Ok-extracted.spef
    c.requires.value c.def.ensures refl c.in-Ok.ensures.keeps c.in-Ok.ensures.done c.in-Ok-extracted.ensures.done c.answer-answered.ensures.done

pub returns-clause-stopped : goal.returns-clause-stopped
returns-clause-stopped g c =
    let files = g.F.Files in
    outcome-stops c.answer-answered.result (shelf (files.tells c.args.files.now) (files.text c.args.files.now) (files.faults c.args.files.now)) (shelf (files.tells c.place.new.files) (files.text c.place.new.files) (files.faults c.place.new.files)) (shelf (files.tells c.answer-answered.new.files) (files.text c.answer-answered.new.files) (files.faults c.answer-answered.new.files)) c.args.asked.now c.def.result.now c.in-Ok.placed c.in-Ok.placed.room c.in-Ok-extracted.spef
    c.requires.value c.def.ensures refl c.in-Ok.ensures.keeps c.in-Ok.ensures.done c.in-Ok-extracted.ensures.done c.answer-answered.ensures.stopped

pub returns-in-Err-extracted-clause-spent : goal.returns-in-Err-extracted-clause-spent
returns-in-Err-extracted-clause-spent g c =
    let files = g.F.Files in
    opening-passes (shelf (files.tells c.args.files.now) (files.text c.args.files.now) (files.faults c.args.files.now)) c.args.asked.now c.in-Ok.placed (g.M.Meter.drawn c.args.meter.now) (g.M.Meter.drawn c.extracted.new.meter) c.in-Ok.ensures.done c.in-Err-extracted.ensures.spent

pub returns-clause-passes : goal.returns-clause-passes
returns-clause-passes g c =
    let files = g.F.Files in
    value-passes c.answer-answered.result (shelf (files.tells c.args.files.now) (files.text c.args.files.now) (files.faults c.args.files.now)) c.args.asked.now c.in-Ok.placed (g.M.Meter.drawn c.args.meter.now) (g.M.Meter.drawn c.extracted.new.meter) c.requires.value c.in-Ok.ensures.done c.in-Ok-extracted.ensures.ok

pub returns-clause-spent : goal.returns-clause-spent
returns-clause-spent g c =
    let files = g.F.Files in
    opening-passes (shelf (files.tells c.args.files.now) (files.text c.args.files.now) (files.faults c.args.files.now)) c.args.asked.now c.in-Ok.placed (g.M.Meter.drawn c.args.meter.now) (g.M.Meter.drawn c.extracted.new.meter) c.in-Ok.ensures.done c.in-Ok-extracted.ensures.spent
