-- The opening of a session, step by step.
use Rattle.std.proofs.Common.{refl}
use Rattle.rc_cli.specs.Answers.{shelf}
use Rattle.rc_cli.proofs.Openings.{opening-stops-first, opening-stops-between, opening-stops-later, opening-done, session-done, opening-passes, no-passes, session-passes, opened_over}
use Rattle.rc_cli.proofs.opening.open.Goals as goal

pub returns-in-Err-clause-stopped : goal.returns-in-Err-clause-stopped
returns-in-Err-clause-stopped g c =
    let files = g.F.Files in
    opening-stops-first (shelf (files.tells c.args.files.now) (files.text c.args.files.now) (files.faults c.args.files.now)) (shelf (files.tells c.place.new.files) (files.text c.place.new.files) (files.faults c.place.new.files)) c.args.asked.now c.args.script.now c.in-Err.why c.requires.script c.in-Err.ensures.stopped

pub returns-in-Err-started-clause-stopped : goal.returns-in-Err-started-clause-stopped
returns-in-Err-started-clause-stopped g c =
    let files = g.F.Files in
    opening-stops-between (shelf (files.tells c.args.files.now) (files.text c.args.files.now) (files.faults c.args.files.now)) (shelf (files.tells c.place.new.files) (files.text c.place.new.files) (files.faults c.place.new.files)) c.args.asked.now c.args.script.now c.def.result.now c.in-Ok.placed c.in-Err-started.why c.requires.script c.def.ensures c.in-Ok.ensures.keeps c.in-Ok.ensures.done c.in-Err-started.ensures.refused

pub returns-in-Err-started-clause-spent : goal.returns-in-Err-started-clause-spent
returns-in-Err-started-clause-spent g c =
    let files = g.F.Files in
    opening-passes (shelf (files.tells c.args.files.now) (files.text c.args.files.now) (files.faults c.args.files.now)) c.args.asked.now c.in-Ok.placed (g.M.Meter.drawn c.args.meter.now) (g.M.Meter.drawn c.started.new.meter) c.in-Ok.ensures.done c.in-Err-started.ensures.spent

pub returns-in-Ok-read_commands-clause-done : goal.returns-in-Ok-read_commands-clause-done
returns-in-Ok-read_commands-clause-done g c =
    let files = g.F.Files in
    opening-done (shelf (files.tells c.args.files.now) (files.text c.args.files.now) (files.faults c.args.files.now)) (shelf (files.tells c.place.new.files) (files.text c.place.new.files) (files.faults c.place.new.files)) c.args.asked.now c.args.script.now c.def.result.now c.in-Ok.placed c.in-Ok.placed.room _ c.in-Ok-started.engine c.in-Ok-read_commands.commands
    c.def.ensures refl c.in-Ok.ensures.keeps c.in-Ok.ensures.done c.in-Ok-started.ensures.accepted
    (c.in-Ok-started.ensures.layout, c.in-Ok-started.ensures.rules, c.in-Ok-started.ensures.grid, c.in-Ok-started.ensures.touched) c.in-Ok-read_commands.ensures.done

pub returns-in-Ok-read_commands-clause-comes : goal.returns-in-Ok-read_commands-clause-comes
returns-in-Ok-read_commands-clause-comes g c =
    let files = g.F.Files in
    session-done (shelf (files.tells c.args.files.now) (files.text c.args.files.now) (files.faults c.args.files.now)) c.args.asked.now c.args.script.now (opened_over c.in-Ok-started.engine c.in-Ok-read_commands.commands) c.requires.script (returns-in-Ok-read_commands-clause-done g c)

pub returns-in-Ok-read_commands-clause-passes : goal.returns-in-Ok-read_commands-clause-passes
returns-in-Ok-read_commands-clause-passes g c =
    let files = g.F.Files in
    session-passes (shelf (files.tells c.args.files.now) (files.text c.args.files.now) (files.faults c.args.files.now)) c.args.asked.now c.args.script.now c.in-Ok.placed (opened_over c.in-Ok-started.engine c.in-Ok-read_commands.commands) (g.M.Meter.drawn c.args.meter.now) (g.M.Meter.drawn c.started.new.meter)
    c.requires.script c.in-Ok.ensures.done (returns-in-Ok-read_commands-clause-done g c) c.in-Ok-started.ensures.ok

pub returns-in-Ok-read_commands-clause-spent : goal.returns-in-Ok-read_commands-clause-spent
returns-in-Ok-read_commands-clause-spent g c =
    let files = g.F.Files in
    opening-passes (shelf (files.tells c.args.files.now) (files.text c.args.files.now) (files.faults c.args.files.now)) c.args.asked.now c.in-Ok.placed (g.M.Meter.drawn c.args.meter.now) (g.M.Meter.drawn c.started.new.meter) c.in-Ok.ensures.done c.in-Ok-started.ensures.spent

pub returns-in-Err-read_commands-clause-stopped : goal.returns-in-Err-read_commands-clause-stopped
returns-in-Err-read_commands-clause-stopped g c =
    let files = g.F.Files in
    opening-stops-later (shelf (files.tells c.args.files.now) (files.text c.args.files.now) (files.faults c.args.files.now)) (shelf (files.tells c.place.new.files) (files.text c.place.new.files) (files.faults c.place.new.files)) (shelf (files.tells c.read_commands.new.files) (files.text c.read_commands.new.files) (files.faults c.read_commands.new.files)) c.args.asked.now c.args.script.now c.def.result.now c.in-Ok.placed c.in-Ok.placed.room c.in-Err-read_commands.why
    c.requires.script c.def.ensures refl c.in-Ok.ensures.keeps c.in-Ok.ensures.done c.in-Ok-started.ensures.accepted c.in-Err-read_commands.ensures.unread

pub returns-in-Err-read_commands-clause-spent : goal.returns-in-Err-read_commands-clause-spent
returns-in-Err-read_commands-clause-spent g c =
    let files = g.F.Files in
    opening-passes (shelf (files.tells c.args.files.now) (files.text c.args.files.now) (files.faults c.args.files.now)) c.args.asked.now c.in-Ok.placed (g.M.Meter.drawn c.args.meter.now) (g.M.Meter.drawn c.started.new.meter) c.in-Ok.ensures.done c.in-Ok-started.ensures.spent
