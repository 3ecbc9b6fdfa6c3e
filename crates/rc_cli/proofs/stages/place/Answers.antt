-- The design is linked.
use Rattle.rc_cli.specs.Answers.{shelf}
use Rattle.rc_cli.proofs.Progress.{layout-stops-first, layout-stops-later, layout-done}
use Rattle.rc_cli.proofs.stages.place.Goals as goal

pub returns-in-Err-clause-stopped : goal.returns-in-Err-clause-stopped
returns-in-Err-clause-stopped g c =
    let files = g.F.Files in
    layout-stops-first (shelf (files.tells c.args.files.now) (files.text c.args.files.now) (files.faults c.args.files.now)) (shelf (files.tells c.read_with_rules.new.files) (files.text c.read_with_rules.new.files) (files.faults c.read_with_rules.new.files)) c.args.asked.now c.in-Err.why c.in-Err.ensures.stopped

pub returns-in-Ok-link-clause-done : goal.returns-in-Ok-link-clause-done
returns-in-Ok-link-clause-done g c =
    let files = g.F.Files in
    layout-done (shelf (files.tells c.args.files.now) (files.text c.args.files.now) (files.faults c.args.files.now)) (shelf (files.tells c.read_with_rules.new.files) (files.text c.read_with_rules.new.files) (files.faults c.read_with_rules.new.files)) c.args.asked.now c.in-Ok.ruled c.in-Ok-link.layout c.in-Ok.ensures.keeps c.in-Ok.ensures.done c.in-Ok-link.ensures

pub returns-in-Err-link-clause-stopped : goal.returns-in-Err-link-clause-stopped
returns-in-Err-link-clause-stopped g c =
    let files = g.F.Files in
    layout-stops-later (shelf (files.tells c.args.files.now) (files.text c.args.files.now) (files.faults c.args.files.now)) (shelf (files.tells c.read_with_rules.new.files) (files.text c.read_with_rules.new.files) (files.faults c.read_with_rules.new.files)) c.args.asked.now c.def.result.now c.in-Ok.ruled c.in-Err-link.fault c.refused.result
    c.def.ensures c.in-Ok.ensures.keeps c.in-Ok.ensures.done (rw c.in-Err-link.is at c.link.ensures) c.refused.ensures
