-- The rule file is read behind the design.
use Rattle.std.specs.Prelude.{◌≡◌, IsTrue}
use Rattle.rc_lef.specs.declared.units.Units.{Units}
use Rattle.rc_rules.specs.Rows.{rules_outcome}
use Rattle.rc_cli.specs.Outcome.{Done, read_file}
use Rattle.rc_cli.specs.Answers.{shelf}
use Rattle.rc_cli.specs.Work.{IsUnread}
use Rattle.rc_cli.proofs.Progress.{some-units, ruled-stops-first, ruled-stops-between, ruled-stops-later, ruled-done}
use Rattle.rc_cli.proofs.stages.read_with_rules.Goals as goal

pub returns-in-Err-clause-stopped : goal.returns-in-Err-clause-stopped
returns-in-Err-clause-stopped g c =
    let files = g.F.Files in
    ruled-stops-first (shelf (files.tells c.args.files.now) (files.text c.args.files.now) (files.faults c.args.files.now)) (shelf (files.tells c.read_design.new.files) (files.text c.read_design.new.files) (files.faults c.read_design.new.files)) c.args.asked.now c.in-Err.why c.in-Err.ensures.stopped

pub returns-in-Err-require_units-clause-stopped : goal.returns-in-Err-require_units-clause-stopped
returns-in-Err-require_units-clause-stopped g c =
    let files = g.F.Files in
    ruled-stops-between (shelf (files.tells c.args.files.now) (files.text c.args.files.now) (files.faults c.args.files.now)) (shelf (files.tells c.read_design.new.files) (files.text c.read_design.new.files) (files.faults c.read_design.new.files)) c.args.asked.now c.def.result.now c.in-Ok.drawn c.in-Err-require_units.why
    c.def.ensures c.in-Ok.ensures.keeps c.in-Ok.ensures.done c.in-Err-require_units.ensures.refused

pub returns-in-Ok-read_rules-clause-done : goal.returns-in-Ok-read_rules-clause-done
returns-in-Ok-read_rules-clause-done g c =
    let files = g.F.Files in
    let known = c.in-Ok.drawn in
    let read = some-units known.tech.units
    (λ (units : Units). IsTrue (files.tells c.read_design.new.files) → read_file (files.text c.read_design.new.files) c.rules.result.now known.room (rules_outcome units known.tech) ≡ Done (c.in-Ok-read_rules.rules, c.in-Ok-read_rules.room))
    c.in_default.ensures.some c.in-Ok-read_rules.ensures.done in
    ruled-done (shelf (files.tells c.args.files.now) (files.text c.args.files.now) (files.faults c.args.files.now)) (shelf (files.tells c.read_design.new.files) (files.text c.read_design.new.files) (files.faults c.read_design.new.files)) c.args.asked.now c.rules.result.now known read.0 c.in-Ok-read_rules.rules c.in-Ok-read_rules.room
    c.rules.ensures read.1 c.in-Ok.ensures.keeps c.in-Ok.ensures.done read.2

pub returns-in-Err-read_rules-clause-stopped : goal.returns-in-Err-read_rules-clause-stopped
returns-in-Err-read_rules-clause-stopped g c =
    let files = g.F.Files in
    let known = c.in-Ok.drawn in
    let read = some-units known.tech.units
    (λ (units : Units). IsUnread (shelf (files.tells c.read_design.new.files) (files.text c.read_design.new.files) (files.faults c.read_design.new.files)) (shelf (files.tells c.read_rules.new.files) (files.text c.read_rules.new.files) (files.faults c.read_rules.new.files)) c.rules.result.now (read_file (files.text c.read_design.new.files) c.rules.result.now known.room (rules_outcome units known.tech)) c.in-Err-read_rules.why)
    c.in_default.ensures.some c.in-Err-read_rules.ensures.unread in
    ruled-stops-later (shelf (files.tells c.args.files.now) (files.text c.args.files.now) (files.faults c.args.files.now)) (shelf (files.tells c.read_design.new.files) (files.text c.read_design.new.files) (files.faults c.read_design.new.files)) (shelf (files.tells c.read_rules.new.files) (files.text c.read_rules.new.files) (files.faults c.read_rules.new.files)) c.args.asked.now c.rules.result.now known read.0 c.in-Err-read_rules.why
    c.rules.ensures read.1 c.in-Ok.ensures.keeps c.in-Ok.ensures.done read.2
