-- The DEF file is read behind the LEF files.
use Rattle.rc_cli.specs.Answers.{shelf}
use Rattle.rc_cli.proofs.Progress.{design-stops-first, design-stops-later, design-done}
use Rattle.rc_cli.proofs.stages.read_design.Goals as goal

pub returns-in-Err-clause-stopped : goal.returns-in-Err-clause-stopped
returns-in-Err-clause-stopped g c =
    let files = g.F.Files in
    design-stops-first (shelf (files.tells c.args.files.now) (files.text c.args.files.now) (files.faults c.args.files.now)) (shelf (files.tells c.read_technology.new.files) (files.text c.read_technology.new.files) (files.faults c.read_technology.new.files)) c.args.asked.now _ c.in-Err.why c.lefs.ensures.are c.in-Err.ensures.stopped

pub returns-in-Ok-read_def-clause-done : goal.returns-in-Ok-read_def-clause-done
returns-in-Ok-read_def-clause-done g c =
    let files = g.F.Files in
    design-done (shelf (files.tells c.args.files.now) (files.text c.args.files.now) (files.faults c.args.files.now)) (shelf (files.tells c.read_technology.new.files) (files.text c.read_technology.new.files) (files.faults c.read_technology.new.files)) c.args.asked.now _ c.def.result.now c.in-Ok.read.0 c.in-Ok.read.1 c.in-Ok-read_def.room c.in-Ok-read_def.design
    c.lefs.ensures.are c.def.ensures c.in-Ok.ensures.keeps c.in-Ok.ensures.done c.in-Ok-read_def.ensures.done

pub returns-in-Err-read_def-clause-stopped : goal.returns-in-Err-read_def-clause-stopped
returns-in-Err-read_def-clause-stopped g c =
    let files = g.F.Files in
    design-stops-later (shelf (files.tells c.args.files.now) (files.text c.args.files.now) (files.faults c.args.files.now)) (shelf (files.tells c.read_technology.new.files) (files.text c.read_technology.new.files) (files.faults c.read_technology.new.files)) (shelf (files.tells c.read_def.new.files) (files.text c.read_def.new.files) (files.faults c.read_def.new.files)) c.args.asked.now _ c.def.result.now c.in-Ok.read.0 c.in-Ok.read.1 c.in-Err-read_def.why
    c.lefs.ensures.are c.def.ensures c.in-Ok.ensures.keeps c.in-Ok.ensures.done c.in-Err-read_def.ensures.unread
