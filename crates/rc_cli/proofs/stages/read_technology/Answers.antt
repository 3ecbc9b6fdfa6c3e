-- One more LEF file is read, or it stops the work.
use Rattle.std.proofs.Common.{arith, ap}
use Rattle.std.specs.String.{string_bytes}
use Rattle.rc_cli.specs.Answers.{shelf}
use Rattle.rc_cli.proofs.Courses.{keeps-same, keeps-then}
use Rattle.rc_cli.proofs.Progress.{lef-begins, lef-stops, lef-done}
use Rattle.rc_cli.proofs.stages.read_technology.Goals as goal

pub loop-lef-init : goal.loop-lef-init
loop-lef-init g c =
    let files = g.F.Files in
    record {
      keeps = keeps-same (shelf (files.tells c.args.files.now) (files.text c.args.files.now) (files.faults c.args.files.now));
      done = λ told. lef-begins (files.text c.args.files.now) c.new-reader.result.tech (ap (λ r. r.tech) c.new-reader.ensures);
      within = omega (arith, ap (λ r. r.bytes) c.new-reader.ensures);
    }

pub returns-in-Err-clause-stopped : goal.returns-in-Err-clause-stopped
returns-in-Err-clause-stopped g c =
    let files = g.F.Files in
    let at = c.loop-lef in
    lef-stops (shelf (files.tells c.args.files.now) (files.text c.args.files.now) (files.faults c.args.files.now))
    (shelf (files.tells at.files) (files.text at.files) (files.faults at.files))
    (shelf (files.tells c.read_lef.new.files) (files.text c.read_lef.new.files) (files.faults c.read_lef.new.files))
    string_bytes c.args.lefs.now at.lef-index c.lef-item.result c.as_str.result.now at.reader.tech at.room c.in-Err.why
    c.loop-lef-test.true c.lef-item.is c.as_str.ensures.value at.invariant.keeps at.invariant.done c.in-Err.ensures.unread

pub loop-lef-preserved : goal.loop-lef-preserved
loop-lef-preserved g c =
    let files = g.F.Files in
    let at = c.loop-lef in
    record {
      keeps = keeps-then (shelf (files.tells c.args.files.now) (files.text c.args.files.now) (files.faults c.args.files.now))
          (shelf (files.tells at.files) (files.text at.files) (files.faults at.files))
          (shelf (files.tells c.read_lef.new.files) (files.text c.read_lef.new.files) (files.faults c.read_lef.new.files))
          at.invariant.keeps c.in-Ok.ensures.keeps;
      done = lef-done (shelf (files.tells c.args.files.now) (files.text c.args.files.now) (files.faults c.args.files.now))
          (shelf (files.tells at.files) (files.text at.files) (files.faults at.files))
          string_bytes c.args.lefs.now at.lef-index c.lef-item.result c.as_str.result.now at.reader.tech c.read_lef.new.reader.tech at.room c.in-Ok.left
          c.loop-lef-test.true c.lef-item.is c.as_str.ensures.value at.invariant.keeps at.invariant.done c.in-Ok.ensures.done;
      within = c.in-Ok.ensures.left;
    }
