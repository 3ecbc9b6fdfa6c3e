-- The SPEF file is read last.
use Rattle.rc_cli.specs.Answers.{shelf}
use Rattle.rc_cli.proofs.Replies.{reply-stops}
use Rattle.rc_cli.proofs.work.answer.Goals as goal

pub returns-in-Err-read_spef-clause-stopped : goal.returns-in-Err-read_spef-clause-stopped
returns-in-Err-read_spef-clause-stopped g c =
    let files = g.F.Files in
    reply-stops (shelf (files.tells c.args.files.now) (files.text c.args.files.now) (files.faults c.args.files.now)) (shelf (files.tells c.read_spef.new.files) (files.text c.read_spef.new.files) (files.faults c.read_spef.new.files)) c.args.asked.now c.in-Some.name.now c.args.room c.args.spef.now c.in-Err-read_spef.why c.in-Some.ensures c.in-Err-read_spef.ensures.unread
