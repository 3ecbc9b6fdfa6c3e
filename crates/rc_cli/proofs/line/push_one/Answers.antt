use Rattle.rc_cli.proofs.Spacing.{one_word}
use Rattle.rc_cli.proofs.line.push_one.Goals as goal

pub returns : goal.returns
returns c = one_word c.args.line.now.items c.push_word.new.line.items c.args.word.now c.in_ok-push_word.ensures
