use Rattle.std.specs.Fmt.{decimal}
use Rattle.rc_cli.proofs.Spacing.{two_words}
use Rattle.rc_cli.proofs.line.push_place.Goals as goal

pub returns : goal.returns
returns c =
    two_words c.args.line.now.items c.push_word.new.line.items c.push_number.new.line.items c.args.file.now (decimal c.args.number) c.in_ok-push_word.ensures c.in_ok-push_number.ensures
