use Rattle.rc_cli.proofs.Finding.{NoneUpTo}
use Rattle.rc_cli.proofs.command.number_up_to.Given as goal

abbrev pub invariant-loop-below : goal.invariant-loop-below
invariant-loop-below l = NoneUpTo l.below l.word
