use Rattle.rc_cli.specs.Verdict.{named_nets}
use Rattle.rc_cli.proofs.Apart.{AgreeBelow}
use Rattle.rc_cli.proofs.verdict.first_difference.Given as goal

abbrev pub invariant-loop-place : goal.invariant-loop-place
invariant-loop-place l = AgreeBelow (named_nets l.extraction) (named_nets l.file) l.place
