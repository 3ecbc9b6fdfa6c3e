use Rattle.rc_cli.specs.Verdict.{named_nets}
use Rattle.rc_cli.proofs.Apart.{apart_here}
use Rattle.rc_cli.proofs.Differences.{all_agree, differs_at, differs_nowhere, one_has_more}
use Rattle.rc_cli.proofs.verdict.first_difference.Goals as goal

pub returns-then-not-agree-clause-is : goal.returns-then-not-agree-clause-is
returns-then-not-agree-clause-is c =
    let extraction = c.args.extraction.now in
    let file = c.args.file.now in
    let here = apart_here (named_nets extraction) (named_nets file) c.loop-place.place c.agree.result c.loop-place.invariant c.agree.ensures c.if-not-agree.true in
    differs_at extraction file c.loop-place.place here

pub returns-then-ours-theirs-clause-apart : goal.returns-then-ours-theirs-clause-apart
returns-then-ours-theirs-clause-apart c =
    all_agree c.args.extraction.now c.args.file.now c.items-ours.result.now c.items-theirs.result.now c.min-both.result c.loop-place.place
    c.items-ours.ensures c.items-theirs.ensures c.if-ours-theirs.true c.min-both.ensures c.loop-place-test.false c.loop-place.invariant

pub returns-then-ours-theirs-clause-is : goal.returns-then-ours-theirs-clause-is
returns-then-ours-theirs-clause-is c = differs_nowhere c.args.extraction.now c.args.file.now (returns-then-ours-theirs-clause-apart c)

pub returns-else-ours-theirs-clause-apart : goal.returns-else-ours-theirs-clause-apart
returns-else-ours-theirs-clause-apart c =
    one_has_more c.args.extraction.now c.args.file.now c.items-ours.result.now c.items-theirs.result.now c.min-both.result c.loop-place.place
    c.items-ours.ensures c.items-theirs.ensures c.if-ours-theirs.false c.min-both.ensures c.loop-place-test.false c.loop-place.invariant

pub returns-else-ours-theirs-clause-is : goal.returns-else-ours-theirs-clause-is
returns-else-ours-theirs-clause-is c = differs_at c.args.extraction.now c.args.file.now c.min-both.result (returns-else-ours-theirs-clause-apart c)
