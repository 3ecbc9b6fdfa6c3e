use Rattle.std.proofs.Common.{◌∙◌, sym}
use Rattle.rc_cli.proofs.Finding.{none_so_far, none_further, number_found, number_missing}
use Rattle.rc_cli.proofs.command.number_up_to.Goals as goal

-- src/command.rt:81:5
pub loop-below-init : goal.loop-below-init
loop-below-init c = none_so_far c.args.word.now

-- src/command.rt:83:13
pub returns-then-eq-clause-is : goal.returns-then-eq-clause-is
returns-then-eq-clause-is c =
    number_found c.args.word.now c.format.result.now c.args.most c.loop-below.below c.loop-below-test.true c.loop-below.invariant c.format.ensures.text (sym c.eq.ensures ∙ c.if-eq.true)

-- src/command.rt:81:5
pub loop-below-preserved : goal.loop-below-preserved
loop-below-preserved c = none_further c.args.word.now c.format.result.now c.loop-below.below c.loop-below.invariant c.format.ensures.text (sym c.eq.ensures ∙ c.if-eq.false)

-- src/command.rt:75:1
pub returns-clause-is : goal.returns-clause-is
returns-clause-is c = number_missing c.args.word.now c.args.most c.loop-below.below c.loop-below-test.false c.loop-below.invariant
