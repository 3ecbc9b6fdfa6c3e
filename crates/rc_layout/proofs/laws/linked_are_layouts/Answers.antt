-- Step by step.
use Rattle.rc_layout.proofs.FactsLink.{linked_is}
use Rattle.rc_layout.proofs.laws.linked_are_layouts.Goals as goal

pub returns : goal.returns
returns c = linked_is
