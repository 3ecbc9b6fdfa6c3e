use Rattle.std.proofs.Common.{◌∙◌, ap, sym}
use Rattle.std.specs.Prelude.{Ok}
use Rattle.rc_keys.specs.Course.{Read, Refuses, Unfinished}
use Rattle.rc_keys.specs.declared.code.Code.TheVariants.{E16}
use Rattle.rc_keys.specs.declared.fault.Refusal.TheVariants.{At}
use Rattle.rc_def.proofs.Designs.{form_of_design}
use Rattle.rc_def.proofs.Outcomes.{comes_to}
use Rattle.rc_def.proofs.FilesRead.{accepts_files, read_as, refused_is_none}
use Rattle.rc_def.proofs.reader.read.Goals as goal

pub returns-in-Read-clause-outcome : goal.returns-in-Read-clause-outcome
returns-in-Read-clause-outcome c = comes_to c.args.text.now c.new-state.result (Read c.read.new.grammar) c.new-state.ensures (rw c.in-Read.is at c.in-Ok.ensures) ∙ ap (λ design. Ok design) (sym c.finish.ensures.design)

pub returns-in-Refuses-clause-outcome : goal.returns-in-Refuses-clause-outcome
returns-in-Refuses-clause-outcome c = comes_to c.args.text.now c.new-state.result (Refuses c.in-Refuses.refusal) c.new-state.ensures (rw c.in-Refuses.is at c.in-Ok.ensures)

pub returns-in-Unfinished-clause-outcome : goal.returns-in-Unfinished-clause-outcome
returns-in-Unfinished-clause-outcome c = comes_to c.args.text.now c.new-state.result (Unfinished c.in-Unfinished.begun c.in-Unfinished.last) c.new-state.ensures (rw c.in-Unfinished.is at c.in-Ok.ensures)

pub returns-in-Read-clause-file : goal.returns-in-Read-clause-file
returns-in-Read-clause-file c = (accepts_files c.args.text.now c.finish.result).0 (returns-in-Read-clause-outcome c)

pub returns-in-Read-clause-every_file : goal.returns-in-Read-clause-every_file
returns-in-Read-clause-every_file c design file = read_as c.args.text.now c.finish.result design (returns-in-Read-clause-outcome c) file

pub returns-in-Refuses-clause-every_file : goal.returns-in-Refuses-clause-every_file
returns-in-Refuses-clause-every_file c design file = absurd (refused_is_none c.args.text.now design c.in-Refuses.refusal (returns-in-Refuses-clause-outcome c) file)

pub returns-in-Unfinished-clause-every_file : goal.returns-in-Unfinished-clause-every_file
returns-in-Unfinished-clause-every_file c design file = absurd (refused_is_none c.args.text.now design (At E16 c.in-Unfinished.last) (returns-in-Unfinished-clause-outcome c) file)

pub returns-in-Read-clause-form : goal.returns-in-Read-clause-form
returns-in-Read-clause-form c = form_of_design c.args.text.now c.finish.result c.requires (returns-in-Read-clause-file c) c.finish.ensures.sound
