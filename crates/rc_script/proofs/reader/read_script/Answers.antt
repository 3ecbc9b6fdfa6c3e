use Rattle.std.proofs.Common.{◌∙◌, ap, sym}
use Rattle.std.specs.Prelude.{Ok, Err}
use Rattle.rc_keys.specs.Course.{Read, Refuses, Unfinished}
use Rattle.rc_keys.specs.declared.code.Code.TheVariants.{E03}
use Rattle.rc_keys.specs.declared.fault.Refusal.TheVariants.{At}
use Rattle.rc_script.proofs.Keeping.{forms_of}
use Rattle.rc_script.proofs.Outcomes.{comes_to}
use Rattle.rc_script.proofs.ScriptsRead.{accepts_scripts, read_as, refused_is_none}
use Rattle.rc_script.proofs.reader.read_script.Goals as goal

pub returns-in-Read-clause-outcome : goal.returns-in-Read-clause-outcome
returns-in-Read-clause-outcome c = comes_to c.args.text.now c.new-state.result (Read c.read.new.grammar) c.new-state.ensures (rw c.in-Read.is at c.in-Ok.ensures) ∙ ap (λ list. Ok list) (sym c.finish.ensures)

pub returns-in-Refuses-clause-outcome : goal.returns-in-Refuses-clause-outcome
returns-in-Refuses-clause-outcome c = comes_to c.args.text.now c.new-state.result (Refuses c.in-Refuses.refusal) c.new-state.ensures (rw c.in-Refuses.is at c.in-Ok.ensures)

pub returns-in-Unfinished-clause-outcome : goal.returns-in-Unfinished-clause-outcome
returns-in-Unfinished-clause-outcome c =
    comes_to c.args.text.now c.new-state.result (Unfinished c.in-Unfinished.begun c.in-Unfinished.last) c.new-state.ensures (rw c.in-Unfinished.is at c.in-Ok.ensures)
    ∙ ap (λ line. Err (At E03 line)) (sym c.line_or.ensures)

pub returns-in-Read-clause-script : goal.returns-in-Read-clause-script
returns-in-Read-clause-script c = (accepts_scripts c.args.text.now c.finish.result).0 (returns-in-Read-clause-outcome c)

pub returns-in-Read-clause-commands : goal.returns-in-Read-clause-commands
returns-in-Read-clause-commands c = (forms_of c.args.text.now c.finish.result c.requires (returns-in-Read-clause-script c)).0

pub returns-in-Read-clause-few : goal.returns-in-Read-clause-few
returns-in-Read-clause-few c = (forms_of c.args.text.now c.finish.result c.requires (returns-in-Read-clause-script c)).1

pub returns-in-Read-clause-every_script : goal.returns-in-Read-clause-every_script
returns-in-Read-clause-every_script c commands script = read_as c.args.text.now c.finish.result commands (returns-in-Read-clause-outcome c) script

pub returns-in-Refuses-clause-every_script : goal.returns-in-Refuses-clause-every_script
returns-in-Refuses-clause-every_script c commands script = absurd (refused_is_none c.args.text.now commands c.in-Refuses.refusal (returns-in-Refuses-clause-outcome c) script)

pub returns-in-Unfinished-clause-every_script : goal.returns-in-Unfinished-clause-every_script
returns-in-Unfinished-clause-every_script c commands script = absurd (refused_is_none c.args.text.now commands (At E03 c.line_or.result) (returns-in-Unfinished-clause-outcome c) script)
