use Rattle.std.proofs.Common.{◌∙◌, ap, sym}
use Rattle.std.specs.Prelude.{Ok, Result}
use Rattle.rc_keys.specs.declared.code.Code.TheVariants.{E16}
use Rattle.rc_keys.specs.declared.fault.Refusal.{Refusal}
use Rattle.rc_keys.specs.declared.fault.Refusal.TheVariants.{At}
use Rattle.rc_keys.specs.Course.{Read, Refuses, Unfinished}
use Rattle.rc_rules.specs.RuleFile.{RuleFile}
use Rattle.rc_rules.proofs.LayersKept.{files_keep_layers}
use Rattle.rc_rules.proofs.Files.{comes_to, accepts_files, read_as, refused_is_none}
use Rattle.rc_rules.proofs.reader.read_over.Goals as goal

pub returns-in-Read-clause-ok : goal.returns-in-Read-clause-ok
returns-in-Read-clause-ok c =
    comes_to c.args.units c.args.tech.now c.args.text.now c.in_ok-state.state (Read c.read.new.grammar) c.in_ok-state.ensures (rw c.in-Read.is at c.in_ok-read.ensures)
    ∙ ap (λ (rules : RuleFile). let read : Result RuleFile Refusal = Ok rules in read) (sym c.rules_of.ensures)

pub returns-in-Refuses-clause-refused : goal.returns-in-Refuses-clause-refused
returns-in-Refuses-clause-refused c =
    comes_to c.args.units c.args.tech.now c.args.text.now c.in_ok-state.state (Refuses c.in-Refuses.refusal) c.in_ok-state.ensures (rw c.in-Refuses.is at c.in_ok-read.ensures)

pub returns-in-Unfinished-clause-refused : goal.returns-in-Unfinished-clause-refused
returns-in-Unfinished-clause-refused c =
    comes_to c.args.units c.args.tech.now c.args.text.now c.in_ok-state.state (Unfinished c.in-Unfinished.begun c.in-Unfinished.last) c.in_ok-state.ensures (rw c.in-Unfinished.is at c.in_ok-read.ensures)

pub returns-in-Read-clause-file : goal.returns-in-Read-clause-file
returns-in-Read-clause-file c = (accepts_files c.args.units c.args.tech.now c.rules_of.result c.args.text.now).0 (returns-in-Read-clause-ok c)

pub returns-in-Read-clause-every_file : goal.returns-in-Read-clause-every_file
returns-in-Read-clause-every_file c rules file = read_as c.args.units c.args.tech.now c.rules_of.result rules c.args.text.now (returns-in-Read-clause-ok c) file

pub returns-in-Refuses-clause-every_file : goal.returns-in-Refuses-clause-every_file
returns-in-Refuses-clause-every_file c rules file = absurd (refused_is_none c.args.units c.args.tech.now rules c.args.text.now c.in-Refuses.refusal (returns-in-Refuses-clause-refused c) file)

pub returns-in-Unfinished-clause-every_file : goal.returns-in-Unfinished-clause-every_file
returns-in-Unfinished-clause-every_file c rules file = absurd (refused_is_none c.args.units c.args.tech.now rules c.args.text.now (At E16 c.in-Unfinished.last) (returns-in-Unfinished-clause-refused c) file)

pub returns-in-Read-clause-kept : goal.returns-in-Read-clause-kept
returns-in-Read-clause-kept c = files_keep_layers c.args.units c.args.tech.now c.rules_of.result c.args.text.now (returns-in-Read-clause-file c)
