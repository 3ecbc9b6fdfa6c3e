use Rattle.std.proofs.Common.{◌∙◌, ap, sym}
use Rattle.std.specs.Prelude.{Ok}
use Rattle.rc_keys.specs.Course.{Read, Refuses, Unfinished}
use Rattle.rc_spef.specs.declared.value.Spef.{Spef}
use Rattle.rc_keys.specs.declared.code.Code.TheVariants.{E16}
use Rattle.rc_keys.specs.declared.fault.Refusal.TheVariants.{At}
use Rattle.rc_spef.proofs.Accepted.{accepts}
use Rattle.rc_spef.proofs.Outcomes.{comes_to}
use Rattle.rc_spef.proofs.Files.{read_as, refused_says_none}
use Rattle.rc_spef.proofs.RoundTrip.{said}
use Rattle.rc_spef.proofs.reader.read.Goals as goal

pub returns-in-Read-clause-value : goal.returns-in-Read-clause-value
returns-in-Read-clause-value c =
    comes_to c.args.text.now c.new-state.result (Read c.read.new.grammar) c.new-state.ensures (rw c.in-Read.is at c.in_ok-read.ensures)
    ∙ ap (λ (spef : Spef). Ok spef) (sym c.into_spef.ensures)

pub returns-in-Refuses-clause-refused : goal.returns-in-Refuses-clause-refused
returns-in-Refuses-clause-refused c =
    comes_to c.args.text.now c.new-state.result (Refuses c.in-Refuses.refusal) c.new-state.ensures (rw c.in-Refuses.is at c.in_ok-read.ensures)

pub returns-in-Unfinished-clause-refused : goal.returns-in-Unfinished-clause-refused
returns-in-Unfinished-clause-refused c =
    comes_to c.args.text.now c.new-state.result (Unfinished c.in-Unfinished.begun c.in-Unfinished.last) c.new-state.ensures (rw c.in-Unfinished.is at c.in_ok-read.ensures)

pub returns-in-Read-clause-says : goal.returns-in-Read-clause-says
returns-in-Read-clause-says c = (accepts c.args.text.now _).0 (returns-in-Read-clause-value c)

pub returns-in-Read-clause-said : goal.returns-in-Read-clause-said
returns-in-Read-clause-said c spef says = read_as c.args.text.now _ spef (returns-in-Read-clause-value c) says

pub returns-in-Refuses-clause-said : goal.returns-in-Refuses-clause-said
returns-in-Refuses-clause-said c spef says = absurd (refused_says_none c.args.text.now c.in-Refuses.refusal spef (returns-in-Refuses-clause-refused c) says)

pub returns-in-Unfinished-clause-said : goal.returns-in-Unfinished-clause-said
returns-in-Unfinished-clause-said c spef says = absurd (refused_says_none c.args.text.now (At E16 c.in-Unfinished.last) spef (returns-in-Unfinished-clause-refused c) says)

pub returns-in-Read-clause-back : goal.returns-in-Read-clause-back
returns-in-Read-clause-back c spef writable is = returns-in-Read-clause-said c spef (said c.args.text.now spef writable is)

pub returns-in-Refuses-clause-back : goal.returns-in-Refuses-clause-back
returns-in-Refuses-clause-back c spef writable is = returns-in-Refuses-clause-said c spef (said c.args.text.now spef writable is)

pub returns-in-Unfinished-clause-back : goal.returns-in-Unfinished-clause-back
returns-in-Unfinished-clause-back c spef writable is = returns-in-Unfinished-clause-said c spef (said c.args.text.now spef writable is)
