use Rattle.std.proofs.Common.{refl, ap}
use Rattle.rc_keys.specs.declared.code.Code.TheVariants.{E16}
use Rattle.rc_keys.specs.declared.fault.Refusal.TheVariants.{At}
use Rattle.rc_keys.specs.Course.{Refuses, Unfinished}
use Rattle.rc_lef.specs.Technology.{Files}
use Rattle.rc_lef.proofs.Sound.{read_file, stays_sound, stays_few}
use Rattle.rc_lef.proofs.Outcomes.{comes_to, accepts_files, read_as, refused_is_none}
use Rattle.rc_lef.proofs.reader.TechReader.file.Goals as goal

pub take_over-requires : goal.take_over-requires
take_over-requires c =
    let few = rw (← (ap (λ (f : Files). f.bytes) c.self.view_is)) at c.requires in
    stays_sound c.self.inside.bytes c.self.inside.tech _ c.args.text.now few c.facts.ensures c.self.invariant.0
    (read_file c.self.inside.tech c.args.text.now c.new-state.result c.read.new.grammar c.new-state.ensures (rw c.in-Read.is at c.in_ok-read.ensures))

pub returns-in_ok-take_over-in-Read-clause-file : goal.returns-in_ok-take_over-in-Read-clause-file
returns-in_ok-take_over-in-Read-clause-file c =
    rw (c.in_ok-take_over-in-Read.ensures.ok, ← (ap (λ (f : Files). f.tech) c.self.view_is))
    (read_file c.self.inside.tech c.args.text.now c.new-state.result c.read.new.grammar c.new-state.ensures (rw c.in-Read.is at c.in_ok-read.ensures))

pub returns-in_ok-take_over-in-Read-clause-ok : goal.returns-in_ok-take_over-in-Read-clause-ok
returns-in_ok-take_over-in-Read-clause-ok c = (accepts_files c.args.self.now.tech _ c.args.text.now).1 (returns-in_ok-take_over-in-Read-clause-file c)

pub returns-in-Refuses-clause-refused : goal.returns-in-Refuses-clause-refused
returns-in-Refuses-clause-refused c =
    comes_to c.self.inside.tech c.args.self.now.tech c.args.text.now c.new-state.result (Refuses c.in-Refuses.refusal) (ap (λ (f : Files). f.tech) c.self.view_is) c.new-state.ensures (rw c.in-Refuses.is at c.in_ok-read.ensures)

pub returns-in-Unfinished-clause-refused : goal.returns-in-Unfinished-clause-refused
returns-in-Unfinished-clause-refused c =
    comes_to c.self.inside.tech c.args.self.now.tech c.args.text.now c.new-state.result (Unfinished c.in-Unfinished.begun c.in-Unfinished.last) (ap (λ (f : Files). f.tech) c.self.view_is) c.new-state.ensures (rw c.in-Unfinished.is at c.in_ok-read.ensures)

pub returns-in_ok-take_over-in-Read-clause-every_file : goal.returns-in_ok-take_over-in-Read-clause-every_file
returns-in_ok-take_over-in-Read-clause-every_file c after file = read_as c.args.self.now.tech _ after c.args.text.now (returns-in_ok-take_over-in-Read-clause-ok c) file

pub returns-in-Refuses-clause-every_file : goal.returns-in-Refuses-clause-every_file
returns-in-Refuses-clause-every_file c after file = absurd (refused_is_none c.args.self.now.tech after c.args.text.now c.in-Refuses.refusal (returns-in-Refuses-clause-refused c) file)

pub returns-in-Unfinished-clause-every_file : goal.returns-in-Unfinished-clause-every_file
returns-in-Unfinished-clause-every_file c after file = absurd (refused_is_none c.args.self.now.tech after c.args.text.now (At E16 c.in-Unfinished.last) (returns-in-Unfinished-clause-refused c) file)

pub invariant_of-self-in-Read : goal.invariant_of-self-in-Read
invariant_of-self-in-Read c =
    let few = rw (← (ap (λ (f : Files). f.bytes) c.self.view_is)) at c.requires in
    stays_few c.self.inside.bytes _ c.self.inside.tech _ _ c.args.text.now c.self.invariant.0
    (read_file c.self.inside.tech c.args.text.now c.new-state.result c.read.new.grammar c.new-state.ensures (rw c.in-Read.is at c.in_ok-read.ensures)) c.in_ok-take_over-in-Read.ensures.ok refl few
