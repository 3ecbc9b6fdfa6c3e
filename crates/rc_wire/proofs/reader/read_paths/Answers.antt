use Rattle.std.proofs.Common.{◌∙◌, ap, sym}
use Rattle.std.specs.Prelude.{Ok, Err}
use Rattle.rc_keys.specs.declared.code.Code.TheVariants.{E16}
use Rattle.rc_keys.specs.declared.fault.Refusal.TheVariants.{At}
use Rattle.rc_keys.specs.Slices.{Stops, Refuses, Short}
use Rattle.rc_wire.specs.Reading.{words_from, end_line}
use Rattle.rc_wire.proofs.FormsRead.{forms_of}
use Rattle.rc_wire.proofs.Outcomes.{comes_to}
use Rattle.rc_wire.proofs.PathsRead.{paths_are_items}
use Rattle.rc_wire.proofs.reader.read_paths.Goals as goal

pub returns-in-Before-clause-outcome : goal.returns-in-Before-clause-outcome
returns-in-Before-clause-outcome c =
    let e = rw c.in-Before.is at c.in_ok-place.ensures in
    let f = comes_to c.args.is_wide c.args.line (end_line c.args.tokens.now) c.new-reader.result (words_from c.args.text.now c.args.tokens.now c.args.at) (Stops c.read_tokens.new.grammar e.0) c.new-reader.ensures e.2 in
    (e.0, e.1, f ∙ ap (λ list. Ok (list, e.0)) (sym c.in_ok-finish-in-Before.ensures))

pub returns-in-Refuses-clause-outcome : goal.returns-in-Refuses-clause-outcome
returns-in-Refuses-clause-outcome c =
    comes_to c.args.is_wide c.args.line (end_line c.args.tokens.now) c.new-reader.result (words_from c.args.text.now c.args.tokens.now c.args.at) (Refuses c.in-Refuses.refusal) c.new-reader.ensures (rw c.in-Refuses.is at c.in_ok-place.ensures)

pub returns-clause-outcome : goal.returns-clause-outcome
returns-clause-outcome c = comes_to c.args.is_wide c.args.line (end_line c.args.tokens.now) c.new-reader.result (words_from c.args.text.now c.args.tokens.now c.args.at) Short c.new-reader.ensures (rw c.in-Short.is at c.in_ok-place.ensures) ∙ ap (λ line. Err (At E16 line)) (sym c.end_line.ensures)

pub returns-in-Before-clause-paths : goal.returns-in-Before-clause-paths
returns-in-Before-clause-paths c =
    let o = returns-in-Before-clause-outcome c in
    (o.0, o.1, (paths_are_items c.args.is_wide c.args.line (end_line c.args.tokens.now) (words_from c.args.text.now c.args.tokens.now c.args.at) c.in_ok-finish-in-Before.field-0 o.0).0 o.2)

pub returns-in-Before-clause-form : goal.returns-in-Before-clause-form
returns-in-Before-clause-form c =
    let o = returns-in-Before-clause-paths c in
    forms_of c.args.is_wide c.args.line (words_from c.args.text.now c.args.tokens.now c.args.at) c.in_ok-finish-in-Before.field-0 o.0 o.2
