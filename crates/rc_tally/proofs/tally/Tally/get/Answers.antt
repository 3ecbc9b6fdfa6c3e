use Rattle.std.proofs.Common.{List, sym, ap, ◌∙◌, subst}
use Rattle.rc_tally.specs.declared.entry.Entry.{Entry}
use Rattle.rc_tally.specs.Tallies.{entry_at}
use Rattle.rc_tally.specs.Places.{IsAt, IsGapFor}
use Rattle.rc_tally.proofs.Places.{entry_at_place, entry_in_gap}
use Rattle.rc_tally.proofs.tally.Tally.get.Goals as goal

pub returns-in-Ok : goal.returns-in-Ok
returns-in-Ok g c =
    let items = c.self.inside.entries.items in
    let at : IsAt items c.args.key c.in-Ok.at = subst (λ (es : List (Entry g.row.V.Denot)). IsAt es c.args.key c.in-Ok.at) c.deref.ensures.value c.in-Ok.ensures in
    sym (ap (λ (es : List (Entry g.row.V.Denot)). entry_at es c.args.key) (sym c.self.view_is)
    ∙ entry_at_place items c.args.key c.in-Ok.at c.index.result.now c.self.invariant at (sym c.index.ensures))

pub returns-in-Err : goal.returns-in-Err
returns-in-Err g c =
    let items = c.self.inside.entries.items in
    let gap : IsGapFor items c.args.key c.in-Err.field-0 = subst (λ (es : List (Entry g.row.V.Denot)). IsGapFor es c.args.key c.in-Err.field-0) c.deref.ensures.value c.in-Err.ensures in
    sym (ap (λ (es : List (Entry g.row.V.Denot)). entry_at es c.args.key) (sym c.self.view_is)
    ∙ entry_in_gap items c.args.key c.in-Err.field-0 gap)
