use Rattle.std.proofs.Common.{◌≡◌, ◌+◌, ◌<◌, ◌^◌, true, set, Option, Some, refl, sym, ap, ◌∙◌, subst}
use Rattle.std.specs.Prelude.{List, IfSome}
use Rattle.std.specs.Result.{is_ok}
use Rattle.std.specs.List.{insert}
use Rattle.std.proofs.lemmas.Bool.{cond_both}
use Rattle.rc_tally.specs.declared.entry.Entry.{Entry}
use Rattle.rc_tally.specs.Tallies.{Sum, Grows, IsRising, entry_at}
use Rattle.rc_tally.specs.Places.{IsAt, IsGapFor}
use Rattle.rc_tally.proofs.Places.{entry_at_place, grows_at, grows_in_gap, rising_insert, rising_set}
use Rattle.rc_tally.proofs.tally.Tally.add.Goals as goal

pub joined-requires-clause-count : goal.joined-requires-clause-count
joined-requires-clause-count g c =
    let items = c.self.inside.entries.items in
    let at : IsAt items c.args.key c.in-Ok.at = subst (λ (es : List (Entry g.row.V.Denot)). IsAt es c.args.key c.in-Ok.at) c.deref.ensures.value c.in-Ok.ensures in
    let found : entry_at c.args.self.now c.args.key ≡ Some c.index.result.now =
    ap (λ (es : List (Entry g.row.V.Denot)). entry_at es c.args.key) (sym c.self.view_is) ∙ entry_at_place items c.args.key c.in-Ok.at c.index.result.now c.self.invariant at (sym c.index.ensures) in
    subst (λ (o : Option (Entry g.row.V.Denot)). IfSome o (λ e. e.count + c.args.count < 2 ^ 64)) found c.requires.count

pub joined-requires-clause-value : goal.joined-requires-clause-value
joined-requires-clause-value g c =
    let items = c.self.inside.entries.items in
    let at : IsAt items c.args.key c.in-Ok.at = subst (λ (es : List (Entry g.row.V.Denot)). IsAt es c.args.key c.in-Ok.at) c.deref.ensures.value c.in-Ok.ensures in
    let found : entry_at c.args.self.now c.args.key ≡ Some c.index.result.now =
    ap (λ (es : List (Entry g.row.V.Denot)). entry_at es c.args.key) (sym c.self.view_is) ∙ entry_at_place items c.args.key c.in-Ok.at c.index.result.now c.self.invariant at (sym c.index.ensures) in
    subst (λ (o : Option (Entry g.row.V.Denot)). IfSome o (λ e. g.V.Amount.fits (g.V.Amount.adding.plus e.value c.args.value) ≡ true)) found c.requires.value

pub invariant_of-self : goal.invariant_of-self
invariant_of-self g c =
    let items = c.self.inside.entries.items in
    let at : IsAt items c.args.key c.in-Ok.at = subst (λ (es : List (Entry g.row.V.Denot)). IsAt es c.args.key c.in-Ok.at) c.deref.ensures.value c.in-Ok.ensures in
    rising_set items c.args.key c.in-Ok.at c.joined.result c.self.invariant at
    (ap (λ (e : Entry g.row.V.Denot). e.key) (c.joined.ensures) ∙ (ap (λ (e : Entry g.row.V.Denot). e.key) c.index.ensures ∙ at.has_key c.index.result.now))

pub invariant_of-self-in-Err : goal.invariant_of-self-in-Err
invariant_of-self-in-Err g c =
    let items = c.self.inside.entries.items in
    let gap : IsGapFor items c.args.key c.in-Err.at = subst (λ (es : List (Entry g.row.V.Denot)). IsGapFor es c.args.key c.in-Err.at) c.deref.ensures.value c.in-Err.ensures in
    let new : Entry g.row.V.Denot = record { key = c.args.key; count = c.args.count; value = c.args.value } in
    subst IsRising (sym c.insert.ensures.items)
    (cond_both (is_ok c.insert.result) (insert items c.in-Err.at new) items IsRising (λ _. rising_insert items c.args.key c.in-Err.at new c.self.invariant gap refl) (λ _. c.self.invariant))

pub returns-in-Ok-clause-ok : goal.returns-in-Ok-clause-ok
returns-in-Ok-clause-ok g c =
    let items = c.self.inside.entries.items in
    let at : IsAt items c.args.key c.in-Ok.at = subst (λ (es : List (Entry g.row.V.Denot)). IsAt es c.args.key c.in-Ok.at) c.deref.ensures.value c.in-Ok.ensures in
    let more : Sum g.row.V.Denot = record { count = c.args.count; value = c.args.value } in
    subst (λ (es : List (Entry g.row.V.Denot)). Grows g.V.Amount.adding es (set items c.in-Ok.at c.joined.result) c.args.key more) c.self.view_is
    (grows_at g.V.Amount.adding items c.args.key c.in-Ok.at c.index.result.now c.joined.result more c.self.invariant at (sym c.index.ensures) c.joined.ensures)

pub returns-in_ok-insert-in-Err-clause-ok : goal.returns-in_ok-insert-in-Err-clause-ok
returns-in_ok-insert-in-Err-clause-ok g c =
    let items = c.self.inside.entries.items in
    let gap : IsGapFor items c.args.key c.in-Err.at = subst (λ (es : List (Entry g.row.V.Denot)). IsGapFor es c.args.key c.in-Err.at) c.deref.ensures.value c.in-Err.ensures in
    let more : Sum g.row.V.Denot = record { count = c.args.count; value = c.args.value } in
    let new : Entry g.row.V.Denot = record { key = c.args.key; count = c.args.count; value = c.args.value } in
    let grows : Grows g.V.Amount.adding items (insert items c.in-Err.at new) c.args.key more = grows_in_gap g.V.Amount.adding items c.args.key c.in-Err.at new more gap refl in
    subst (λ (es : List (Entry g.row.V.Denot)). Grows g.V.Amount.adding es c.insert.new.self.items c.args.key more) c.self.view_is
    (subst (λ (es : List (Entry g.row.V.Denot)). Grows g.V.Amount.adding items es c.args.key more) (sym c.in_ok-insert-in-Err.ensures.items) grows)
