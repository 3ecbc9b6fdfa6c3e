use Rattle.std.proofs.Common.{◌≡◌, true, List, ap, ◌∙◌}
use Rattle.std.proofs.lemmas.List.{take_all}
use Rattle.std.proofs.lemmas.List.Sorted.{All-permutation}
use Rattle.rc_tally.specs.declared.entry.Entry.{Entry}
use Rattle.rc_tally.specs.Tallies.{entry_at, gathered}
use Rattle.rc_tally.proofs.Gathering.{fits_beside, count_beside, value_beside}
use Rattle.rc_tally.proofs.Shuffles.{gathered_moved, all_fit_moved}
use Rattle.rc_tally.proofs.tally.Tally.gather.Goals as goal

pub add-requires-clause-count : goal.add-requires-clause-count
add-requires-clause-count g c =
    let V = g.V.Amount in
    let es = c.args.entries.now in
    let sorted = c.sort_unstable_by_key.new.self in
    let moved = c.sort_unstable_by_key.ensures.permutation in
    let of_sorted = All-permutation (λ (e : Entry g.row.V.Denot). V.sound e.value ≡ true) es sorted moved c.requires.sound in
    count_beside V.adding V.fits (entry_at c.loop-entry.tally c.entry-item.result.key) c.entry-item.result
    (fits_beside V.adding V.fits V.sound g.met.V.Amount.laws sorted c.loop-entry.tally c.loop-entry.entry-index c.entry-item.result of_sorted (all_fit_moved V.adding V.fits V.sound g.met.V.Amount.laws es sorted c.requires.sound moved c.requires.fits) c.loop-entry-test.true c.entry-item.is c.loop-entry.invariant)

pub add-requires-clause-value : goal.add-requires-clause-value
add-requires-clause-value g c =
    let V = g.V.Amount in
    let es = c.args.entries.now in
    let sorted = c.sort_unstable_by_key.new.self in
    let moved = c.sort_unstable_by_key.ensures.permutation in
    let of_sorted = All-permutation (λ (e : Entry g.row.V.Denot). V.sound e.value ≡ true) es sorted moved c.requires.sound in
    value_beside V.adding V.fits (entry_at c.loop-entry.tally c.entry-item.result.key) c.entry-item.result
    (fits_beside V.adding V.fits V.sound g.met.V.Amount.laws sorted c.loop-entry.tally c.loop-entry.entry-index c.entry-item.result of_sorted (all_fit_moved V.adding V.fits V.sound g.met.V.Amount.laws es sorted c.requires.sound moved c.requires.fits) c.loop-entry-test.true c.entry-item.is c.loop-entry.invariant)

pub returns-clause-sums : goal.returns-clause-sums
returns-clause-sums g c q =
    let V = g.V.Amount in
    let es = c.args.entries.now in
    let sorted = c.sort_unstable_by_key.new.self in
    c.loop-entry.invariant q
    ∙ (ap (λ (xs : List (Entry g.row.V.Denot)). gathered V.adding xs q) (take_all c.loop-entry.entry-index sorted c.loop-entry-test.false)
    ∙ gathered_moved V.adding V.fits V.sound g.met.V.Amount.laws es sorted c.requires.sound c.sort_unstable_by_key.ensures.permutation q)
