use Rattle.std.proofs.Common.{◌<◌, ◌^◌, ℕ, List, ap, ◌∙◌, subst}
use Rattle.std.specs.List.{sum_by}
use Rattle.std.proofs.lemmas.List.{take_all}
use Rattle.rc_tally.specs.declared.entry.Entry.{Entry}
use Rattle.rc_rows_geometry.proofs.Rooms.{gathered_fit}
use Rattle.rc_rows_geometry.proofs.room.can_gather.Goals as goal

pub returns : goal.returns
returns c _ =
    let es = c.args.entries.now in
    let whole = take_all c.loop-entry.entry-index es c.loop-entry-test.false in
    let inv = c.loop-entry.invariant in
    gathered_fit es
    (subst (λ (n : ℕ). n < 2 ^ 64) (inv.counts ∙ ap (λ (xs : List (Entry ℕ)). sum_by (λ e. e.count) xs) whole) inv.few)
    (subst (λ (n : ℕ). n < 2 ^ 128) (inv.values ∙ ap (λ (xs : List (Entry ℕ)). sum_by (λ e. e.value) xs) whole) inv.low)
