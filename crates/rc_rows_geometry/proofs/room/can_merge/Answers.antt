use Rattle.std.proofs.Common.{◌∙◌, ℕ, List, subst}
use Rattle.std.specs.Prelude.{All, IfSome}
use Rattle.std.proofs.lemmas.List.{take_all}
use Rattle.rc_tally.specs.declared.entry.Entry.{Entry}
use Rattle.rc_tally.specs.Tallies.{entry_at}
use Rattle.rc_rows_geometry.specs.Room.{Fits}
use Rattle.rc_rows_geometry.proofs.Rooms.{merges_fit}
use Rattle.rc_rows_geometry.proofs.room.can_merge.Goals as goal

pub returns : goal.returns
returns c _ =
    let b = c.args.b.now in
    let whole = take_all c.loop-entry.entry-index c.entries-entry-items.result.now c.loop-entry-test.false ∙ c.entries-entry-items.ensures.are in
    merges_fit c.args.a.now b (subst (λ (xs : List (Entry ℕ)). All (λ d. IfSome (entry_at b d.key) (Fits d.count d.value)) xs) whole c.loop-entry.invariant)
