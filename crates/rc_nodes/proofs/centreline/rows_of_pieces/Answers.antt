use Rattle.std.proofs.Common.{ap, subst, sym, ◌∙◌}
use Rattle.rc_nodes.specs.Crossings.{centrelines_of, merged, HaveSamePlaces, InRows}
use Rattle.rc_nodes.proofs.Merged.{sorted_rows, merged_rows, places_kept}
use Rattle.rc_nodes.proofs.centreline.rows_of_pieces.Goals as goal

pub returns-clause-rows : goal.returns-clause-rows
returns-clause-rows c =
    subst InRows (sym (c.in_ok-merged.ensures ∙ ap merged c.deref.ensures.value)) (merged_rows c.in_ok-sorted.sorted.items (sorted_rows c.in_ok-sorted.sorted.items c.in_ok-sorted.ensures.order))

pub returns-clause-places : goal.returns-clause-places
returns-clause-places c =
    subst (HaveSamePlaces (centrelines_of c.args.level c.args.items.now)) (sym (c.in_ok-merged.ensures ∙ ap merged c.deref.ensures.value))
    (places_kept c.args.level c.args.items.now c.in_ok-sorted.sorted.items c.in_ok-sorted.ensures.moved)
