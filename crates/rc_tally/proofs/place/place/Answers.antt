use Rattle.std.proofs.Common.{rules, subst}
use Rattle.std.specs.declared.cmp.Ordering.{Ordering}
use Rattle.std.specs.List.Sorted.{IsBinarySearchResult}
use Rattle.std.proofs.lemmas.List.Sorted.{answers_always}
use Rattle.rc_geom.specs.declared.key.Key.{Key}
use Rattle.rc_tally.specs.declared.entry.Entry.{Entry}
use Rattle.rc_tally.proofs.Orders.{derived_order}
use Rattle.rc_tally.proofs.Places.{searched}
use Rattle.rc_tally.proofs.place.place.Goals as goal

-- the closure gives an entry's key
pub returns : goal.returns
returns g c =
    let facts = c.binary_search_by_key.ensures in
    let by_key = facts.position (λ entry. entry.key) (answers_always _ _ _ (λ f a r h called. search rules)) in
    let ordered = subst (λ (order : Key → Key → Ordering). IsBinarySearchResult (λ (e : Entry g.row.V.Denot). order e.key c.args.key) c.args.entries.now c.binary_search_by_key.result) derived_order by_key in
    searched c.args.entries.now c.args.key c.binary_search_by_key.result c.requires facts.bound ordered
