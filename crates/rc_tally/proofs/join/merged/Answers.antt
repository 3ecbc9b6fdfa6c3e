use Rattle.std.proofs.Common.{◌+◌, List, sym, subst}
use Rattle.rc_tally.specs.declared.entry.Entry.{Entry}
use Rattle.rc_tally.proofs.Merges.{AreMerged, merged_more, fits_next}
use Rattle.rc_tally.proofs.join.merged.Goals as goal

pub next_of-next-requires-clause-counts : goal.next_of-next-requires-clause-counts
next_of-next-requires-clause-counts g c d within_a within_b same =
    (fits_next g.V.Amount.adding g.V.Amount.fits c.args.a.now c.args.b.now c.loop-i.i c.loop-i.j d c.requires.first c.requires.second c.requires.fits within_a within_b same).0

pub next_of-next-requires-clause-values : goal.next_of-next-requires-clause-values
next_of-next-requires-clause-values g c d within_a within_b same =
    (fits_next g.V.Amount.adding g.V.Amount.fits c.args.a.now c.args.b.now c.loop-i.i c.loop-i.j d c.requires.first c.requires.second c.requires.fits within_a within_b same).1

pub loop-i-preserved : goal.loop-i-preserved
loop-i-preserved g c =
    let adding = g.V.Amount.adding in
    subst (λ (es : List (Entry g.row.V.Denot)). AreMerged adding c.args.a.now c.args.b.now (c.loop-i.i + c.next_of-next.result.first) (c.loop-i.j + c.next_of-next.result.second) es) (sym c.in_ok-push.ensures.items)
    (merged_more adding c.args.a.now c.args.b.now c.loop-i.sums.items c.loop-i.i c.loop-i.j c.next_of-next.result c.requires.first c.requires.second c.next_of-next.ensures c.loop-i.invariant)
