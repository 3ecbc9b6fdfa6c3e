use Rattle.std.proofs.Common.{None}
use Rattle.rc_geom.specs.Sums.{total}
use Rattle.rc_tally.specs.Tallies.{sums}
use Rattle.rc_sums.specs.Entering.{Enters}
use Rattle.rc_bars.specs.Adds.{parts_added}
use Rattle.rc_bars.specs.Cells.{state_at}
use Rattle.rc_bars.specs.Columns.{waiting}
use Rattle.rc_bars.proofs.rest.finish_slot.Given as goal

-- the layers so far are entered
abbrev pub invariant-loop-layer : goal.invariant-loop-layer
invariant-loop-layer g l =
    Enters g.R.Value.Amount.adding g.R.Value.Amount.sound l.initial.tally l.tally
    (λ q. total (sums g.R.Value.Amount.adding) l.layer (λ i. parts_added g.R.Value.Amount.adding l.columns (waiting (g.R.Rater.rates_of l.rater) l.rows.low l.rows.high (state_at l.bars l.count l.now l.under l.top l.slot) i None) q))
