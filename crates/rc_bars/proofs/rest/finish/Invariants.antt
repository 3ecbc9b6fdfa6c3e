use Rattle.rc_geom.specs.Sums.{total}
use Rattle.rc_tally.specs.Tallies.{sums}
use Rattle.rc_sums.specs.Entering.{Enters}
use Rattle.rc_bars.specs.Adds.{parts_added}
use Rattle.rc_bars.specs.Cells.{state_at}
use Rattle.rc_bars.specs.Columns.{left}
use Rattle.rc_bars.specs.Slots.{slot_width}
use Rattle.rc_bars.proofs.rest.finish.Given as goal

-- the slots so far are entered
abbrev pub invariant-loop-slot : goal.invariant-loop-slot
invariant-loop-slot g l =
    Enters g.R.Value.Amount.adding g.R.Value.Amount.sound l.initial.tally l.tally
    (λ q. total (sums g.R.Value.Amount.adding) l.slot (λ k. parts_added g.R.Value.Amount.adding (slot_width l.places k) (left (g.R.Rater.rates_of l.rater) l.rows.low l.rows.high (state_at l.bars l.count l.now l.under l.top k)) q))
