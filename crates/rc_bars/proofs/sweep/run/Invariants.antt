use Rattle.std.proofs.Common.{◌≡◌, ◌<◌, ℕ, take}
use Rattle.rc_sums.specs.Entering.{Enters}
use Rattle.rc_bars.specs.Cells.{state_at, AreCells}
use Rattle.rc_bars.specs.Moments.{events_of, events_added}
use Rattle.rc_bars.specs.Sweeps.{states_after}
use Rattle.rc_bars.proofs.sweep.run.Given as goal

-- the events so far are done, and what they add is entered
abbrev pub invariant-loop-i : goal.invariant-loop-i
invariant-loop-i g l = record {
  cells : AreCells l.count l.now l.under l.top;
  state : (k : ℕ) → k < l.count → state_at l.bars l.count l.now l.under l.top k ≡ states_after l.places (take l.i (events_of l.bars l.moments)) k;
  enters : Enters g.R.Value.Amount.adding g.R.Value.Amount.sound l.initial.tally l.tally
      (events_added g.R.Value.Amount.adding (g.R.Rater.rates_of l.rater) l.rows.low l.rows.high l.places (events_of l.bars l.moments) l.i);
}
