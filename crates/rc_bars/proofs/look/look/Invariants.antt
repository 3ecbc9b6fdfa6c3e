use Rattle.std.proofs.Common.{◌≤◌, ◌-◌}
use Rattle.rc_geom.specs.Sums.{total}
use Rattle.rc_tally.specs.Tallies.{sums}
use Rattle.rc_sums.specs.Entering.{Enters}
use Rattle.rc_bars.specs.Cells.{state_at}
use Rattle.rc_bars.specs.Events.Event.{Look}
use Rattle.rc_bars.specs.Sweeps.{slot_part}
use Rattle.rc_bars.proofs.look.look.Given as goal

-- the slots so far are entered
abbrev pub invariant-loop-k : goal.invariant-loop-k
invariant-loop-k g l = record {
  from : l.span.from ≤ l.k;
  to : l.k ≤ l.span.to;
  enters : Enters g.R.Value.Amount.adding g.R.Value.Amount.sound l.initial.tally l.tally
      (λ q. total (sums g.R.Value.Amount.adding) l.k (λ k. slot_part g.R.Value.Amount.adding (g.R.Rater.rates_of l.rater) l.rows.low l.rows.high l.places (state_at l.bars l.count l.now l.under l.top) (Look l.bar) k q));
}

abbrev pub decreases-loop-k : goal.decreases-loop-k
decreases-loop-k g l = l.span.to - l.k
