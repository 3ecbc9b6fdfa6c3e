use Rattle.std.proofs.Common.{Bool, ap, sym, ◌∙◌}
use Rattle.rc_rows_sweep.specs.RowRates.{row_rates}
use Rattle.rc_rows_sweep.proofs.rates.RowRatesRater.rate.Goals as goal

pub returns-else-self : goal.returns-else-self
returns-else-self c =
    c.by_table.ensures c.args.over ∙ sym (ap (λ (b : Bool). (row_rates b).rate c.args.layer c.args.under c.args.over c.args.thick c.args.gap) c.if-self.false)
