use Rattle.std.proofs.Common.{sym, subst}
use Rattle.rc_geom.specs.Line.{Line}
use Rattle.rc_column.specs.Runs.{AreRuns}
use Rattle.rc_sums.proofs.Counted.{bare_or}
use Rattle.rc_sums.proofs.enter.is_bare.Goals as goal

pub returns : goal.returns
returns c = λ line is. bare_or line c.runs.result.now c.is_empty.result (subst (λ (l : Line). AreRuns l c.runs.result.now) (sym is) c.runs.ensures.runs) c.is_empty.ensures
