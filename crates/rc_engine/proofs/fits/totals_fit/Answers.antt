use Rattle.rc_engine.proofs.Limits.{totals_fit}
use Rattle.rc_engine.proofs.fits.totals_fit.Goals as goal

pub returns : goal.returns
returns c = totals_fit
