use Rattle.rc_engine.proofs.Limits.{entries_fit}
use Rattle.rc_engine.proofs.fits.entries_fit.Goals as goal

pub returns : goal.returns
returns c = entries_fit
