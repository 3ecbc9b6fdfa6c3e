use Rattle.rc_spef.proofs.Puts.{puts_then}
use Rattle.rc_spef.proofs.writer.put_short.Goals as goal

pub returns : goal.returns
returns g c = puts_then c.put_number.ensures c.put_fraction.ensures
