use Rattle.rc_geom.proofs.Cuts.{cuts_add}
use Rattle.rc_geom.proofs.laws.cuts_add.Goals as goal

pub returns : goal.returns
returns g c = cuts_add
