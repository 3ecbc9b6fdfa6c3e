use Rattle.rc_geom.proofs.Owners.{order_is_free}
use Rattle.rc_geom.proofs.laws.order_is_free.Goals as goal

pub returns : goal.returns
returns c = order_is_free
