use Rattle.rc_geom.proofs.KeyOrders.{keys_have_an_order}
use Rattle.rc_geom.proofs.laws.keys_have_an_order.Goals as goal

pub returns : goal.returns
returns c = keys_have_an_order
