use Rattle.rc_geom.proofs.Areas.{tiles_hold_metal}
use Rattle.rc_geom.proofs.laws.tiles_hold_metal.Goals as goal

pub returns : goal.returns
returns c = tiles_hold_metal
