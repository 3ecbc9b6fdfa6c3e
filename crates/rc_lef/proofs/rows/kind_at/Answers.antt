use Rattle.rc_lef.proofs.Known.{kind_found, kind_unknown}
use Rattle.rc_lef.proofs.rows.kind_at.Goals as goal

pub returns-in-Some : goal.returns-in-Some
returns-in-Some c = kind_found c.args.name.now c.args.layers.now c.args.place c.in-Some.place c.index-layers-place.result c.requires.place c.in-Some.is

pub returns-in-None : goal.returns-in-None
returns-in-None c = kind_unknown c.args.name.now c.args.layers.now c.args.place c.requires.place c.in-None.is
