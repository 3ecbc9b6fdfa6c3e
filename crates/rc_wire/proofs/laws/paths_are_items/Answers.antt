use Rattle.rc_wire.proofs.PathsRead.{paths_are_items}
use Rattle.rc_wire.proofs.laws.paths_are_items.Goals as goal

pub returns : goal.returns
returns c = paths_are_items
