use Rattle.std.proofs.Common.{◌∙◌}
use Rattle.rc_keys.proofs.Naming.{found}
use Rattle.rc_keys.proofs.table.Table.place.Goals as goal

pub returns-clause-place : goal.returns-clause-place
returns-clause-place g c = c.get_index_of.ensures.index ∙ found g.T.Named.called c.self.inside.names.keys c.self.inside.items c.args.self.now c.args.name.now c.self.invariant.0 c.self.view_is
