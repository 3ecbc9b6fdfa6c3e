use Rattle.rc_keys.proofs.Naming.{all_differ}
use Rattle.rc_keys.proofs.table.Table.names_differ.Goals as goal

pub returns : goal.returns
returns g c = all_differ g.T.Named.called c.self.inside.items c.args.self.now c.self.invariant.1 c.self.view_is
