use Rattle.rc_keys.proofs.Naming.{cut_keys, cut}
use Rattle.rc_keys.proofs.table.Table.truncate.Goals as goal

pub invariant_of-self : goal.invariant_of-self
invariant_of-self g c = (
  cut_keys g.T.Named.called c.self.inside.names.keys c.truncate-2.new.self.keys c.self.inside.items c.truncate.new.self c.args.len c.self.invariant.0 c.truncate-2.ensures.keys c.truncate.ensures,
  cut g.T.Named.called c.self.inside.items c.truncate.new.self c.args.len c.self.invariant.1 c.truncate.ensures,
)
