use Rattle.rc_windows.proofs.Changes.{changes_keep_indexes}
use Rattle.rc_windows.proofs.laws.changes_keep_indexes.Goals as goal

pub returns : goal.returns
returns c = changes_keep_indexes c.args.grid.now
