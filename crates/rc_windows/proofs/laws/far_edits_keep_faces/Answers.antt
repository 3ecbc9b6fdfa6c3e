use Rattle.rc_windows.proofs.Edits.{far_edits_keep_faces}
use Rattle.rc_windows.proofs.laws.far_edits_keep_faces.Goals as goal

pub returns : goal.returns
returns g c = far_edits_keep_faces c.args.grid.now
