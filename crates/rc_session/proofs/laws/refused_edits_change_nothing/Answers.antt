use Rattle.rc_session.proofs.Running.{refused_edits_change_nothing}
use Rattle.rc_session.proofs.laws.refused_edits_change_nothing.Goals as goal

pub returns : goal.returns
returns c = refused_edits_change_nothing
