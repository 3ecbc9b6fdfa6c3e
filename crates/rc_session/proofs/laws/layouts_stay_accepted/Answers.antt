use Rattle.rc_session.proofs.Kept.{layouts_stay_accepted}
use Rattle.rc_session.proofs.laws.layouts_stay_accepted.Goals as goal

pub returns : goal.returns
returns c = layouts_stay_accepted
