use Rattle.rc_session.proofs.Running.{replies_follow}
use Rattle.rc_session.proofs.laws.replies_follow.Goals as goal

pub returns : goal.returns
returns c = replies_follow
