use Rattle.rc_windows.proofs.Limits.{limits_suffice}
use Rattle.rc_windows.proofs.laws.limits_suffice.Goals as goal

pub returns : goal.returns
returns c = limits_suffice c.args.rules.now
