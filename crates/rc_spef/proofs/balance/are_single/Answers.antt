use Rattle.std.proofs.Common.{◌∙◌}
use Rattle.rc_spef.proofs.Joining.{single_counted}
use Rattle.rc_spef.proofs.balance.are_single.Goals as goal

pub returns : goal.returns
returns c = c.are_counted_once.ensures ∙ single_counted c.in_ok-counts.counts c.args.nets.now c.in_ok-counts.ensures
