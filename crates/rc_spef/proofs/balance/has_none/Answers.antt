use Rattle.std.proofs.Common.{◌∙◌}
use Rattle.rc_spef.specs.Balance.{couplings}
use Rattle.rc_spef.proofs.Joining.{grounded_same}
use Rattle.rc_spef.proofs.balance.has_none.Goals as goal

pub returns : goal.returns
unfolding couplings
returns c = rw c.items.ensures at c.are_grounded.ensures ∙ grounded_same c.args.net.now.caps
