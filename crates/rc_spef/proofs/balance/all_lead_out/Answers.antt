use Rattle.std.proofs.Common.{◌∙◌}
use Rattle.rc_spef.specs.Balance.{couplings}
use Rattle.rc_spef.specs.BalanceTests.{all_lead_out}
use Rattle.rc_spef.proofs.Joining.{lead_out_same}
use Rattle.rc_spef.proofs.balance.all_lead_out.Goals as goal

pub returns : goal.returns
unfolding all_lead_out couplings
returns c = rw c.items.ensures at c.caps_lead_out.ensures ∙ lead_out_same c.args.net.now.name c.args.net.now.caps
