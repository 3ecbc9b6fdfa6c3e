use Rattle.std.proofs.Common.{◌∙◌}
use Rattle.rc_spef.proofs.Joining.{pair_up_found}
use Rattle.rc_spef.proofs.balance.pair_up.Goals as goal

pub returns-in-Some : goal.returns-in-Some
returns-in-Some c =
    let is = rw c.in-Some.is at c.in_ok-by_ends.ensures in
    c.have_partners.ensures ∙ pair_up_found c.args.entries.now c.in-Some.values.entries is.0 is.1
