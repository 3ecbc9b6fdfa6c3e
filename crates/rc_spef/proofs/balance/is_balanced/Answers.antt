use Rattle.rc_spef.proofs.balance.is_balanced.Goals as goal
use Rattle.rc_spef.proofs.Balancing.{answers_balance}

pub returns : goal.returns
returns c = answers_balance c.items.result.now c.args.spef.now c.are_balanced.result c.items.ensures c.are_balanced.ensures
