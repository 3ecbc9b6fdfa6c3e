use Rattle.std.proofs.Common.{ap, ◌∙◌}
use Rattle.std.specs.Prelude.{flat_map}
use Rattle.std.proofs.lemmas.List.{take_all}
use Rattle.rc_spef.specs.Balance.{couplings}
use Rattle.rc_spef.specs.BalanceTests.{all_couplings}
use Rattle.rc_spef.proofs.balance.couplings.Goals as goal

pub returns : goal.returns
unfolding all_couplings
returns c = c.loop-net.invariant ∙ ap (λ nets. flat_map couplings nets) (take_all c.loop-net.net-index c.args.nets.now c.loop-net-test.false)
