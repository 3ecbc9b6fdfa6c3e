-- The special net that was found is the one of the net's name.
use Rattle.std.proofs.Common.{ℕ, subst}
use Rattle.std.specs.Prelude.{Option}
use Rattle.rc_def.specs.declared.raw_net.RawNet.{RawNet}
use Rattle.rc_layout.specs.Layouts.{net_added, net_linked}
use Rattle.rc_layout.specs.Refusals.{Leaves}
use Rattle.rc_layout.proofs.Joined.{special_found}
use Rattle.rc_layout.proofs.wired.Wired.add_net.Goals as goal

pub returns-clause-is : goal.returns-clause-is
unfolding net_linked
returns-clause-is c =
    subst (λ (o : Option (ℕ × RawNet)). Leaves {T = Unit {0}} c.add_supply.result c.add_supply.new.self (net_added o c.args.self.now c.args.raw))
    (special_found c.args.specials.now c.items.result.now c.args.raw c.in-Some-get.special.now c.bytes.result.now c.in-Some.place c.bytes.ensures c.items.ensures c.in-Some.ensures.place
    c.in-Some.ensures.within c.in-Some-get.ensures.lookup.1)
    c.add_supply.ensures.is
