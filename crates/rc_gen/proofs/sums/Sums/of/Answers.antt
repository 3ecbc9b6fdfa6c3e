-- One net more.
use Rattle.std.proofs.Common.{◌<◌, ◌^◌, arith, ap, subst, sym}
use Rattle.rc_gen.specs.Adding.{Adds, HasRoom}
use Rattle.rc_gen.proofs.Additions.{adds_zero, net_room, nets_more, pairs_more}
use Rattle.rc_gen.proofs.sums.Sums.of.Goals as goal

pub loop-net-init : goal.loop-net-init
loop-net-init c = record {
  adds = adds_zero c.zero-sums.result c.zero-sums.ensures;
  few = omega (arith, ap (λ sums. sums.pairs) c.zero-sums.ensures);
}

pub add_all-requires : goal.add_all-requires
add_all-requires c =
    subst (HasRoom c.loop-net.sums) (sym c.items.ensures)
    (net_room c.args.nets.now c.loop-net.net-index c.net-item.result c.loop-net.sums (rw c.items-net-items.ensures at c.loop-net-test.true) (rw c.items-net-items.ensures at c.net-item.is) c.requires c.loop-net.invariant.adds c.loop-net.invariant.few (subst (λ n. n < 2 ^ 64) c.len-few.ensures c.len-few.type_inv) (subst (λ n. n < 2 ^ 64) c.len-many.ensures c.len-many.type_inv))

pub loop-net-preserved : goal.loop-net-preserved
loop-net-preserved c =
    let adds = subst (Adds c.loop-net.sums c.add_all.new.self) c.items.ensures c.add_all.ensures in
    record {
      adds = nets_more c.args.nets.now c.loop-net.net-index c.net-item.result c.loop-net.sums c.add_all.new.self (rw c.items-net-items.ensures at c.loop-net-test.true) (rw c.items-net-items.ensures at c.net-item.is) c.loop-net.invariant.adds adds;
      few = pairs_more c.loop-net.net-index c.net-item.result c.loop-net.sums c.add_all.new.self c.loop-net.invariant.few (subst (λ n. n < 2 ^ 64) c.len-few.ensures c.len-few.type_inv) adds;
    }
