-- The derived order of keys.
use Rattle.std.proofs.Common.{◌≡◌, refl, ap}
use Rattle.std.specs.declared.cmp.Ordering.{Ordering}
use Rattle.std.specs.declared.cmp.Ordering.TheVariants.{Less, Equal, Greater}
use Rattle.std.specs.Ordering.{ordering_then, nat_cmp}
use Rattle.rc_geom.specs.declared.key.Key.TheVariants.{Ground, Pair}
use Rattle.rc_geom.specs.contracts.key.KeyOrd.TheImpl as block
use Rattle.rc_geom.specs.Laws.{KeysHaveAnOrder}

-- where nothing more is compared, the answer stays
then_equal : (o : Ordering) → o ≡ ordering_then o Equal
then_equal Less = refl
then_equal Equal = refl
then_equal Greater = refl

pub keys_have_an_order : KeysHaveAnOrder block.ghosts.cmp
keys_have_an_order (Ground net node) (Ground net' node') =
    ap (ordering_then (nat_cmp net net')) (then_equal (nat_cmp node node'))
keys_have_an_order (Ground net node) (Pair net' node' other' onode') = refl
keys_have_an_order (Pair net node other onode) (Ground net' node') = refl
keys_have_an_order (Pair net node other onode) (Pair net' node' other' onode') =
    ap (λ last. ordering_then (nat_cmp net net') (ordering_then (nat_cmp node node') (ordering_then (nat_cmp other other') last)))
    (then_equal (nat_cmp onode onode'))
