-- The nets of a layout are few, and each has few items.
use Rattle.std.proofs.Common.{◌++◌, ◌∙◌, List, length, ap, sym, subst, arith}
use Rattle.std.specs.Prelude.{All}
use Rattle.rc_layout.specs.declared.net.Net.{Net}
use Rattle.rc_shorts.specs.declared.shape.Shape.{Shape}
use Rattle.rc_shorts.specs.OfLayouts.{HasFewItems, shapes_from}
use Rattle.rc_shorts.proofs.OfLayouts.{all_shapes, few_items}
use Rattle.rc_shorts.proofs.linked.shapes.Goals as goal

pub put_nets-requires-clause-few : goal.put_nets-requires-clause-few
put_nets-requires-clause-few c =
    let same = ap (λ (l : List Net). length l) c.nets-nets.ensures in
    let few = c.facts.ensures.few_nets in
    omega (arith, same, few)

pub put_nets-requires-clause-items : goal.put_nets-requires-clause-items
put_nets-requires-clause-items c = subst (λ (l : List Net). All HasFewItems l) (sym c.nets-nets.ensures) (few_items c.args.layout.now.parts c.args.layout.now.nets c.facts.ensures.nets)

pub overflow_cast-nets : goal.overflow_cast-nets
overflow_cast-nets c =
    let same = ap (λ (l : List Net). length l) c.nets-nets.ensures in
    let few = c.facts.ensures.few_nets in
    omega (arith, same, few)

pub put_nets-requires-2-clause-few : goal.put_nets-requires-2-clause-few
put_nets-requires-2-clause-few c =
    let same = ap (λ (l : List Net). length l) c.nets-nets.ensures in
    let others = ap (λ (l : List Net). length l) c.grounded.ensures in
    let few = c.facts.ensures.few_nets in
    omega (arith, same, others, few)

pub put_nets-requires-2-clause-items : goal.put_nets-requires-2-clause-items
put_nets-requires-2-clause-items c = subst (λ (l : List Net). All HasFewItems l) (sym c.grounded.ensures) (few_items c.args.layout.now.parts c.args.layout.now.grounded c.facts.ensures.grounded)

pub returns : goal.returns
returns c =
    let wired = c.args.layout.now in
    let m = length c.nets-nets.result.now in
    c.in_ok-put_nets-2.ensures
    ∙ (ap (λ (l : List Shape). l ++ shapes_from m c.grounded.result.now) (c.in_ok-put_nets.ensures ∙ ap (λ (l : List Shape). l ++ shapes_from 0 c.nets-nets.result.now) c.in_ok-list.ensures.items)
    ∙ (ap (λ (l : List Net). shapes_from 0 l ++ shapes_from m c.grounded.result.now) c.nets-nets.ensures
    ∙ (ap (λ (l : List Net). shapes_from 0 wired.nets ++ shapes_from m l) c.grounded.ensures
    ∙ all_shapes wired m (ap (λ (l : List Net). length l) c.nets-nets.ensures))))
