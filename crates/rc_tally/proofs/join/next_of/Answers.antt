use Rattle.std.proofs.Common.{◌≡◌, refl, sym, ap, ◌∙◌, inl, inr, arith}
use Rattle.std.specs.declared.cmp.Ordering.{Ordering}
use Rattle.std.specs.declared.cmp.Ordering.TheVariants.{Greater}
use Rattle.std.proofs.lemmas.List.{get_or_default}
use Rattle.rc_geom.specs.declared.key.Key.{Key}
use Rattle.rc_tally.specs.declared.entry.Entry.{Entry}
use Rattle.rc_tally.specs.Tallies.{key_order}
use Rattle.rc_tally.proofs.Orders.{derived_order, more_is_less}
use Rattle.rc_tally.proofs.join.next_of.Goals as goal

pub returns-in-Greater : goal.returns-in-Greater
returns-in-Greater g c =
    let d = c.index-a-i-2.result in
    let e = c.index-b-j-2.result in
    let above : key_order d.key e.key ≡ Greater = sym (ap (λ (o : Key → Key → Ordering). o d.key e.key) derived_order) ∙ (sym c.cmp.ensures ∙ c.in-Greater.is) in
    inr (inl (
      record {
        within = omega arith;
        is = sym c.index-b-j-2.is;
        lower = λ x within. ap (λ (y : Entry g.row.V.Denot). key_order e.key y.key) (get_or_default c.args.a.now c.args.i x d within ∙ sym c.index-a-i-2.is) ∙ more_is_less d.key e.key above;
      },
      refl,
      refl,
    ))
