-- The first short with the net, or none.
use Rattle.std.proofs.Common.{◌∙◌, List, refl, subst, sym}
use Rattle.rc_layout.specs.Layouts.{with_put}
use Rattle.rc_shorts.specs.declared.shape.Shape.{Shape}
use Rattle.rc_shorts.specs.Exchange.{AreNear}
use Rattle.rc_shorts.specs.OfLayouts.{layout_shapes}
use Rattle.rc_shorts.proofs.OfLayouts.{exchange_is, exchanged_is}
use Rattle.rc_engine.proofs.Refusals.{short_is, no_short}
use Rattle.rc_engine.proofs.candidate.refuse_short_with.Goals as goal

pub returns-in-Some-clause-fault : goal.returns-in-Some-clause-fault
returns-in-Some-clause-fault c =
    let wired = c.args.layout.now in
    let fresh = c.deref.result.now in
    let is = c.deref.ensures.value ∙ c.in_ok-fresh.ensures in
    let first = c.in_ok-short.ensures.first (layout_shapes wired) c.args.number (exchange_is wired c.args.number c.args.new.now (layout_shapes wired) fresh refl is c.requires.clear)
    (subst (λ (l : List Shape). AreNear (layout_shapes wired) c.args.number l c.args.near.now) (sym is) c.requires.near)
    ∙ exchanged_is wired c.args.number c.args.new.now (layout_shapes wired) fresh c.requires.number refl is in
    short_is (with_put wired c.args.number c.args.new.now) c.in_ok-short.field-0 c.in-Some.short c.short_refusal.result first c.in-Some.is c.short_refusal.ensures

pub returns-clause-clear : goal.returns-clause-clear
returns-clause-clear c =
    let wired = c.args.layout.now in
    let fresh = c.deref.result.now in
    let is = c.deref.ensures.value ∙ c.in_ok-fresh.ensures in
    let first = c.in_ok-short.ensures.first (layout_shapes wired) c.args.number (exchange_is wired c.args.number c.args.new.now (layout_shapes wired) fresh refl is c.requires.clear)
    (subst (λ (l : List Shape). AreNear (layout_shapes wired) c.args.number l c.args.near.now) (sym is) c.requires.near)
    ∙ exchanged_is wired c.args.number c.args.new.now (layout_shapes wired) fresh c.requires.number refl is in
    no_short (with_put wired c.args.number c.args.new.now) c.in_ok-short.field-0 first c.in-None.is
