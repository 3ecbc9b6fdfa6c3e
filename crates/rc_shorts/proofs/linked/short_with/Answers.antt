-- A net exchanged in the layout is its shapes exchanged in the list.
use Rattle.std.proofs.Common.{◌≡◌, ◌++◌, ◌∙◌, List, ap}
use Rattle.std.specs.Prelude.{Option, IfSome}
use Rattle.std.proofs.lemmas.Result.{IfOk-weaker}
use Rattle.rc_shorts.specs.declared.shape.Shape.{Shape}
use Rattle.rc_shorts.specs.declared.shape.Short.{Short}
use Rattle.rc_shorts.specs.Exchange.{exchanged}
use Rattle.rc_shorts.specs.OfLayouts.{net_metal, NamesNets}
use Rattle.rc_shorts.specs.Places.{net_shapes}
use Rattle.rc_shorts.specs.Shorts.{IsOfPair}
use Rattle.rc_shorts.proofs.OfLayouts.{exchange_is, exchanged_is, exchange_names}
use Rattle.rc_shorts.proofs.linked.short_with.Goals as goal

pub returns-clause-first : goal.returns-clause-first
returns-clause-first c =
    let wired = c.args.layout.now in
    let new = c.args.new.now in
    let list = c.deref.result.now in
    let fresh = c.deref-2.result.now in
    let same = c.deref.ensures.value ∙ c.in_ok-shapes.ensures in
    let is = c.deref-2.ensures.value ∙ (c.in_ok-put_net.ensures ∙ ap (λ (l : List Shape). l ++ net_shapes c.args.net (net_metal new)) c.in_ok-fresh.ensures.items) in
    IfOk-weaker c.short_among_with.result (λ (short : Option Short). short ≡ _) (λ (short : Option Short). short ≡ _) (λ short told. told ∙ exchanged_is wired c.args.net new list fresh c.requires.net same is)
    (c.short_among_with.ensures.first (exchange_is wired c.args.net new list fresh same is c.requires.clear))

pub returns-clause-names : goal.returns-clause-names
returns-clause-names c =
    let wired = c.args.layout.now in
    let new = c.args.new.now in
    let list = c.deref.result.now in
    let fresh = c.deref-2.result.now in
    let same = c.deref.ensures.value ∙ c.in_ok-shapes.ensures in
    let is = c.deref-2.ensures.value ∙ (c.in_ok-put_net.ensures ∙ ap (λ (l : List Shape). l ++ net_shapes c.args.net (net_metal new)) c.in_ok-fresh.ensures.items) in
    IfOk-weaker c.short_among_with.result (λ (short : Option Short). IfSome short (IsOfPair (exchanged list c.args.net fresh))) (λ (short : Option Short). IfSome short (NamesNets wired))
    (λ short of. exchange_names wired c.args.net new list fresh short c.requires.net same is of) c.short_among_with.ensures.pair
