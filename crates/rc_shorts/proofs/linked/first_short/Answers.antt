-- The shapes of a layout have places of their own.
use Rattle.std.proofs.Common.{◌≡◌, ◌∙◌, List, map, subst, sym}
use Rattle.std.specs.Prelude.{Option, IfOk, IfSome}
use Rattle.std.proofs.lemmas.Result.{IfOk-weaker}
use Rattle.rc_layout.specs.Metal.{all_nets}
use Rattle.rc_shorts.specs.declared.shape.Shape.{Shape}
use Rattle.rc_shorts.specs.declared.shape.Short.{Short}
use Rattle.rc_shorts.specs.OfLayouts.{net_metal, NamesNets}
use Rattle.rc_shorts.specs.Shorts.{HavePlaces, IsOfPair, first_short}
use Rattle.rc_shorts.proofs.Layouts.{layouts_have_places}
use Rattle.rc_shorts.proofs.OfLayouts.{names_nets}
use Rattle.rc_shorts.proofs.linked.first_short.Goals as goal

pub returns-clause-first : goal.returns-clause-first
returns-clause-first c =
    let wired = c.args.layout.now in
    let list = c.deref.result.now in
    let same = c.deref.ensures.value ∙ c.in_ok-shapes.ensures in
    let places = subst (λ (l : List Shape). HavePlaces l) (sym same) (layouts_have_places (map net_metal (all_nets wired))) in
    subst (λ (l : List Shape). IfOk c.first_among.result (λ (short : Option Short). short ≡ first_short l)) same (c.first_among.ensures.first places)

pub returns-clause-names : goal.returns-clause-names
returns-clause-names c =
    let wired = c.args.layout.now in
    let list = c.deref.result.now in
    let same = c.deref.ensures.value ∙ c.in_ok-shapes.ensures in
    IfOk-weaker c.first_among.result (λ (short : Option Short). IfSome short (IsOfPair list)) (λ (short : Option Short). IfSome short (NamesNets wired)) (λ short of. names_nets wired list short same of) c.first_among.ensures.pair
