use Rattle.std.proofs.Common.{◌++◌, List, Option, sym, subst}
use Rattle.std.specs.Prelude.{IfSome}
use Rattle.std.proofs.lemmas.Result.{IfOk-weaker}
use Rattle.rc_shorts.specs.declared.shape.Shape.{Shape}
use Rattle.rc_shorts.specs.declared.shape.Short.{Short}
use Rattle.rc_shorts.specs.Shorts.{IsOfPair}
use Rattle.rc_shorts.specs.Exchange.{exchanged, AreNear}
use Rattle.rc_shorts.proofs.Exchanges.{pair_there}
use Rattle.rc_shorts.proofs.first.short_among_with.Goals as goal

pub returns-clause-pair : goal.returns-clause-pair
returns-clause-pair c =
    let shapes = c.args.shapes.now in
    let new = c.args.new.now in
    let near = c.deref.result.now in
    let close_by : AreNear shapes c.args.net new near = subst (λ (xs : List Shape). AreNear shapes c.args.net new xs) (sym c.deref.ensures.value) c.in_ok-near.ensures in
    IfOk-weaker c.short_near.result (λ (short : Option Short). IfSome short (IsOfPair (near ++ new))) (λ (short : Option Short). IfSome short (IsOfPair (exchanged shapes c.args.net new)))
    (pair_there shapes c.args.net new near close_by) c.short_near.ensures.pair
