use Rattle.std.proofs.Common.{◌≡◌, ◌∙◌, ◌++◌, ◌∷◌, [], ℤ, to_z, of_z, w32, ap, rules}
use Rattle.rc_lef.proofs.Picked.{width_known, width_new}
use Rattle.rc_lef.proofs.numbers.put_width.Goals as goal

pub returns-then-has_width : goal.returns-then-has_width
returns-then-has_width c = width_known c.args.widths.now c.items.result.now c.args.kind c.args.width c.in-Routing.number c.in-Some.width c.has_width.result c.in-Routing.is c.in-Some.is c.items.ensures c.has_width.ensures c.if-has_width.true

pub returns : goal.returns
returns c =
    let same : to_z w32 (of_z w32 c.in-Some.width) ≡ c.in-Some.width = search rules in
    width_new c.args.widths.now c.items.result.now _ c.args.kind c.args.width c.in-Routing.number c.in-Some.width c.has_width.result c.in-Routing.is c.in-Some.is c.items.ensures c.has_width.ensures c.if-has_width.false (c.in_ok-push.ensures.ok ∙ ap (λ (w : ℤ). c.args.widths.now ++ (c.in-Routing.number, w) ∷ []) same)
