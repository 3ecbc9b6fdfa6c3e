use Rattle.std.proofs.Common.{ap, ◌∙◌}
use Rattle.rc_geom.specs.declared.rect.Pt.{Pt}
use Rattle.rc_geom.specs.Orients.{placed, spanned}
use Rattle.rc_nodes.proofs.pin.turned.Goals as goal

pub returns : goal.returns
returns c =
    let cell = c.args.cell.now in
    let low = c.turned_point-low.ensures ∙ ap (λ (p : Pt). placed c.args.o cell.w cell.h p) c.low_corner.ensures in
    let high = c.turned_point-high.ensures ∙ ap (λ (p : Pt). placed c.args.o cell.w cell.h p) c.high_corner.ensures in
    c.spanned.ensures ∙ (ap (λ (p : Pt). spanned p c.turned_point-high.result) low ∙ ap (λ (p : Pt). spanned (placed c.args.o cell.w cell.h (record { x = c.args.r.x0; y = c.args.r.y0 })) p) high)
