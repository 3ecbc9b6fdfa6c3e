-- Both corners are placed.
use Rattle.std.proofs.Common.{ap, ◌∙◌, rules, w32}
use Rattle.std.proofs.lemmas.Int.{to_z-of_z}
use Rattle.rc_geom.specs.declared.rect.Pt.{Pt}
use Rattle.rc_geom.specs.Orients.{placed as placed_at, spanned}
use Rattle.rc_layout.proofs.comp.placed.Goals as goal

pub returns : goal.returns
returns c =
    let cell = c.args.cell.now in
    let low = (rw (to_z-of_z w32 cell.w (search rules), to_z-of_z w32 cell.h (search rules)) at c.place.ensures) ∙ ap (λ (p : Pt). placed_at c.args.o cell.w cell.h p) c.low_corner.ensures in
    let high = (rw (to_z-of_z w32 cell.w (search rules), to_z-of_z w32 cell.h (search rules)) at c.place-2.ensures) ∙ ap (λ (p : Pt). placed_at c.args.o cell.w cell.h p) c.high_corner.ensures in
    c.spanned.ensures ∙ ap (λ (p : Pt). spanned p c.place-2.result) low ∙ ap (λ (p : Pt). spanned (placed_at c.args.o cell.w cell.h (record { x = c.args.r.x0; y = c.args.r.y0 })) p) high
