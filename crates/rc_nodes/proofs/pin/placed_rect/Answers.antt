use Rattle.std.proofs.Common.{ap, sym, subst, ◌∙◌}
use Rattle.rc_geom.specs.declared.rect.Rect.{Rect}
use Rattle.rc_geom.specs.Orients.{placed_rect}
use Rattle.rc_layout.specs.Units.{moved}
use Rattle.rc_layout.specs.Wide.{HasCoordinates}
use Rattle.rc_nodes.proofs.Placed.{moved_is}
use Rattle.rc_nodes.proofs.pin.placed_rect.Goals as goal

pub moved-requires : goal.moved-requires
moved-requires c =
    let cell = c.args.cell.now in
    let drawn = moved_is cell.origin c.args.rect c.from_origin.result c.from_origin.ensures.x0 c.from_origin.ensures.y0 c.from_origin.ensures.x1 c.from_origin.ensures.y1 in
    let turned = c.turned.ensures ∙ ap (λ (r : Rect). placed_rect c.args.o cell.w cell.h r) drawn in
    subst (λ (r : Rect). HasCoordinates (moved c.args.at r)) (sym turned) c.requires.placed

pub returns : goal.returns
returns c =
    let cell = c.args.cell.now in
    let drawn = moved_is cell.origin c.args.rect c.from_origin.result c.from_origin.ensures.x0 c.from_origin.ensures.y0 c.from_origin.ensures.x1 c.from_origin.ensures.y1 in
    let turned = c.turned.ensures ∙ ap (λ (r : Rect). placed_rect c.args.o cell.w cell.h r) drawn in
    moved_is c.args.at c.turned.result c.moved.result c.moved.ensures.x0 c.moved.ensures.y0 c.moved.ensures.x1 c.moved.ensures.y1 ∙ ap (λ (r : Rect). moved c.args.at r) turned
