-- The rectangle that is tested is the one that is meant.
use Rattle.std.proofs.Common.{ap, ◌∙◌}
use Rattle.rc_geom.specs.declared.rect.Rect.{Rect}
use Rattle.rc_geom.specs.Bounds.{is_within}
use Rattle.rc_geom.specs.Orients.{placed_rect}
use Rattle.rc_layout.specs.Units.{moved}
use Rattle.rc_layout.proofs.Moves.{moved_is, wide_moved}
use Rattle.rc_layout.proofs.comp.fits_rect.Goals as goal

pub returns : goal.returns
returns c =
    let cell = c.args.cell.now in
    let shifted = moved_is cell.origin c.args.rect c.shifted.result c.shifted.ensures.x0 c.shifted.ensures.y0 c.shifted.ensures.x1 c.shifted.ensures.y1 in
    let placed = c.placed.ensures ∙ ap (λ (r : Rect). placed_rect c.args.o cell.w cell.h r) shifted in
    let there = wide_moved c.args.at c.placed.result c.moved.result c.moved.ensures.x0 c.moved.ensures.y0 c.moved.ensures.x1 c.moved.ensures.y1 in
    c.lies_near.ensures ∙ ap is_within (there ∙ ap (λ (r : Rect). moved c.args.at r) placed)
