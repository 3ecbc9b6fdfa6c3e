-- The rectangle that is tested is the one that is meant.
use Rattle.std.proofs.Common.{◌≡◌, ap, ◌∙◌, subst, true, false}
use Rattle.std.specs.Prelude.{MatchOption}
use Rattle.rc_geom.specs.declared.rect.Rect.{Rect}
use Rattle.rc_geom.specs.Bounds.{is_within}
use Rattle.rc_layout.specs.Units.{moved}
use Rattle.rc_layout.proofs.Moves.{wide_moved}
use Rattle.rc_layout.proofs.port.stands_at.Goals as goal

pub returns : goal.returns
returns c =
    let there = wide_moved c.args.at c.turned_rect.result c.moved.result c.moved.ensures.x0 c.moved.ensures.y0 c.moved.ensures.x1 c.moved.ensures.y1 in
    subst (λ (r : Rect). MatchOption c.near_rect.result (is_within r ≡ false) (λ q. (q ≡ r) × (is_within r ≡ true)))
    (there ∙ ap (λ (r : Rect). moved c.args.at r) c.turned_rect.ensures) c.near_rect.ensures.is
