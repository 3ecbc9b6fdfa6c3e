-- The rectangle that joins lies within the coordinates.
use Rattle.std.proofs.Common.{ℕ, subst, sym}
use Rattle.std.specs.Prelude.{All}
use Rattle.std.proofs.lemmas.List.Elements.{All-push}
use Rattle.rc_geom.specs.declared.rect.Rect.{Rect}
use Rattle.rc_layout.specs.Wide.{HasCoordinates}
use Rattle.rc_layout.proofs.port.put_port_rect.Goals as goal

pub returns-clause-near : goal.returns-clause-near
returns-clause-near c =
    subst (All (λ (rect : ℕ × Rect). HasCoordinates rect.1)) (sym c.in-Ok-push.ensures.ok)
    (All-push (λ (rect : ℕ × Rect). HasCoordinates rect.1) c.args.rects.now _ c.requires.near c.in-Some.ensures.corners)
