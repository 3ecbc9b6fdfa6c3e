use Rattle.std.proofs.Common.{subst, sym}
use Rattle.std.specs.Prelude.{All, ℕ}
use Rattle.rc_geom.specs.declared.rect.Rect.{Rect}
use Rattle.rc_nodes.specs.Pins.{CanPlacePin, CanPlaceRect}
use Rattle.rc_nodes.proofs.contact.add_placed_pin.Goals as goal

pub add_placed-requires-clause-rects : goal.add_placed-requires-clause-rects
add_placed-requires-clause-rects c =
    subst (All (λ (drawn : ℕ × Rect). CanPlaceRect c.args.cell.now (c.in-Some.at, c.in-Some.o) drawn.1)) (sym c.items.ensures)
    (subst (λ place. CanPlacePin c.args.cell.now place c.args.pin.now) c.in-Some.is c.requires.place)
