-- Rectangles of cells, where the cells are placed.
use Rattle.std.proofs.Common.{◌≡◌}
use Rattle.std.specs.Prelude.{◌+ℤ◌}
use Rattle.rc_geom.specs.declared.rect.Pt.{Pt}
use Rattle.rc_geom.specs.declared.rect.Rect.{Rect}
use Rattle.rc_layout.specs.Units.{moved}

pub moved_is : (by : Pt) (r s : Rect) → s.x0 ≡ by.x +ℤ r.x0 → s.y0 ≡ by.y +ℤ r.y0 → s.x1 ≡ by.x +ℤ r.x1 → s.y1 ≡ by.y +ℤ r.y1 → s ≡ moved by r
moved_is by r s x0 y0 x1 y1 = λ i. record { x0 = x0 i; y0 = y0 i; x1 = x1 i; y1 = y1 i }
