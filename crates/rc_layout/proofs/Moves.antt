-- Rectangles that are moved.
use Rattle.std.proofs.Common.{◌≡◌, ◌+ℤ◌, refl}
use Rattle.rc_geom.specs.declared.rect.Pt.{Pt}
use Rattle.rc_geom.specs.declared.rect.Rect.{Rect}
use Rattle.rc_layout.specs.declared.wide.WideRect.{WideRect}
use Rattle.rc_layout.specs.Units.{moved}
use Rattle.rc_layout.specs.Wide.{as_rect}

pub moved_is : (by : Pt) (q r : Rect) → r.x0 ≡ by.x +ℤ q.x0 → r.y0 ≡ by.y +ℤ q.y0 → r.x1 ≡ by.x +ℤ q.x1 → r.y1 ≡ by.y +ℤ q.y1 → r ≡ moved by q
moved_is by q r e0 e1 e2 e3 =
    let here : record { x0 = r.x0; y0 = r.y0; x1 = r.x1; y1 = r.y1 } ≡ moved by q = rw (e0, e1, e2, e3) refl in here

pub wide_moved : (at : Pt) (q : Rect) (wide : WideRect) → wide.x0 ≡ at.x +ℤ q.x0 → wide.y0 ≡ at.y +ℤ q.y0 → wide.x1 ≡ at.x +ℤ q.x1 → wide.y1 ≡ at.y +ℤ q.y1 → as_rect wide ≡ moved at q
wide_moved at q wide e0 e1 e2 e3 = rw (e0, e1, e2, e3) refl
