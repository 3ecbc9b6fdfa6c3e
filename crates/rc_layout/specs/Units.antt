-- Numbers of a design in units of the layout.
use Rattle.std.specs.Prelude.{ℕ, ℤ, pos, ◌+ℤ◌, ◌*ℤ◌, ◌==◌, ◌/◌, ◌%◌, Option, Some, None, if◌then◌else◌}
use Rattle.rc_geom.specs.declared.rect.Pt.{Pt}
use Rattle.rc_geom.specs.declared.rect.Rect.{Rect}
use Rattle.rc_geom.specs.declared.orient.Orient.{Orient}
use Rattle.rc_geom.specs.Orients.{placed_rect}
use Rattle.rc_lef.specs.declared.units.Units.{Units}
use Rattle.rc_lef.specs.Lengths.{in_a_micron}

-- how many units of the layout a unit of the design has, where that is a whole number
abbrev pub factor : Option Units → ℕ → Option ℕ
factor None design = None
factor (Some units) design = if in_a_micron units % design == 0 then Some (in_a_micron units / design) else None

abbrev pub scaled : ℕ → ℤ → ℤ
scaled k z = pos k *ℤ z

abbrev pub scaled_point : ℕ → Pt → Pt
scaled_point k p = record { x = scaled k p.x; y = scaled k p.y }

abbrev pub scaled_rect : ℕ → Rect → Rect
scaled_rect k r = record { x0 = scaled k r.x0; y0 = scaled k r.y0; x1 = scaled k r.x1; y1 = scaled k r.y1 }

-- ---- rectangles, moved and turned

abbrev pub low_corner : Rect → Pt
low_corner r = record { x = r.x0; y = r.y0 }

abbrev pub moved : Pt → Rect → Rect
moved by r = record { x0 = by.x +ℤ r.x0; y0 = by.y +ℤ r.y0; x1 = by.x +ℤ r.x1; y1 = by.y +ℤ r.y1 }

-- turned round the origin
abbrev pub turned_rect : Orient → Rect → Rect
turned_rect o r = placed_rect o (pos 0) (pos 0) r
