-- Numbers that are kept wide, since they may lie outside the coordinates of a layout.
use Rattle.std.specs.Prelude.{◌≡◌, true, All, ℤ, pos, negsuc, ◌≤ℤ◌, ◌^◌, ◌-◌, ◌+◌, IfSome, if◌then◌else◌}
use Rattle.rc_geom.specs.declared.rect.Pt.{Pt}
use Rattle.rc_geom.specs.declared.rect.Rect.{Rect}
use Rattle.rc_geom.specs.Bounds.{is_within}
use Rattle.rc_geom.specs.Split.{IsCoordinate}
use Rattle.rc_layout.specs.declared.wide.WidePt.{WidePt}
use Rattle.rc_layout.specs.declared.wide.WideRect.{WideRect}
use Rattle.rc_layout.specs.declared.stroke.Stop.{Stop}
use Rattle.rc_layout.specs.declared.stroke.Stroke.{Stroke}
use Rattle.rc_lef.specs.declared.via.Via.{Via}
use Rattle.rc_lef.specs.declared.tech.LayerKind.{LayerKind}
use Rattle.rc_layout.specs.Items.{IsPoint}

abbrev pub as_point : WidePt → Pt
as_point p = record { x = p.x; y = p.y }

abbrev pub as_rect : WideRect → Rect
as_rect r = record { x0 = r.x0; y0 = r.y0; x1 = r.x1; y1 = r.y1 }

-- its corners are points of a layout
pub record HasCoordinates (r : Rect) : Type 0 where
  pub left : IsCoordinate r.x0
  pub below : IsCoordinate r.y0
  pub right : IsCoordinate r.x1
  pub above : IsCoordinate r.y1

-- within 2^50 of 0
pub record IsWide (z : ℤ) : Type 0 where
  pub low : negsuc (2 ^ 50 - 1) ≤ℤ z
  pub high : z ≤ℤ pos (2 ^ 50)

pub record IsWidePoint (p : WidePt) : Type 0 where
  pub x : IsWide p.x
  pub y : IsWide p.y

-- its point is one of a layout, and its extension isn't negative
pub record IsStop (stop : Stop) : Type 0 where
  pub at : IsPoint stop.at
  pub ext : IfSome stop.ext IsWide

-- its width isn't negative
pub record IsStroke (stroke : Stroke) : Type 0 where
  pub wide : pos 0 ≤ℤ stroke.width
  pub narrow : stroke.width ≤ℤ pos (2 ^ 50)

-- a rectangle that lies too far out stands for each that does
abbrev pub far_rect : Rect
far_rect = record { x0 = pos (2 ^ 29 + 1); y0 = pos 0; x1 = pos (2 ^ 29 + 1); y1 = pos 0 }

abbrev pub brought : Rect → Rect
brought r = if is_within r then r else far_rect

abbrev pub brought_in : LayerKind × Rect → LayerKind × Rect
brought_in entry = (entry.0, brought entry.1)

-- the pads of a via lie within the coordinates of a layout
abbrev pub HasNearPads : Via → Type 0
HasNearPads via = All (λ pad. HasCoordinates pad.1) via.pads

-- those of one that can be used
abbrev pub IsNearVia : Via → Type 0
IsNearVia via = via.usable ≡ true → HasNearPads via
