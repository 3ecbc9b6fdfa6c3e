-- Within which ranges the numbers of a layout's parts lie.
use Rattle.std.specs.Prelude.{◌≤◌, ◌^◌, ℤ, pos, ◌≤ℤ◌, All, IfSome, length}
use Rattle.rc_lef.specs.declared.cell.Macro.{Macro}
use Rattle.rc_lef.specs.declared.cell.MacroPin.{MacroPin}
use Rattle.rc_wire.specs.declared.path.RawPath.{RawPath}
use Rattle.rc_layout.specs.declared.parts.Parts.{Parts}
use Rattle.rc_layout.specs.declared.stroke.Style.{Style}
use Rattle.rc_layout.specs.Items.{IsPoint}
use Rattle.rc_layout.specs.Wide.{HasCoordinates, IsNearVia}

-- a width or an extension that may be wide
pub record IsSpan (z : ℤ) : Type 0 where
  pub low : pos 0 ≤ℤ z
  pub high : z ≤ℤ pos (2 ^ 50)

pub record IsParts (parts : Parts) : Type 0 where
  pub factor : parts.factor ≤ 20000
  pub layers : All (λ layer. IsSpan layer.width) parts.tech.layers
  pub rules : All (λ rule. All (λ entry. IsSpan entry.1) rule.widths) parts.rules
  pub vias : All IsNearVia parts.vias
  pub few_vias : length parts.vias ≤ 2 ^ 31
  pub few_comps : length parts.comps ≤ 2 ^ 31
  pub few_ports : length parts.ports ≤ 2 ^ 31
  pub few_pins : All (λ (cell : Macro). length cell.pins ≤ 2 ^ 30) parts.tech.macros

-- its rectangles lie within the coordinates of a layout
pub record HasNearRects (pin : MacroPin) : Type 0 where
  pub rects : All (λ rect. HasCoordinates rect.1) pin.rects

-- a cell whose pins' rectangles can be placed
pub record CanStand (cell : Macro) : Type 0 where
  pub origin : IsPoint cell.origin
  pub wide : pos 0 ≤ℤ cell.w
  pub narrow : cell.w ≤ℤ pos (2 ^ 29)
  pub high : pos 0 ≤ℤ cell.h
  pub low : cell.h ≤ℤ pos (2 ^ 29)
  pub pins : All HasNearRects cell.pins

pub record IsStyle (style : Style) : Type 0 where
  pub own : IfSome style.own IsSpan

-- a path's own width isn't negative
pub record IsPath (path : RawPath) : Type 0 where
  pub width : IfSome path.width (λ width. pos 0 ≤ℤ width)
